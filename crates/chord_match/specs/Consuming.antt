-- The members of a firing are consumed one after another, and their parcels handed out.
use Rattle.std.specs.Prelude.{◌≡◌, ◌≢◌, ℕ, ◌<◌, ◌≤◌, List, [], ◌∷◌, ◌++◌, map, length, reverse, Some, None}
use Rattle.chord_base.specs.Meaning.{Program}
use Rattle.chord_base.specs.declared.event.Entry.{Entry}
use Rattle.chord_base.specs.declared.value.Object.{Object}
use Rattle.chord_base.specs.declared.value.Value as value
use Rattle.chord_word.specs.declared.cells.Cell.TheVariants.{Consumed}
use Rattle.chord_rule.specs.declared.view.Claim.{Claim}
use Rattle.chord_rule.specs.declared.view.Duty.{Duty}
use Rattle.chord_rule.specs.declared.view.Look.{Look}
use Rattle.chord_rule.specs.declared.view.Looked.{Looked}
use Rattle.chord_rule.specs.declared.view.View.{View}
use Rattle.chord_rule.specs.Claims.{HasThe}
use Rattle.chord_rule.specs.Numbers.{HasNumber}
use Rattle.chord_match.specs.Fires.{messages_and_cells, all_with, all_together, drop_duties, laid_together, AreOlder, AreComing}

-- one of the claims is on the message i, to the method j of the object, for the firing f
pub record IsFiredFor (cs : List Claim) (f : ℕ) (o : Object) (j i : ℕ) : Type 0 where
  pub claim : Claim
  pub there : HasThe claim cs
  pub numbered : claim.number ≡ i
  pub object : claim.object ≡ o
  pub method : claim.method ≡ j
  pub firing : claim.firing ≡ Some f

-- the members are claimed for the firing f, one for each method in order, and these are their arguments laid together
abbrev pub AreFired : List Claim → ℕ → Object → List ℕ → List ℕ → List value.Value → Type 0
AreFired cs f o [] [] us = us ≡ []
AreFired cs f o (j ∷ js) (i ∷ ms) us = (x : IsFiredFor cs f o j i) × (rest : List value.Value) × (us ≡ x.claim.values ++ rest) × AreFired cs f o js ms rest
AreFired cs f o _ _ us = ⊥

-- no member stands among these twice
abbrev pub AreApart : List ℕ → Type 0
AreApart [] = Unit {0}
AreApart (i ∷ ms) = ((k : ℕ) → HasNumber k ms → k ≢ i) × AreApart ms

-- the claims are those on these members, which the firing f took, and no slot is on its way home
pub record Consuming (n : ℕ) (v : View) (o : Object) (js ms : List ℕ) (f : ℕ) (us : List value.Value) : Type 0 where
  pub fired : AreFired v.claims f o js ms us
  pub many : length v.claims ≤ length ms
  pub apart : AreApart ms
  pub below : (k : ℕ) → HasNumber k ms → k < n
  pub home : v.emptying ≡ None

-- the desk with what came and without what was consumed
abbrev pub handed_over : View → List Entry → List Duty → Looked → View
handed_over v es ds l = record v { kept = es; claims = []; duties = ds; looked = l }

-- the parcels of these members came, and hold these arguments
pub record Handed {P : Type 0} (entries : P → List Entry) (arguments : P → List value.Value) (keeps_to : P → Type 0) (p : Program) (v w : View) (o : Object) (js ms : List ℕ) (f : ℕ) (us : List value.Value) (qs : List P) : Type 0 where
  pub frame : w ≡ handed_over v (all_together v.kept (map entries qs)) (drop_duties ms v.duties) w.looked
  pub each : length qs ≡ length ms
  pub arguments_are : us ≡ laid_together arguments qs
  pub older : AreOlder entries keeps_to f qs
  pub coming : AreComing p entries o v.kept js ms qs
  -- the members were consumed in order and each once, and nothing else was looked at
  pub looks : List Look
  pub remembered : w.looked ≡ record v.looked { seen = looks ++ v.looked.seen }
  pub in_order : messages_and_cells looks ≡ all_with Consumed (reverse ms)
