-- What desks have in hand: each number at most one desk, for one thing, as it stands.
use Rattle.std.specs.Prelude.{◌≡◌, ◌⊎◌, ℕ, List, Option, Some}
use mathlib.Core.Option.{some}
use lib.ListN.{get_elem?}
use Rattle.chord_base.specs.declared.event.Entry.{Entry}
use Rattle.chord_base.specs.Messages.{AreDifferent}
use Rattle.chord_base.specs.Story.{IsIn}
use Rattle.chord_rule.specs.declared.view.Claim.{Claim}
use Rattle.chord_rule.specs.declared.view.View.{View}
use Rattle.chord_rule.specs.Numbers.{HasNumber}
use Rattle.chord_rule.specs.Claims.{HasThe, claimed_numbers}
use Rattle.chord_rule.specs.Stages.{Hold, Fresh, Placing, Flying, Claiming, Emptying, Unposted, Posting, Starting, Stage, InHand}

-- the part of a view that tells what the desk has in hand
pub record Hand : Type 0 where
  pub fresh : List ℕ
  pub placing : Option ℕ
  pub flight : Option ℕ
  pub bag : ℕ
  pub above : Option ℕ
  pub claims : List Claim
  pub emptying : Option ℕ
  pub unposted : List ℕ
  pub posting : Option ℕ
  pub starting : Option ℕ

-- what a desk of this view has in hand
abbrev pub hand : View → Hand
hand v = record { fresh = v.fresh; placing = v.placing; flight = v.flight; bag = v.bag; above = v.above; claims = v.claims; emptying = v.emptying; unposted = v.unposted; posting = v.posting; starting = v.starting }

-- the desk has the number in hand for this
abbrev pub Holds : Hand → ℕ → Hold → Type 0
Holds a i Fresh = HasNumber i a.fresh
Holds a i Placing = a.placing ≡ Some i
Holds a i (Flying k above) = (a.flight ≡ Some i) × (a.bag ≡ k) × (a.above ≡ above)
Holds a i (Claiming c) = HasThe c a.claims × (c.number ≡ i)
Holds a i Emptying = a.emptying ≡ Some i
Holds a i Unposted = HasNumber i a.unposted
Holds a i Posting = a.posting ≡ Some i
Holds a i Starting = a.starting ≡ Some i

-- the desk has drawn the message and not linked it
abbrev pub IsUnlinked : Hand → ℕ → Type 0
IsUnlinked a i = HasNumber i a.fresh ⊎ (a.placing ≡ Some i)

-- the desk has drawn the message and not armed it
abbrev pub IsUnarmed : View → ℕ → Type 0
IsUnarmed v i = HasNumber i v.fresh ⊎ ((v.placing ≡ Some i) ⊎ (v.flight ≡ Some i))

-- the entry of this number is kept
abbrev pub KeepsNumber : List Entry → ℕ → Type 0
KeepsNumber es i = (e : Entry) × IsIn e es × (e.number ≡ i)

-- what desks have in hand is what the stages of numbers say
pub record Hands (views : List View) (stage : ℕ → Stage) : Type 0 where
  -- what a desk has in hand stands so
  pub holds : (j : ℕ) (v : View) → get_elem? views j ≡ some v → (i : ℕ) (x : Hold) → Holds (hand v) i x → stage i ≡ InHand j x
  -- and what stands so, the desk has in hand
  pub held : (i j : ℕ) (x : Hold) → stage i ≡ InHand j x → (v : View) × (get_elem? views j ≡ some v) × Holds (hand v) i x
  -- a desk keeps the entries of the messages that it has not linked
  pub kept : (j : ℕ) (v : View) → get_elem? views j ≡ some v → (i : ℕ) → IsUnlinked (hand v) i → KeepsNumber v.kept i
  -- a desk has claimed no message twice
  pub once : (j : ℕ) (v : View) → get_elem? views j ≡ some v → AreDifferent (claimed_numbers v.claims)
