-- From a step of the rule of chord_rule to a step of a space's rule, which also has that its code is valid and sound.
use Rattle.std.proofs.Common.{ℕ, List, Option}
use Rattle.atomic_table.specs.Table.{State, Me, Allows, Splits, Joins}
use Rattle.chord_base.specs.declared.event.Entry.{Entry}
use Rattle.chord_base.specs.declared.event.Limits.{Limits}
use Rattle.chord_base.specs.declared.value.Value as value
use Rattle.chord_code.specs.declared.parts.Parts.{Parts}
use Rattle.chord_code.specs.Meaning.{code_program}
use Rattle.chord_code.specs.Sound.{IsSoundUnder}
use Rattle.chord_code.specs.Valid.{IsValid}
use Rattle.chord_rule.specs.declared.view.View.{View}
use Rattle.chord_rule.specs.Whole.{Held}
use Rattle.chord_space.specs.Ruled.{Ruled}
use Rattle.chord_space.specs.Widest.{widest}

module _ {P : Type 0} (entries : P → List Entry) (arguments : P → List value.Value) (keeps_to : P → Parts → Limits → Type 0) (code : Parts) (limits : Limits) where
  -- the rule of chord_rule for this code
  abbrev H : State (Option P) View → Type 0
  H = Held entries arguments (λ q. keeps_to q code limits) (code_program code limits) limits.events (widest code)

  -- a step may tell, of a valid and sound code, what follows from it
  pub under_telling : (slots id : ℕ) (me : Me (Option P) View) (i : ℕ) (f : ℕ → ℕ) (then more : ℕ → Me (Option P) View → Type 0) → ((x : ℕ) (w : Me (Option P) View) → IsValid code → IsSoundUnder code limits → then x w → more x w) → Allows H slots id me i f then → Allows (Ruled entries arguments keeps_to code limits) slots id me i f more
  under_telling slots id me i f then more tells allows s h deep at word = let r = allows s h.0 deep at word in (r.0, r.1, r.2, (r.3, h.1, h.2), tells _ _ h.1 h.2 r.4)

  -- a step keeps what does not change
  pub under_rule : (slots id : ℕ) (me : Me (Option P) View) (i : ℕ) (f : ℕ → ℕ) (then : ℕ → Me (Option P) View → Type 0) → Allows H slots id me i f then → Allows (Ruled entries arguments keeps_to code limits) slots id me i f then
  under_rule slots id me i f then allows = under_telling slots id me i f then then (λ x w valid sound told. told) allows

  -- so does a split
  pub under_split : (id : ℕ) (v left right : View) → Splits H id v left right → Splits (Ruled entries arguments keeps_to code limits) id v left right
  under_split id v left right splits s h at = (splits s h.0 at, h.1, h.2)

  -- and a join
  pub under_join : (id other : ℕ) (v w both spent : View) → Joins H id v other w both spent → Joins (Ruled entries arguments keeps_to code limits) id v other w both spent
  under_join id other v w both spent joins s h at apart there = (joins s h.0 at apart there, h.1, h.2)
