-- A firing is younger than all that the parcels of its members hold.
use Rattle.std.specs.Prelude.{◌≡◌, ℕ, List, Some}
use mathlib.Core.Option.{some}
use Rattle.chord_base.specs.declared.event.Entry.{Entry}
use Rattle.chord_base.specs.Story.{AllBelow}
use Rattle.chord_rule.specs.declared.view.Claim.{Claim}
use Rattle.chord_rule.specs.Moment.{Home}
use Rattle.chord_rule.specs.Stages.{Claiming, Stage, InHand}

-- a firing that was drawn with a claim is younger than each entry that the claimed message's parcel keeps
pub record Younger {P : Type 0} (entries : P → List Entry) (homes : ℕ → Home P) (stage : ℕ → Stage) : Type 0 where
  pub below : (i j : ℕ) (c : Claim) (f : ℕ) (q : P) → stage i ≡ InHand j (Claiming c) → c.firing ≡ Some f → homes i ≡ some (Some q) → AllBelow f (entries q)
