-- What the rule of the roll says of who is at work.
use Rattle.std.specs.Prelude.{◌≡◌, ◌≢◌, ◌<◌, ℕ, true, false, slice_index}
use mathlib.Core.Option.{some}
use lib.ListN.{get_elem?}
use Rattle.atomic_table.specs.Table.{State}
use Rattle.chord_roll.specs.declared.turnout.Turnout.{Turnout}
use Rattle.chord_roll.specs.Roll.{IsRoll, OneTells}

-- where the roll says 0, no card counts
abbrev pub NobodyCounts : Type 0
NobodyCounts = (s : State (Unit {0}) Turnout) → IsRoll s → slice_index s.words 0 ≡ 0 → (id : ℕ) (t : Turnout) → get_elem? s.views id ≡ some t → t.counts ≡ false

-- where it does not say 0, a card counts
abbrev pub OneCounts : Type 0
OneCounts = (s : State (Unit {0}) Turnout) → IsRoll s → 0 < slice_index s.words 0 → (id : ℕ) × (t : Turnout) × (get_elem? s.views id ≡ some t) × (t.counts ≡ true)

-- once a worker has told all to stop, or read that they are to, whoever reads it is told so
abbrev pub AllAreTold : Type 0
AllAreTold = (s : State (Unit {0}) Turnout) → IsRoll s → (id : ℕ) (t : Turnout) → get_elem? s.views id ≡ some t → t.stops ≡ true → slice_index s.words 1 ≢ 0

-- nobody is told so unless a worker has told all
abbrev pub OneTold : Type 0
OneTold = (s : State (Unit {0}) Turnout) → IsRoll s → slice_index s.words 1 ≢ 0 → OneTells s.views
