-- Keeping: each entry of the run is kept in exactly one place.
-- A place has a number: 2 j is the desk j, and 2 i + 1 the parcel of the number i.
use Rattle.std.specs.Prelude.{◌≡◌, ℕ, ◌+◌, ◌*◌, ◌/◌, ◌%◌, ◌==◌, if◌then◌else◌, min, List, [], length, Some, None}
use mathlib.Core.Option as maybe
use mathlib.Core.Option.{some, none}
use lib.ListN.{get_elem?}
use Rattle.chord_base.specs.Meaning.{Program}
use Rattle.chord_base.specs.Story.{IsMerged}
use Rattle.chord_base.specs.declared.event.Entry.{Entry}
use Rattle.chord_rule.specs.declared.view.View.{View}
use Rattle.chord_rule.specs.Moment.{Home}

-- the place of a desk
abbrev pub desk : ℕ → ℕ
desk j = 2 * j

-- the place of the parcel of a number
abbrev pub parcel : ℕ → ℕ
parcel i = 2 * i + 1

-- what a desk keeps
abbrev pub at_desk : maybe.Option View → List Entry
at_desk none = []
at_desk (some v) = v.kept

module _ {P : Type 0} (entries : P → List Entry) where
  -- what a slot keeps
  abbrev pub at_home : Home P → List Entry
  at_home none = []
  at_home (some None) = []
  at_home (some (Some q)) = entries q

  -- what each place keeps
  abbrev pub kept_at : List View → (ℕ → Home P) → ℕ → List Entry
  kept_at views homes c = if c % 2 == 0 then at_desk (get_elem? views (c / 2)) else at_home (homes (c / 2))

  -- the journal is a run of as many entries as the counter says, at most n, and each entry is kept in exactly one place
  pub record Keeping (p : Program) (n count : ℕ) (homes : ℕ → Home P) (views : List View) (journal : List Entry) : Type 0 where
    pub long : length journal ≡ min count n
    pub merged : IsMerged p (kept_at views homes) journal
