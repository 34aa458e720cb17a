-- What the notes of a search say of the bags.
use Rattle.std.specs.Prelude.{List, map, Option, Some, None}
use Rattle.chord_bag.specs.declared.walk.Sought.{Sought}
use Rattle.chord_bag.specs.declared.walk.Sought.TheVariants as a_sought
use Rattle.chord_match.specs.declared.notes.Note.{Note}
use Rattle.chord_match.specs.declared.notes.Note.TheVariants.{Nothing, Bare, Busy, Last, Before}

-- what a note says that a walk came to
abbrev pub told_by : Note → Option Sought
told_by Nothing = None
told_by Bare = Some a_sought.Bare
told_by (Busy i) = Some (a_sought.Busy i)
told_by (Last i) = Some (a_sought.Found i None)
told_by (Before i next) = Some (a_sought.Found i (Some next))

-- what is known of the bag of each method
abbrev pub all_told : List Note → List (Option Sought)
all_told notes = map told_by notes
