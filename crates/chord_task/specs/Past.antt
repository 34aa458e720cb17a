-- What the bodies of a task did, and what a call adds to it and to the list of whoever drew the entry.
use Rattle.std.specs.Prelude.{◌≡◌, List, [], ◌∷◌, ◌++◌}
use Rattle.chord_base.specs.declared.event.Entry.{Entry}
use Rattle.chord_task.specs.declared.past.Known.{Known, Nothing, More'}

-- the entries of which is known, the oldest first
abbrev pub entries_known : Known → List Entry
entries_known Nothing = []
entries_known (More' _ before last) = entries_known before ++ last.value ∷ []

-- a past and a list got the same entry
pub record AddsOne (old new old_list new_list : List Entry) : Type 0 where
  pub entry : Entry
  pub past : new ≡ old ++ entry ∷ []
  pub list : new_list ≡ old_list ++ entry ∷ []
