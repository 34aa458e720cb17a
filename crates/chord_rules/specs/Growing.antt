-- The methods that are new in a class, header by header, and the room that they take.
use Rattle.std.specs.Prelude.{ℕ, List, ◌++◌, map, Option}
use Rattle.chord_tree.specs.Tree.{HeaderTree}
use Rattle.chord_classes.specs.Table.{Method}
use Rattle.chord_classes.specs.ChordRules.{header_tokens, new_headers}
use Rattle.chord_classes.specs.MethodViews.{see_method}
use Rattle.chord_classes.specs.Entries.{IsGrown}
use Rattle.chord_rules.specs.declared.own_methods.Grown.{Grown}
use Rattle.chord_rules.specs.Limits.{TakesRoom}

-- Methods were added by headers; the first header of each took room, and those for which there was none are noted.
pub record IsCounted (inherited : List Method) (owner : ℕ) (headers : List HeaderTree) (before after : Grown) (least_before least_after : Option ℕ) : Type 0 where
  pub grown : IsGrown inherited owner headers before.own.all.items after.own.all.items
  pub room : TakesRoom (header_tokens (new_headers owner (inherited ++ map see_method before.own.all.items) headers)) before.room after.room least_before least_after
