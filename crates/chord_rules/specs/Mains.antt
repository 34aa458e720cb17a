-- The rule on `Main`, header by header, and how many members there are.
use Rattle.std.specs.Prelude.{ℕ, ◌+◌, List, [], ◌∷◌, ◌++◌, Bool, true, false, not, ◌||◌, cond, length}
use Rattle.chord_classes.specs.NameRules.{when}
use Rattle.chord_tree.specs.Tree.{HeaderTree, ClassTree}
use Rattle.chord_classes.specs.Table.{is_main}
use Rattle.chord_classes.specs.ChordRules.{MainAt, is_right_main}

-- there is a header named `Main`
abbrev pub some_main : List MainAt → Bool
some_main [] = false
some_main (main ∷ more) = true

-- the headers named `Main` that are not as they should be, or stand behind one
abbrev pub wrong_from : Bool → List MainAt → List ℕ
wrong_from seen [] = []
wrong_from seen (main ∷ more) = when (seen || not main.right) main.at ++ wrong_from true more

-- a header of a chord, if it is named `Main`
abbrev pub main_at : List HeaderTree → HeaderTree → List MainAt
main_at headers header = cond (is_main header) (record { right = is_right_main headers header; at = header.name.at } ∷ []) []

-- how many members classes have
abbrev pub member_sum : List ClassTree → ℕ
member_sum [] = 0
member_sum (class ∷ more) = length class.members + member_sum more
