-- All rules on names and types, noted on one walk, each break as one number.
use Rattle.std.specs.Prelude.{◌≡◌, ◌<◌, ◌+◌, ◌*◌, ℕ, List, ◌++◌, Some, None}
use Rattle.chord_tree.specs.Tree.{ItemTree, MemberTree, ClassTree, ProgramTree}
use Rattle.chord_tree.specs.Terms.{Term}
use Rattle.chord_tree.specs.Walk.{Role}
use Rattle.chord_tree.specs.Laws.{Notes}
use Rattle.chord_classes.specs.Table.{Shape, table_of}
use Rattle.chord_classes.specs.Site.{Site}
use Rattle.chord_classes.specs.TypedTerms.{TypedTerm}
use Rattle.chord_classes.specs.NameRules.{undeclared, unknown, inaccessible, used_valueless, miscounted, too_large, too_long}
use Rattle.chord_classes.specs.TypeRules.{disagreeing}
use Rattle.chord_classes.specs.Typed.{typed_term}
use Rattle.chord_classes.specs.ItemRules.{undeclared_item, undeclared_member, unknown_item, disagreeing_item, misreturned, redeclared, unreturned}
use Rattle.chord_classes.specs.Rules.{in_program, is_type_rule, IsFree}
use Rattle.chord_classes.specs.Breaks.{IsBreak}
use Rattle.chord_classes.specs.Least.{keys, least}

-- what is broken at an expression, with the types of its parts
abbrev pub typed_term_keys : Site → Role → TypedTerm → List ℕ
typed_term_keys site role parts =
    keys 2 (undeclared site parts) ++ (keys 23 (too_large parts) ++ (keys 24 (too_long parts) ++ (keys 14 (unknown site role parts)
    ++ (keys 15 (disagreeing site parts) ++ (keys 16 (inaccessible site parts) ++ (keys 19 (used_valueless site role parts) ++ keys 22 (miscounted site parts)))))))

-- what is broken at an expression
abbrev pub term_keys : Site → Role → Term → List ℕ
term_keys site role term = typed_term_keys site role (typed_term site term)

-- what is broken at an item
abbrev pub item_keys : Site → ItemTree → List ℕ
item_keys site item = keys 2 (undeclared_item site item) ++ (keys 14 (unknown_item site item) ++ (keys 15 (disagreeing_item site item) ++ (keys 18 (misreturned site item) ++ keys 20 (redeclared site item))))

-- what is broken at a member
abbrev pub member_keys : List Shape → ClassTree → MemberTree → List ℕ
member_keys table class member = keys 2 (undeclared_member table member) ++ keys 17 (unreturned member)

-- all that a program breaks of the rules on names and types, in the order of the walk
abbrev pub all_notes : ProgramTree → Notes Site ℕ
all_notes program = record { at_term = term_keys; at_item = item_keys; at_member = member_keys (table_of program) }

-- The least number that is noted is the break of the program among the rules on names and types, and where none is noted it breaks none of these.
pub record IsLeastBreak (program : ProgramTree) : Type 0 where
  pub some : (rule at : ℕ) → least None (in_program program (all_notes program)) ≡ Some (32 * at + rule) → rule < 32 → IsBreak is_type_rule program rule at
  pub none : least None (in_program program (all_notes program)) ≡ None → IsFree is_type_rule program

-- This holds of every program.
abbrev pub LeastIsBreak : Type 0
LeastIsBreak = (program : ProgramTree) → IsLeastBreak program
