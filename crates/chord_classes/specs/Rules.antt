-- All rules, each of the whole program: the tokens at which it is broken.
use Rattle.std.specs.Prelude.{◌≡◌, ℕ, List, [], ◌∷◌, Bool, true, Contains, length}
use Rattle.chord_tree.specs.Tree.{ItemTree, MemberTree, ClassTree, ProgramTree}
use Rattle.chord_tree.specs.Terms.{Term}
use Rattle.chord_tree.specs.Walk.{Role}
use Rattle.chord_tree.specs.Laws.{Notes, noted}
use Rattle.chord_classes.specs.Table.{table_of, among}
use Rattle.chord_classes.specs.Site.{Site, after, enter}
use Rattle.chord_classes.specs.TypedTerms.{TypedTerm}
use Rattle.chord_classes.specs.Typed.{typed_term}
use Rattle.chord_classes.specs.NameRules.{undeclared, unknown, inaccessible, used_valueless, miscounted, too_large, too_long}
use Rattle.chord_classes.specs.TypeRules.{disagreeing}
use Rattle.chord_classes.specs.OverrideRules.{in_classes, differing_headers, missing_override, wrong_override}
use Rattle.chord_classes.specs.DeclarationRules.{declared_again, base_missing, parameter_again, modifiers_barred, SplitAmong}
use Rattle.chord_classes.specs.ChordRules.{second_synchronous, repeated_methods, limits_passed, over_plans, wrong_constructors, mains_of, wrong_mains}
use Rattle.chord_tree.specs.Program.{spelling}
use Rattle.chord_classes.specs.ItemRules.{undeclared_item, undeclared_member, unknown_item, disagreeing_item, misreturned, redeclared, unreturned}

-- what is noted in a program
abbrev pub in_program : ProgramTree → Notes Site ℕ → List ℕ
in_program program notes = noted after (enter (table_of program)) notes program

-- a rule at each expression, with the types of its parts
abbrev pub at_typed_term : (Site → Role → TypedTerm → List ℕ) → Site → Role → Term → List ℕ
at_typed_term rule site role term = rule site role (typed_term site term)

-- what a rule says where it says nothing
abbrev pub no_term : Site → Role → Term → List ℕ
no_term site role term = []

-- what a rule says where it says nothing of items
abbrev pub no_item : Site → ItemTree → List ℕ
no_item site item = []

-- what a rule says where it says nothing of members
abbrev pub no_member : ClassTree → MemberTree → List ℕ
no_member class member = []

-- a type name of a parameter, result or local, or the class of `new`, is not declared in the program
abbrev pub notes_02 : ProgramTree → Notes Site ℕ
notes_02 program = record { at_term = at_typed_term (λ site role parts. undeclared site parts); at_item = undeclared_item; at_member = λ class member. undeclared_member (table_of program) member }

-- a variable or method name is unknown
abbrev pub notes_14 : Notes Site ℕ
notes_14 = record { at_term = at_typed_term unknown; at_item = unknown_item; at_member = no_member }

-- types disagree
abbrev pub notes_15 : Notes Site ℕ
notes_15 = record { at_term = at_typed_term (λ site role parts. disagreeing site parts); at_item = disagreeing_item; at_member = no_member }

-- a method or constructor is not accessible
abbrev pub notes_16 : Notes Site ℕ
notes_16 = record { at_term = at_typed_term (λ site role parts. inaccessible site parts); at_item = no_item; at_member = no_member }

-- the body of a method with a value type does not surely return
abbrev pub notes_17 : Notes Site ℕ
notes_17 = record { at_term = no_term; at_item = no_item; at_member = λ class member. unreturned member }

-- `return` has a value where none is due, or none where one is due
abbrev pub notes_18 : Notes Site ℕ
notes_18 = record { at_term = no_term; at_item = misreturned; at_member = no_member }

-- a call without a value is used as a value
abbrev pub notes_19 : Notes Site ℕ
notes_19 = record { at_term = at_typed_term used_valueless; at_item = no_item; at_member = no_member }

-- a local has the name of a parameter or local in scope
abbrev pub notes_20 : Notes Site ℕ
notes_20 = record { at_term = no_term; at_item = redeclared; at_member = no_member }

-- the number of arguments is wrong
abbrev pub notes_22 : Notes Site ℕ
notes_22 = record { at_term = at_typed_term (λ site role parts. miscounted site parts); at_item = no_item; at_member = no_member }

-- a number does not fit
abbrev pub notes_23 : Notes Site ℕ
notes_23 = record { at_term = at_typed_term (λ site role parts. too_large parts); at_item = no_item; at_member = no_member }

-- a text literal is too long
abbrev pub notes_24 : Notes Site ℕ
notes_24 = record { at_term = at_typed_term (λ site role parts. too_long parts); at_item = no_item; at_member = no_member }

-- the limits that a program passes
abbrev pub limits_in : ProgramTree → List ℕ
limits_in program = over_plans limits_passed [] [] 0 program.classes

-- a program breaks the rule of this number at a token
pub data Broken (program : ProgramTree) : ℕ → ℕ → Type 0 where
  C01 : (at : ℕ) → Contains (in_classes declared_again program) at → Broken program 1 at
  C02 : (at : ℕ) → Contains (in_program program (notes_02 program)) at → Broken program 2 at
  C03 : (at : ℕ) → Contains (in_classes base_missing program) at → Broken program 3 at
  C04 : (at : ℕ) → Contains (limits_in program) at → Broken program 4 at
  C05 : (at : ℕ) → Contains (in_classes differing_headers program) at → Broken program 5 at
  C06 : (at : ℕ) → Contains (in_classes second_synchronous program) at → Broken program 6 at
  C07 : (at : ℕ) → Contains (in_classes repeated_methods program) at → Broken program 7 at
  C08 : (at : ℕ) → Contains (in_classes parameter_again program) at → Broken program 8 at
  C09 : (at : ℕ) → Contains (in_classes missing_override program) at → Broken program 9 at
  C10 : (at : ℕ) → Contains (in_classes wrong_override program) at → Broken program 10 at
  C11 : (at : ℕ) → SplitAmong [] [] 0 program.classes at → Broken program 11 at
  C12 : (at : ℕ) → Contains (in_classes (wrong_constructors program.classes) program) at → Broken program 12 at
  C13 : (at : ℕ) → Contains (wrong_mains (mains_of program.classes) (length (spelling program))) at → Broken program 13 at
  C14 : (at : ℕ) → Contains (in_program program notes_14) at → Broken program 14 at
  C15 : (at : ℕ) → Contains (in_program program notes_15) at → Broken program 15 at
  C16 : (at : ℕ) → Contains (in_program program notes_16) at → Broken program 16 at
  C17 : (at : ℕ) → Contains (in_program program notes_17) at → Broken program 17 at
  C18 : (at : ℕ) → Contains (in_program program notes_18) at → Broken program 18 at
  C19 : (at : ℕ) → Contains (in_program program notes_19) at → Broken program 19 at
  C20 : (at : ℕ) → Contains (in_program program notes_20) at → Broken program 20 at
  C21 : (at : ℕ) → Contains (in_classes modifiers_barred program) at → Broken program 21 at
  C22 : (at : ℕ) → Contains (in_program program notes_22) at → Broken program 22 at
  C23 : (at : ℕ) → Contains (in_program program notes_23) at → Broken program 23 at
  C24 : (at : ℕ) → Contains (in_program program notes_24) at → Broken program 24 at

-- the rules on names and types
abbrev pub is_type_rule : ℕ → Bool
is_type_rule rule = among rule (2 ∷ 14 ∷ 15 ∷ 16 ∷ 17 ∷ 18 ∷ 19 ∷ 20 ∷ 22 ∷ 23 ∷ 24 ∷ [])

-- the rules on headers of one name
abbrev pub is_header_rule : ℕ → Bool
is_header_rule rule = among rule (5 ∷ 9 ∷ 10 ∷ [])

-- the rules that a plan rests on
abbrev pub is_plan_rule : ℕ → Bool
is_plan_rule rule = among rule (4 ∷ 5 ∷ 6 ∷ 7 ∷ 9 ∷ 10 ∷ 12 ∷ 13 ∷ [])

-- none of these rules is broken
abbrev pub IsFree : (ℕ → Bool) → ProgramTree → Type 0
IsFree is_mine program = (rule at : ℕ) → is_mine rule ≡ true → Broken program rule at → ⊥
