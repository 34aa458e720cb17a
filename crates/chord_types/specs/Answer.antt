-- What is answered of a program, and what is said of its members and classes that were looked at.
use Rattle.std.specs.Prelude.{◌≡◌, ℕ, List, ◌++◌, map, flat_map, sum_by, Option, None}
use Rattle.chord_tree.specs.Tree.{MemberTree, ClassTree, ProgramTree}
use Rattle.chord_tree.specs.Walk.{over_classes}
use Rattle.chord_bodies.specs.declared.body.Body.{Body}
use Rattle.chord_bodies.specs.BodyView.{view_body}
use Rattle.chord_classes.specs.Table.{Shape}
use Rattle.chord_classes.specs.Site.{after, enter}
use Rattle.chord_classes.specs.Resolve.{resolved_member, resolved_classes}
use Rattle.chord_classes.specs.Rules.{is_type_rule}
use Rattle.chord_classes.specs.Breaks.{IsBreak}
use Rattle.chord_classes.specs.Least.{least}
use Rattle.chord_classes.specs.AllNotes.{term_keys, item_keys, member_keys}
use Rattle.chord_types.specs.declared.program.TypeFault.{TypeFault}
use Rattle.chord_types.specs.declared.program.TypeFault.TheVariants as faults
use Rattle.chord_types.specs.MemberChecked.{member_breaks}
use Rattle.chord_types.specs.Flat.{doubled_body, AreFlat}

-- a fault is want of memory, or the break of the program among the rules on names and types
abbrev pub IsTypeFault : ProgramTree → TypeFault → Type 0
IsTypeFault program faults.Memory = Unit {0}
IsTypeFault program (faults.Rule rule at) = IsBreak is_type_rule program rule at

-- what members of a class break
abbrev pub members_breaks : List Shape → ℕ → ClassTree → List MemberTree → List ℕ
members_breaks table own class members = flat_map (member_breaks table own class) members

-- what classes break, the first of which has this number
abbrev pub classes_breaks : List Shape → ℕ → List ClassTree → List ℕ
classes_breaks table number classes = over_classes after term_keys item_keys (enter table) (member_keys table) number classes

-- members of a class were looked at, and their bodies come after others
pub record AreMembersChecked (table : List Shape) (own : ℕ) (members : List MemberTree) (old new : Option ℕ) (before bodies : List Body) : Type 0 where
  pub built : (class : ClassTree) → new ≡ None → map view_body bodies ≡ map view_body before ++ map (resolved_member table own class) members
  pub noted : (class : ClassTree) → new ≡ least old (members_breaks table own class members)
  pub flat : sum_by doubled_body bodies ≡ sum_by doubled_body before

-- classes were looked at
pub record AreClassesChecked (table : List Shape) (classes : List ClassTree) (old new : Option ℕ) (bodies : List Body) : Type 0 where
  pub built : new ≡ None → map view_body bodies ≡ resolved_classes table 0 classes
  pub noted : new ≡ least old (classes_breaks table 0 classes)
  pub flat : AreFlat bodies
