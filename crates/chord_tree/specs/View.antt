-- The tree that the classes of a program in memory stand for.
use Rattle.std.specs.Prelude.{List, map}
use Rattle.chord_tree.specs.declared.classes.Formals.{Formals}
use Rattle.chord_tree.specs.declared.classes.Header.{Header}
use Rattle.chord_tree.specs.declared.classes.Member.{Member}
use Rattle.chord_tree.specs.declared.classes.Member.TheVariants as members
use Rattle.chord_tree.specs.declared.classes.Class.{Class}
use Rattle.chord_tree.specs.declared.classes.Using.{Using}
use Rattle.chord_tree.specs.Tree.{FormalsTree, HeaderTree, MemberTree, ConstructorMember, ChordMember, ClassTree, UsingTree, ProgramTree}
use Rattle.chord_tree.specs.ViewStmts.{see_block}

-- the tree of parameters in memory
abbrev pub see_formals : Formals → FormalsTree
see_formals formals = record { at = formals.at; parameters = formals.parameters.items }

-- the tree of a header in memory
abbrev pub see_header : Header → HeaderTree
see_header header = record {
  modifiers = header.modifiers.items;
  result_type = header.result_type;
  name = header.name;
  formals = see_formals header.formals;
}

-- the tree of a member in memory
abbrev pub see_member : Member → MemberTree
see_member (members.Constructor modifiers name formals body) = ConstructorMember modifiers.items name (see_formals formals) (see_block body)
see_member (members.Chord headers body) = ChordMember (map see_header headers.items) (see_block body)

-- the tree of a class in memory
abbrev pub see_class : Class → ClassTree
see_class class = record {
  public_at = class.public;
  name = class.name;
  base = class.base;
  members = map see_member class.members.items;
  end = class.end;
}

-- the tree of a `using` line in memory
abbrev pub see_using : Using → UsingTree
see_using line = record { first = line.first; parts = line.more.items }

-- the parts of a program in memory
pub record Parts : Type 0 where
  pub usings : List Using
  pub classes : List Class

-- the tree of a program
abbrev pub tree_of : Parts → ProgramTree
tree_of parts = record { usings = map see_using parts.usings; classes = map see_class parts.classes }
