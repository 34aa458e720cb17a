-- An example: the tree of a buffer, whose `Get` waits for a `Put`, and of a program that uses it.
use Rattle.std.specs.Prelude.{ℕ, List, [], ◌∷◌, None, codes}
use Rattle.chord_tree.specs.declared.names.Name.{Name}
use Rattle.chord_tree.specs.declared.names.BasicType.TheVariants as basics
use Rattle.chord_tree.specs.declared.names.ValueType.TheVariants as types
use Rattle.chord_tree.specs.declared.classes.ModifierKeyword.TheVariants as modifiers
use Rattle.chord_tree.specs.declared.classes.ReturnType.TheVariants as results
use Rattle.chord_tree.specs.Tree.{ExprTree, PrimaryExpr, VariableStart, NewStart, LiteralStart, MakeActuals, NoExprs, MoreExprs, NoDots, MoreDots, MakeDot, MethodCallStmt, ReturnValueStmt, MakeBlock, NoItems, MoreItems, LocalItem, StmtItem, ItemTree, HeaderTree, MemberTree, ChordMember, ClassTree, ProgramTree}

-- a name, by its bytes and the number of its token
abbrev pub named : List ℕ → ℕ → Name
named bytes at = record { text = bytes; at = at }

-- a variable alone
abbrev variable : List ℕ → ℕ → ExprTree
variable bytes at = PrimaryExpr (VariableStart (named bytes at)) NoDots

-- public string Get()
abbrev get_header : HeaderTree
get_header = record {
  modifiers = record { keyword = modifiers.Public; at = 3 } ∷ [];
  result_type = results.Value (types.Basic basics.String 4);
  name = named (codes "Get") 5;
  formals = record { at = 6; parameters = [] };
}

-- & public async Put(string s)
abbrev put_header : HeaderTree
put_header = record {
  modifiers = record { keyword = modifiers.Public; at = 9 } ∷ [];
  result_type = results.Async 10;
  name = named (codes "Put") 11;
  formals = record { at = 12; parameters = record { value_type = types.Basic basics.String 13; name = named (codes "s") 14 } ∷ [] };
}

-- return s;
abbrev pub give_item : ItemTree
give_item = StmtItem (ReturnValueStmt 17 (variable (codes "s") 18))

-- public string Get() & public async Put(string s) { return s; }
abbrev pub buffer_chord : MemberTree
buffer_chord = ChordMember (get_header ∷ put_header ∷ []) (MakeBlock (MoreItems give_item NoItems) 20)

-- class Buffer { public string Get() & public async Put(string s) { return s; } }
abbrev pub buffer_class : ClassTree
buffer_class = record {
  public_at = None;
  name = named (codes "Buffer") 1;
  base = None;
  members = buffer_chord ∷ [];
  end = 21;
}

-- static void Main()
abbrev main_header : HeaderTree
main_header = record {
  modifiers = record { keyword = modifiers.Static; at = 25 } ∷ [];
  result_type = results.Void 26;
  name = named (codes "Main") 27;
  formals = record { at = 28; parameters = [] };
}

-- Buffer b = new Buffer();
abbrev pub local_item : ItemTree
local_item = LocalItem (types.Class (named (codes "Buffer") 31)) (named (codes "b") 32) 33 (PrimaryExpr (NewStart 34 (named (codes "Buffer") 35) (MakeActuals 36 NoExprs)) NoDots)

-- b.Get()
abbrev got : ExprTree
got = PrimaryExpr (VariableStart (named (codes "b") 50)) (MoreDots (MakeDot 51 (named (codes "Get") 52) (MakeActuals 53 NoExprs)) NoDots)

-- b.Put("hi");
abbrev pub put_item : ItemTree
put_item = StmtItem (MethodCallStmt (named (codes "b") 39) (MakeDot 40 (named (codes "Put") 41) (MakeActuals 42 (MoreExprs (PrimaryExpr (LiteralStart (codes "hi") 43) NoDots) NoExprs))) NoDots)

-- Console.WriteLine(b.Get());
abbrev pub print_item : ItemTree
print_item = StmtItem (MethodCallStmt (named (codes "Console") 46) (MakeDot 47 (named (codes "WriteLine") 48) (MakeActuals 49 (MoreExprs got NoExprs))) NoDots)

-- static void Main() { Buffer b = new Buffer(); b.Put("hi"); Console.WriteLine(b.Get()); }
abbrev pub main_chord : MemberTree
main_chord = ChordMember (main_header ∷ []) (MakeBlock (MoreItems local_item (MoreItems put_item (MoreItems print_item NoItems))) 57)

-- class Program { static void Main() { Buffer b = new Buffer(); b.Put("hi"); Console.WriteLine(b.Get()); } }
abbrev pub main_class : ClassTree
main_class = record {
  public_at = None;
  name = named (codes "Program") 23;
  base = None;
  members = main_chord ∷ [];
  end = 58;
}

-- the whole program
abbrev pub example : ProgramTree
example = record { usings = []; classes = buffer_class ∷ main_class ∷ [] }
