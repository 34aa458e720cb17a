-- What each production of classes and members gives; and so each list that the grammar derives is spelled by a program.
use Rattle.std.proofs.Common.{◌≡◌, List, [], ◌∷◌, refl, sym, ap, subst, ◌∙◌, Some, None}
use Rattle.chord_tree.specs.declared.names.BasicType.TheVariants as basics
use Rattle.chord_tree.specs.declared.names.ValueType.TheVariants as types
use Rattle.chord_tree.specs.declared.classes.ModifierKeyword.TheVariants as modifiers
use Rattle.chord_tree.specs.declared.classes.ReturnType.TheVariants as results
use Rattle.chord_tree.specs.Symbols as grammar
use Rattle.chord_tree.specs.Symbols.{Whole_program}
use Rattle.chord_tree.specs.Grammar.{productions}
use Rattle.chord_tree.specs.Derivation.{Spelled, Derives}
use Rattle.chord_tree.specs.Node.{Node, End, ◌▸◌, Made, spell, IsDerived, IsNumbered}
use Rattle.chord_tree.specs.ClassNodes.{node_modifiers, node_program}
use Rattle.chord_tree.specs.Program.{IsProgram}
use Rattle.chord_tree.specs.Tree.{HeaderTree, ProgramTree, ConstructorMember, ChordMember}
use Rattle.chord_parser.specs.Answers.{start}
use Rattle.chord_parser.proofs.ClassLists.{plain_result, plain_chord}
use Rattle.chord_parser.proofs.Nodes.{node_of}
use Rattle.chord_parser.proofs.Stands.{Gives, AllGive, nothing, ◌&◌, ◌⊳◌, stands}
use Rattle.chord_parser.proofs.StandsStmts.{stmts_give}

-- { Using } Class { Class }
whole : Gives grammar.Whole_program (grammar.Usings ∷ grammar.Class ∷ grammar.Classes ∷ [])
whole _ ((us, e) & (c, f) & (cs, g) & nothing) = (record { usings = us; classes = c ∷ cs }, rw (e, f, g) refl)

-- no lines
no_usings : Gives grammar.Usings []
no_usings _ nothing = ([], refl)

-- a line, and then others
more_usings : Gives grammar.Usings (grammar.Using ∷ grammar.Usings ∷ [])
more_usings _ ((u, e) & (us, f) & nothing) = (u ∷ us, rw (e, f) refl)

-- no classes
no_classes : Gives grammar.Classes []
no_classes _ nothing = ([], refl)

-- a class, and then others
more_classes : Gives grammar.Classes (grammar.Class ∷ grammar.Classes ∷ [])
more_classes _ ((c, e) & (cs, f) & nothing) = (c ∷ cs, rw (e, f) refl)

-- "using" Name { "." Name } ";"
using_line : Gives grammar.Using (grammar.USING ∷ grammar.NAME ∷ grammar.Name_parts ∷ grammar.SEMICOLON ∷ [])
using_line _ (e & (x, f) & (ps, g) & h & nothing) = (record { first = x; parts = ps }, rw (e, f, g, h) refl)

-- no further parts of a name
no_parts : Gives grammar.Name_parts []
no_parts _ nothing = ([], refl)

-- a further part of a name, and then others
more_parts : Gives grammar.Name_parts (grammar.DOT ∷ grammar.NAME ∷ grammar.Name_parts ∷ [])
more_parts _ ((at, e) & (x, f) & (ps, g) & nothing) = (record { at = at; name = x } ∷ ps, rw (e, f, g) refl)

-- [ "public" ] "class" Name [ ":" Name ] "{" { Member } "}"
class_rule : Gives grammar.Class (grammar.Optional_public ∷ grammar.CLASS ∷ grammar.NAME ∷ grammar.Optional_base ∷ grammar.OPEN_BRACE ∷ grammar.Members ∷ grammar.CLOSE_BRACE ∷ [])
class_rule _ ((p, e) & f & (x, g) & (b, h) & i & (ms, j) & (at, k) & nothing) = (record { public_at = p; name = x; base = b; members = ms; end = at }, rw (e, f, g, h, i, j, k) refl)

-- no `public`
no_public : Gives grammar.Optional_public []
no_public _ nothing = (None, refl)

-- "public"
some_public : Gives grammar.Optional_public (grammar.PUBLIC ∷ [])
some_public _ ((at, e) & nothing) = (Some at, rw e refl)

-- no base
no_base : Gives grammar.Optional_base []
no_base _ nothing = (None, refl)

-- ":" Name
some_base : Gives grammar.Optional_base (grammar.COLON ∷ grammar.NAME ∷ [])
some_base _ (e & (x, f) & nothing) = (Some x, rw (e, f) refl)

-- no members
no_members : Gives grammar.Members []
no_members _ nothing = ([], refl)

-- a member, and then others
more_members : Gives grammar.Members (grammar.Member ∷ grammar.Members ∷ [])
more_members _ ((m, e) & (ms, f) & nothing) = (m ∷ ms, rw (e, f) refl)

-- { Modifier } Rest
member : Gives grammar.Member (grammar.Modifiers ∷ grammar.Rest ∷ [])
member _ ((ms, e) & f & nothing) = let m = f ms in (m.0, rw e (sym m.1))

-- no modifiers
no_modifiers : Gives grammar.Modifiers []
no_modifiers _ nothing = ([], refl)

-- a modifier, and then others
more_modifiers : Gives grammar.Modifiers (grammar.Modifier ∷ grammar.Modifiers ∷ [])
more_modifiers _ ((m, e) & (ms, f) & nothing) = (m ∷ ms, rw (e, f) refl)

-- "public"
public_modifier : Gives grammar.Modifier (grammar.PUBLIC ∷ [])
public_modifier _ ((at, e) & nothing) = (record { keyword = modifiers.Public; at = at }, rw e refl)

-- "private"
private_modifier : Gives grammar.Modifier (grammar.PRIVATE ∷ [])
private_modifier _ ((at, e) & nothing) = (record { keyword = modifiers.Private; at = at }, rw e refl)

-- "protected"
protected_modifier : Gives grammar.Modifier (grammar.PROTECTED ∷ [])
protected_modifier _ ((at, e) & nothing) = (record { keyword = modifiers.Protected; at = at }, rw e refl)

-- "virtual"
virtual_modifier : Gives grammar.Modifier (grammar.VIRTUAL ∷ [])
virtual_modifier _ ((at, e) & nothing) = (record { keyword = modifiers.Virtual; at = at }, rw e refl)

-- "override"
override_modifier : Gives grammar.Modifier (grammar.OVERRIDE ∷ [])
override_modifier _ ((at, e) & nothing) = (record { keyword = modifiers.Override; at = at }, rw e refl)

-- "static"
static_modifier : Gives grammar.Modifier (grammar.STATIC ∷ [])
static_modifier _ ((at, e) & nothing) = (record { keyword = modifiers.Static; at = at }, rw e refl)

-- a member that a name begins
name_rest : Gives grammar.Rest (grammar.NAME ∷ grammar.After ∷ [])
name_rest _ ((x, e) & f & nothing) = λ ms. let m = f x ms in (m.0, rw e m.1)

-- a chord whose first header has a word as its result
plain_chord_rest : Gives grammar.Rest (grammar.Plain ∷ grammar.NAME ∷ grammar.Formals ∷ grammar.Headers ∷ grammar.Block ∷ [])
plain_chord_rest _ ((r, e, p) & (x, f) & (fs, g) & (hs, h) & (b, i) & nothing) = λ ms. (
  ChordMember (record { modifiers = ms; result_type = r; name = x; formals = fs } ∷ hs) b,
  (let first : HeaderTree = record { modifiers = ms; result_type = r; name = x; formals = fs } in
      rw (e, f, g, h, i) (ap (λ z. Made grammar.Member (node_modifiers ms ▸ z ▸ End)) (sym (plain_chord (ChordMember (first ∷ hs) b) r p refl)))),
)

-- a constructor after its name
constructor : Gives grammar.After (grammar.Formals ∷ grammar.Block ∷ [])
constructor _ ((fs, e) & (b, f) & nothing) = λ x ms. (ConstructorMember ms x fs b, rw (e, f) refl)

-- a chord after the class that is its first header's result
class_chord_after : Gives grammar.After (grammar.NAME ∷ grammar.Formals ∷ grammar.Headers ∷ grammar.Block ∷ [])
class_chord_after _ ((y, e) & (fs, f) & (hs, g) & (b, h) & nothing) = λ x ms. (
  ChordMember (record { modifiers = ms; result_type = results.Value (types.Class x); name = y; formals = fs } ∷ hs) b,
  rw (e, f, g, h) refl,
)

-- no further headers
no_headers : Gives grammar.Headers []
no_headers _ nothing = ([], refl)

-- a further header, and then others
more_headers : Gives grammar.Headers (grammar.AMPERSAND ∷ grammar.Header ∷ grammar.Headers ∷ [])
more_headers _ (e & (h, f) & (hs, g) & nothing) = (h ∷ hs, rw (e, f, g) refl)

-- { Modifier } Result Name Formals
header : Gives grammar.Header (grammar.Modifiers ∷ grammar.Result ∷ grammar.NAME ∷ grammar.Formals ∷ [])
header _ ((ms, e) & (r, f) & (x, g) & (fs, h) & nothing) = (record { modifiers = ms; result_type = r; name = x; formals = fs }, rw (e, f, g, h) refl)

-- a result that is a word
word_result : Gives grammar.Result (grammar.Plain ∷ [])
word_result _ ((r, e, p) & nothing) = (r, rw e (plain_result r p))

-- a result that is a class
class_result : Gives grammar.Result (grammar.NAME ∷ [])
class_result _ ((x, e) & nothing) = (results.Value (types.Class x), rw e refl)

-- "async"
async_word : Gives grammar.Plain (grammar.ASYNC ∷ [])
async_word _ ((at, e) & nothing) = (results.Async at, rw e refl, tt)

-- "void"
void_word : Gives grammar.Plain (grammar.VOID ∷ [])
void_word _ ((at, e) & nothing) = (results.Void at, rw e refl, tt)

-- "int"
int_word : Gives grammar.Plain (grammar.INT ∷ [])
int_word _ ((at, e) & nothing) = (results.Value (types.Basic basics.Int at), rw e refl, tt)

-- "bool"
bool_word : Gives grammar.Plain (grammar.BOOL ∷ [])
bool_word _ ((at, e) & nothing) = (results.Value (types.Basic basics.Bool at), rw e refl, tt)

-- "string"
string_word : Gives grammar.Plain (grammar.STRING ∷ [])
string_word _ ((at, e) & nothing) = (results.Value (types.Basic basics.String at), rw e refl, tt)

-- parameters in brackets
formals : Gives grammar.Formals (grammar.OPEN ∷ grammar.Optional_formals ∷ grammar.CLOSE ∷ [])
formals _ ((at, e) & (fs, f) & g & nothing) = (record { at = at; parameters = fs }, rw (e, f, g) refl)

-- no parameters
no_formals : Gives grammar.Optional_formals []
no_formals _ nothing = ([], refl)

-- a parameter, and then others
some_formals : Gives grammar.Optional_formals (grammar.Formal ∷ grammar.More_formals ∷ [])
some_formals _ ((f, e) & (fs, g) & nothing) = (f ∷ fs, rw (e, g) refl)

-- no further parameters
no_more_formals : Gives grammar.More_formals []
no_more_formals _ nothing = ([], refl)

-- a further parameter, and then others
more_formals : Gives grammar.More_formals (grammar.COMMA ∷ grammar.Formal ∷ grammar.More_formals ∷ [])
more_formals _ (c & (f, e) & (fs, g) & nothing) = (f ∷ fs, rw (c, e, g) refl)

-- ValueType Name
formal : Gives grammar.Formal (grammar.Value_type ∷ grammar.NAME ∷ [])
formal _ ((t, e) & (x, f) & nothing) = (record { value_type = t; name = x }, rw (e, f) refl)

-- "int"
int_type : Gives grammar.Value_type (grammar.INT ∷ [])
int_type _ ((at, e) & nothing) = (types.Basic basics.Int at, rw e refl)

-- "bool"
bool_type : Gives grammar.Value_type (grammar.BOOL ∷ [])
bool_type _ ((at, e) & nothing) = (types.Basic basics.Bool at, rw e refl)

-- "string"
string_type : Gives grammar.Value_type (grammar.STRING ∷ [])
string_type _ ((at, e) & nothing) = (types.Basic basics.String at, rw e refl)

-- a class
class_type : Gives grammar.Value_type (grammar.NAME ∷ [])
class_type _ ((x, e) & nothing) = (types.Class x, rw e refl)

-- all productions, in the order of the grammar
all_give : AllGive productions
unfolding productions
all_give =
    whole ⊳ no_usings ⊳ more_usings ⊳ no_classes ⊳ more_classes ⊳ using_line ⊳ no_parts ⊳ more_parts ⊳ class_rule ⊳ no_public ⊳ some_public ⊳ no_base ⊳ some_base
    ⊳ no_members ⊳ more_members ⊳ member ⊳ no_modifiers ⊳ more_modifiers
    ⊳ public_modifier ⊳ private_modifier ⊳ protected_modifier ⊳ virtual_modifier ⊳ override_modifier ⊳ static_modifier
    ⊳ name_rest ⊳ plain_chord_rest ⊳ constructor ⊳ class_chord_after ⊳ no_headers ⊳ more_headers ⊳ header ⊳ word_result ⊳ class_result
    ⊳ async_word ⊳ void_word ⊳ int_word ⊳ bool_word ⊳ string_word
    ⊳ formals ⊳ no_formals ⊳ some_formals ⊳ no_more_formals ⊳ more_formals ⊳ formal ⊳ int_type ⊳ bool_type ⊳ string_type ⊳ class_type
    ⊳ stmts_give

-- a node of a whole program is that of a program's tree
program_of : (n : Node) → IsDerived Whole_program n → IsNumbered n 0 → (t : ProgramTree) × (n ≡ node_program t)
program_of n d m = stands all_give d 0 m

-- Each list that the grammar derives is spelled by a program.
pub spelled_by_one : (w : List Spelled) → Derives start w → (t : ProgramTree) × IsProgram t × (spell (node_program t) 0 [] ≡ w)
spelled_by_one w r =
    let n = node_of Whole_program w r in
    let t = program_of n.0 n.1.derived n.1.numbered in
    (t.0, record { derived = subst (λ z. IsDerived Whole_program z) t.1 n.1.derived; numbered = subst (λ z. IsNumbered z 0) t.1 n.1.numbered }, ap (λ z. spell z 0 []) (sym t.1) ∙ n.1.spelled)
