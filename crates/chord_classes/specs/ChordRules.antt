-- The rules on chords, constructors, `Main` and limits: the tokens at which each is broken.
use Rattle.std.specs.Prelude.{ℕ, ◌+◌, ◌-◌, List, [], ◌∷◌, ◌++◌, Bool, true, false, not, cond, ◌&&◌, ◌||◌, nat_eq, nat_lt, nat_le, length, map, drop, slice_get, bytes_eq, Option, Some, None, is_some, flat_map}
use Rattle.chord_tree.specs.declared.names.Name.{Name}
use Rattle.chord_tree.specs.declared.classes.Formal.{Formal}
use Rattle.chord_tree.specs.declared.classes.ModifierKeyword.{ModifierKeyword}
use Rattle.chord_tree.specs.declared.classes.ModifierKeyword.TheVariants as modifiers
use Rattle.chord_tree.specs.declared.classes.ReturnType.{ReturnType}
use Rattle.chord_tree.specs.declared.classes.ReturnType.TheVariants as results
use Rattle.chord_tree.specs.Tree.{StmtTree, BlockTree, ItemTrees, AssignStmt, CallStmt, MethodCallStmt, ThisCallStmt, NewStmt, BlockStmt, EmptyStmt, IfStmt, IfElseStmt, WhileStmt, ReturnStmt, ReturnValueStmt, MakeBlock, NoItems, MoreItems, LocalItem, StmtItem, HeaderTree, MemberTree, ConstructorMember, ChordMember, ClassTree}
use Rattle.chord_tree.specs.Walk.{headers_of}
use Rattle.chord_bodies.specs.Resolved.{ClassOf}
use Rattle.chord_classes.specs.Table.{Method, Shape, has_word, is_virtual_word, is_main, method_of, method_named, base_of, inherited, from_base, shape_of}
use Rattle.chord_classes.specs.Types.{is_sync}
use Rattle.chord_classes.specs.Site.{has_main}
use Rattle.chord_classes.specs.NameRules.{when}
use Rattle.chord_classes.specs.Plan.{base_chords, class_plan}

-- whether a name stands among names
abbrev pub named_in : List ℕ → List (List ℕ) → Bool
named_in name [] = false
named_in name (other ∷ more) = bytes_eq name other || named_in name more

-- the headers whose name stands before them
abbrev pub repeated : List (List ℕ) → List HeaderTree → List ℕ
repeated before [] = []
repeated before (header ∷ more) = when (not (is_main header) && named_in header.name.text before) header.name.at ++ repeated (header.name.text ∷ before) more

-- the headers of a member whose name stands before them
abbrev pub repeated_in : MemberTree → List ℕ
repeated_in (ConstructorMember modifiers name formals body) = []
repeated_in (ChordMember headers body) = repeated [] headers

-- C07: a method stands a second time in one chord's header
abbrev pub repeated_methods : List Shape → ClassTree → List ℕ
repeated_methods done class = flat_map repeated_in class.members

-- `Main` is no method
abbrev pub counts_sync : HeaderTree → Bool
counts_sync header = not (is_main header) && is_sync header.result_type

-- the synchronous headers that stand behind a synchronous one
abbrev pub second_sync : Bool → List HeaderTree → List ℕ
second_sync seen [] = []
second_sync seen (header ∷ more) = when (seen && counts_sync header) header.name.at ++ second_sync (seen || counts_sync header) more

-- the synchronous headers of a member that stand behind a synchronous one
abbrev pub crowded_in : MemberTree → List ℕ
crowded_in (ConstructorMember modifiers name formals body) = []
crowded_in (ChordMember headers body) = second_sync false headers

-- C06: a chord's header has a second synchronous method
abbrev pub second_synchronous : List Shape → ClassTree → List ℕ
second_synchronous done class = flat_map crowded_in class.members

-- the tokens of the names of headers
abbrev pub header_tokens : List HeaderTree → List ℕ
header_tokens headers = map (λ (header : HeaderTree). header.name.at) headers

-- the tokens of the names of parameters
abbrev pub formal_tokens : List Formal → List ℕ
formal_tokens formals = map (λ (formal : Formal). formal.name.at) formals

-- the headers that make new methods of a class
abbrev pub new_headers : ℕ → List Method → List HeaderTree → List HeaderTree
new_headers owner methods [] = []
new_headers owner methods (header ∷ more) =
    cond (is_main header || is_some (method_named methods header.name.text)) (new_headers owner methods more) (header ∷ new_headers owner (methods ++ (method_of owner header ∷ [])) more)

-- the names of the locals that are declared in a statement, a block or items, in the order of the text
abbrev mutual
  -- the tokens of the names of the locals that are declared in a statement
  pub stmt_names : StmtTree → List ℕ
  stmt_names (AssignStmt name assign value) = []
  stmt_names (CallStmt name actuals calls) = []
  stmt_names (MethodCallStmt name first calls) = []
  stmt_names (ThisCallStmt at first calls) = []
  stmt_names (NewStmt at name actuals calls) = []
  stmt_names (BlockStmt block) = block_names block
  stmt_names EmptyStmt = []
  stmt_names (IfStmt at bracket test first) = stmt_names first
  stmt_names (IfElseStmt at bracket test first second) = stmt_names first ++ stmt_names second
  stmt_names (WhileStmt at bracket test body) = stmt_names body
  stmt_names (ReturnStmt at) = []
  stmt_names (ReturnValueStmt at value) = []

  -- the tokens of the names of the locals that are declared in a block
  pub block_names : BlockTree → List ℕ
  block_names (MakeBlock items end) = items_names items

  -- the tokens of the names of the locals that are declared in items
  pub items_names : ItemTrees → List ℕ
  items_names NoItems = []
  items_names (MoreItems (LocalItem written name assign value) more) = name.at ∷ items_names more
  items_names (MoreItems (StmtItem stmt) more) = stmt_names stmt ++ items_names more

-- the headers of a chord, the parameters of a header or constructor and the locals of a body that are too many
abbrev pub member_limits : MemberTree → List ℕ
member_limits (ConstructorMember modifiers name formals body) = drop 8 (formal_tokens formals.parameters) ++ drop 256 (block_names body)
member_limits (ChordMember headers body) = drop 8 (header_tokens headers) ++ (flat_map (λ (header : HeaderTree). drop 8 (formal_tokens header.formals.parameters)) headers ++ drop 256 (block_names body))

-- the first names of the chords of members
abbrev pub chord_tokens : List MemberTree → List ℕ
chord_tokens [] = []
chord_tokens (ConstructorMember modifiers name formals body ∷ more) = chord_tokens more
chord_tokens (ChordMember [] body ∷ more) = chord_tokens more
chord_tokens (ChordMember (header ∷ others) body ∷ more) = cond (has_main (header ∷ others)) [] (header.name.at ∷ []) ++ chord_tokens more

-- the token of the base name, where a condition holds
abbrev pub base_token : Option Name → Bool → List ℕ
base_token None condition = []
base_token (Some base) condition = when condition base.at

-- C04: a limit is passed
abbrev pub limits_passed : List Shape → List ClassOf → ClassTree → List ℕ
limits_passed done plans class =
    when (nat_le 1024 (length done)) class.name.at
    ++ (base_token class.base (nat_lt 16 (length (from_base done (base_of done class))))
    ++ (drop (16 - length (inherited done (base_of done class))) (header_tokens (new_headers (length done) (inherited done (base_of done class)) (headers_of class)))
    ++ (flat_map member_limits class.members
    ++ drop (256 - length (base_chords plans (base_of done class))) (chord_tokens class.members))))

-- a rule at each class, with the shapes and plans of those declared before it, where the first member has this number
abbrev pub over_plans : (List Shape → List ClassOf → ClassTree → List ℕ) → List Shape → List ClassOf → ℕ → List ClassTree → List ℕ
over_plans rule done plans number [] = []
over_plans rule done plans number (class ∷ more) =
    rule done plans class ++ over_plans rule (done ++ (shape_of done class ∷ [])) (plans ++ (class_plan done plans number class ∷ [])) (number + length class.members) more

-- the token of the name of a constructor
abbrev pub builder_token : MemberTree → List ℕ
builder_token (ConstructorMember modifiers name formals body) = name.at ∷ []
builder_token (ChordMember headers body) = []

-- constructors that have another name than their class, or are not the first
abbrev pub misnamed_constructors : List ℕ → List MemberTree → List ℕ
misnamed_constructors class [] = []
misnamed_constructors class (ConstructorMember modifiers name formals body ∷ more) = when (not (bytes_eq name.text class)) name.at ++ flat_map builder_token more
misnamed_constructors class (ChordMember headers body ∷ more) = misnamed_constructors class more

-- one constructor of a class has parameters
abbrev pub has_parameters : MemberTree → Bool
has_parameters (ConstructorMember modifiers name formals body) = not (nat_eq (length formals.parameters) 0)
has_parameters (ChordMember headers body) = false

-- one of the members is a constructor with parameters
abbrev pub any_has : List MemberTree → Bool
any_has [] = false
any_has (member ∷ more) = has_parameters member || any_has more

-- a class has a constructor with parameters
abbrev pub class_has : Option ClassTree → Bool
class_has None = false
class_has (Some class) = any_has class.members

-- a base class has a constructor with parameters
abbrev pub base_has : List ClassTree → Option ℕ → Bool
base_has classes None = false
base_has classes (Some base) = class_has (slice_get classes base)

-- C12: a constructor has another name than its class, or is the second one; or the base class has a constructor with parameters
abbrev pub wrong_constructors : List ClassTree → List Shape → ClassTree → List ℕ
wrong_constructors classes done class = misnamed_constructors class.name.text class.members ++ base_token class.base (base_has classes (base_of done class))

-- a result is `void`
abbrev pub is_void : ReturnType → Bool
is_void (results.Void at) = true
is_void _ = false

-- the word `static`
abbrev pub static_word : ModifierKeyword → Bool
static_word modifiers.Static = true
static_word _ = false

-- `static void Main()`, with or without an access modifier, in a chord of one header
abbrev pub is_right_main : List HeaderTree → HeaderTree → Bool
is_right_main headers header =
    has_word static_word header.modifiers && (not (has_word is_virtual_word header.modifiers) && (is_void header.result_type && (nat_eq (length header.formals.parameters) 0 && nat_eq (length headers) 1)))

-- a header named `Main`: its token, and whether it is as it should be
pub record MainAt : Type 0 where
  pub right : Bool
  pub at : ℕ

-- the headers named `Main` among headers
abbrev pub mains_among : List HeaderTree → List HeaderTree → List MainAt
mains_among all [] = []
mains_among all (header ∷ more) = cond (is_main header) (record { right = is_right_main all header; at = header.name.at } ∷ []) [] ++ mains_among all more

-- the headers named `Main` of a member
abbrev pub member_mains : MemberTree → List MainAt
member_mains (ConstructorMember modifiers name formals body) = []
member_mains (ChordMember headers body) = mains_among headers headers

-- the headers named `Main` of classes
abbrev pub mains_of : List ClassTree → List MainAt
mains_of classes = flat_map (λ (class : ClassTree). flat_map member_mains class.members) classes

-- C13: a method named `Main` is not as it should be, or is the second one; or there is none, which is at the end of the text
abbrev pub wrong_mains : List MainAt → ℕ → List ℕ
wrong_mains [] end = end ∷ []
wrong_mains (first ∷ more) end = when (not first.right) first.at ++ map (λ (main : MainAt). main.at) more
