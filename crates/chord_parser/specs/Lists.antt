-- What the parser of classes keeps of lists and members.
use Rattle.std.specs.Prelude.{◌≡◌, ℕ, List, [], ◌∷◌}
use Rattle.chord_lexer.specs.declared.token.Keyword.{Keyword}
use Rattle.chord_lexer.specs.declared.token.Keyword.TheVariants as keywords
use Rattle.chord_lexer.specs.declared.token.Mark.TheVariants as marks
use Rattle.chord_tree.specs.declared.names.ValueType.TheVariants as types
use Rattle.chord_tree.specs.declared.classes.ModifierKeyword.{ModifierKeyword}
use Rattle.chord_tree.specs.declared.classes.Modifier.{Modifier}
use Rattle.chord_tree.specs.declared.classes.ReturnType.{ReturnType}
use Rattle.chord_tree.specs.declared.classes.ReturnType.TheVariants as results
use Rattle.chord_tree.specs.declared.classes.Formal.{Formal}
use Rattle.chord_tree.specs.Terminals.{keyword_symbol}
use Rattle.chord_tree.specs.StmtNodes.{node_block}
use Rattle.chord_tree.specs.ClassNodes.{modifier_keyword, node_formal, node_formals, node_headers, node_rest, node_classes}
use Rattle.chord_tree.specs.Node.{Node, Nodes, End, ◌▸◌, Made}
use Rattle.chord_tree.specs.Symbol.{number_of}
use Rattle.chord_tree.specs.ExprNodes.{keyword_leaf, mark_leaf, name}
use Rattle.chord_tree.specs.Symbols as grammar
use Rattle.chord_tree.specs.Tree.{HeaderTree, MemberTree, ConstructorMember, ChordMember, ClassTree}
use Rattle.chord_parser.specs.declared.plain.ResultKeyword.{ResultKeyword}
use Rattle.chord_parser.specs.declared.plain.ResultKeyword.TheVariants as plains

-- the terminal of a modifier
abbrev pub modifier_terminal : ModifierKeyword → ℕ
modifier_terminal w = number_of (keyword_symbol (modifier_keyword w))

-- the keyword that a word of a result is
abbrev pub plain_keyword : ResultKeyword → Keyword
plain_keyword plains.Async = keywords.Async
plain_keyword plains.Void = keywords.Void
plain_keyword plains.Int = keywords.Int
plain_keyword plains.Bool = keywords.Bool
plain_keyword plains.String = keywords.String

-- the terminal of a result's keyword
abbrev pub plain_terminal : ResultKeyword → ℕ
plain_terminal w = number_of (keyword_symbol (plain_keyword w))

-- the node of a result's word, with the number of its token
abbrev pub plain_node : ResultKeyword → ℕ → Node
plain_node w at = Made grammar.Plain (keyword_leaf (plain_keyword w) at ▸ End)

-- the result is a word
abbrev pub IsPlain : ReturnType → Type 0
IsPlain (results.Value (types.Class class)) = ⊥
IsPlain _ = Unit {0}

-- what follows the modifiers of a member
abbrev pub node_rest_of : MemberTree → Node
node_rest_of (ConstructorMember modifiers x formals body) = Made grammar.Rest (name x ▸ Made grammar.After (node_formals formals ▸ node_block body ▸ End) ▸ End)
node_rest_of (ChordMember [] body) = Made grammar.Rest End
node_rest_of (ChordMember (header ∷ more) body) = node_rest header.result_type header.name header.formals more body

-- the member has these modifiers, those of its first header if it is a chord
abbrev pub IsHeaded : MemberTree → List Modifier → Type 0
IsHeaded (ConstructorMember modifiers x formals body) ms = modifiers ≡ ms
IsHeaded (ChordMember [] body) ms = ⊥
IsHeaded (ChordMember (header ∷ more) body) ms = header.modifiers ≡ ms

-- what follows the result of a chord's first header
abbrev pub chord_parts : MemberTree → Nodes
chord_parts (ChordMember (header ∷ more) body) = name header.name ▸ node_formals header.formals ▸ node_headers more ▸ node_block body ▸ End
chord_parts _ = End

-- the member is a chord whose first header has the result
abbrev pub IsChordOf : MemberTree → ReturnType → Type 0
IsChordOf (ChordMember (header ∷ more) body) r = header.result_type ≡ r
IsChordOf _ r = ⊥

-- the list begins with the thing
abbrev pub IsFirst : {A : Type 0} → A → List A → Type 0
IsFirst x [] = ⊥
IsFirst x (y ∷ ys) = y ≡ x

-- the headers after the first
abbrev pub headers_after : List HeaderTree → Node
headers_after [] = Made grammar.Headers End
headers_after (header ∷ more) = node_headers more

-- the classes after the first
abbrev pub classes_after : List ClassTree → Node
classes_after [] = Made grammar.Classes End
classes_after (class ∷ more) = node_classes more

-- a list before another node, where each thing is put before a node in its way
abbrev pub wrapped : {A : Type 0} → (A → Node → Node) → List A → Node → Node
wrapped f [] n = n
wrapped f (x ∷ xs) n = f x (wrapped f xs n)

-- all but the first
abbrev pub wrapped_after : {A : Type 0} → (A → Node → Node) → List A → Node → Node
wrapped_after f [] n = n
wrapped_after f (x ∷ xs) n = wrapped f xs n

-- parameters before another node: the first, and each further one after a comma
abbrev pub before_formals : List Formal → Node → Node
before_formals [] n = n
before_formals (x ∷ xs) n = Made grammar.Optional_formals (node_formal x ▸ wrapped (λ y m. Made grammar.More_formals (mark_leaf marks.Comma 0 ▸ node_formal y ▸ m ▸ End)) xs n ▸ End)
