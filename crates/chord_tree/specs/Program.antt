-- What a program spells, and what holds of every program.
use Rattle.std.specs.Prelude.{◌≡◌, List, [], ◌∷◌, ◌++◌, map}
use Rattle.chord_lexer.specs.declared.token.Kind.{Kind}
use Rattle.chord_lexer.specs.declared.token.Token.{Token}
use Rattle.chord_tree.specs.Symbols.{Whole_program}
use Rattle.chord_tree.specs.Derivation.{kinds_of}
use Rattle.chord_tree.specs.Node.{Node, Nodes, End, ◌▸◌, Leaf, Made, spell, IsDerived, IsNumbered}
use Rattle.chord_lexer.specs.declared.token.Mark.TheVariants as marks
use Rattle.chord_tree.specs.Symbols as grammar
use Rattle.chord_tree.specs.ExprNodes.{mark_leaf, node_expr}
use Rattle.chord_tree.specs.Tree.{ExprTree, HeaderTree, ProgramTree}
use Rattle.chord_tree.specs.ClassNodes.{node_header, node_headers, node_program}

-- the kinds of the tokens that a program spells, in their order
abbrev pub spelling : ProgramTree → List Kind
spelling program = kinds_of (spell (node_program program) 0 [])

-- The grammar derives it, and each number in it is the place of its token in the list that it spells.
pub record IsProgram (program : ProgramTree) : Type 0 where
  pub derived : IsDerived Whole_program (node_program program)
  pub numbered : IsNumbered (node_program program) 0

-- the kinds of tokens
abbrev pub token_kinds : List Token → List Kind
token_kinds [] = []
token_kinds (token ∷ more) = token.kind ∷ token_kinds more

-- a token that has no place in a text: its span is empty
abbrev pub without_span : Kind → Token
without_span kind = record { kind = kind; start = 0; end = 0 }

abbrev mutual
  -- the kinds of a node's tokens
  pub node_kinds : Node → List Kind
  node_kinds (Leaf kind at) = kind ∷ []
  node_kinds (Made part inner) = nodes_kinds inner

  -- the kinds of the tokens of nodes side by side
  pub nodes_kinds : Nodes → List Kind
  nodes_kinds End = []
  nodes_kinds (node ▸ rest) = node_kinds node ++ nodes_kinds rest

-- The tokens grow by those of the node.
pub record Adds (old new : List Token) (node : Node) : Type 0 where
  pub grown : new ≡ old ++ map without_span (node_kinds node)

-- a condition in brackets, which is no nonterminal of its own
abbrev pub node_test : ExprTree → Node
node_test test = Made grammar.Expr (mark_leaf marks.OpenParenthesis 0 ▸ node_expr test ▸ mark_leaf marks.CloseParenthesis 0 ▸ End)

-- the headers of a chord, which are no nonterminal of their own
abbrev pub node_header_list : List HeaderTree → Node
node_header_list [] = Made grammar.Headers End
node_header_list (header ∷ more) = Made grammar.Headers (node_header header ▸ node_headers more ▸ End)
