-- Trees of the grammar: what each nonterminal was replaced by. What a tree spells, when the grammar derives it, and when the numbers in it are the places of its tokens.
use Rattle.std.specs.Prelude.{◌≡◌, ℕ, ◌+◌, ◌<◌, true, cond, List, [], ◌∷◌}
use Rattle.chord_lexer.specs.declared.token.Kind.{Kind}
use Rattle.chord_tree.specs.Symbol.{Symbol, Terminal, Nonterminal, number_of}
use Rattle.chord_tree.specs.Symbols.{USING, SEMICOLON, CLASS, OPEN_BRACE, COLON, AMPERSAND, CLOSE, COMMA, ELSE}
use Rattle.chord_tree.specs.Grammar.{rule_count}
use Rattle.chord_tree.specs.Terminals.{terminal_of}
use Rattle.chord_tree.specs.Derivation.{includes, Spelled, kinds_of, next, head_of, parts_of, inside, allowed}

infixr 20 ◌▸◌
mutual
  -- a token with its number, or a nonterminal with what it was replaced by
  pub data Node : Type 0 where
    Leaf : Kind → ℕ → Node
    Made : Symbol → Nodes → Node

  -- nodes side by side
  pub data Nodes : Type 0 where
    End : Nodes
    ◌▸◌ : Node → Nodes → Nodes

abbrev mutual
  -- the tokens of a node at a depth, before those that follow
  pub spell : Node → ℕ → List Spelled → List Spelled
  spell (Leaf kind at) depth w = (kind, depth) ∷ w
  spell (Made part inner) depth w = spell_all inner (inside (number_of part) depth) w

  -- the tokens of nodes side by side
  pub spell_all : Nodes → ℕ → List Spelled → List Spelled
  spell_all End depth w = w
  spell_all (node ▸ rest) depth w = spell node depth (spell_all rest depth w)

mutual
  -- The grammar derives the node from the symbol, at a depth, where w follows it.
  pub data Fits : Symbol → ℕ → Node → List Spelled → Type 0 where
    leaf : {c d at : ℕ} {k : Kind} {w : List Spelled} → terminal_of k ≡ c → Fits (Terminal c) d (Leaf k at) w
    made : {x d : ℕ} {ns : Nodes} {w : List Spelled} → (i : ℕ) → i < rule_count → head_of i ≡ x → allowed i (next (kinds_of (spell_all ns (inside x d) w))) ≡ true
        → FitAll (parts_of i) (inside x d) ns w → Fits (Nonterminal x) d (Made (Nonterminal x) ns) w

  -- The grammar derives the nodes from the symbols, one from each, where w follows them.
  pub data FitAll : List Symbol → ℕ → Nodes → List Spelled → Type 0 where
    none : {d : ℕ} {w : List Spelled} → FitAll [] d End w
    more : {p : Symbol} {ps : List Symbol} {d : ℕ} {n : Node} {ns : Nodes} {w : List Spelled} → Fits p d n (spell_all ns d w) → FitAll ps d ns w → FitAll (p ∷ ps) d (n ▸ ns) w

-- The grammar derives the node from the symbol, with nothing before or after it.
abbrev pub IsDerived : Symbol → Node → Type 0
IsDerived part node = Fits part 0 node []

-- No rule refuses at a token of these terminals, and a tree keeps no number of them.
abbrev pub unnumbered : List ℕ
unnumbered = number_of USING ∷ number_of SEMICOLON ∷ number_of CLASS ∷ number_of OPEN_BRACE ∷ number_of COLON ∷ number_of AMPERSAND ∷ number_of CLOSE ∷ number_of COMMA ∷ number_of ELSE ∷ []

-- what a tree keeps of the number of a token
abbrev pub number_at : Kind → ℕ → ℕ
number_at kind at = cond (includes unnumbered (terminal_of kind)) 0 at

abbrev mutual
  -- how many tokens a node has
  pub size : Node → ℕ
  size (Leaf kind at) = 1
  size (Made part inner) = size_all inner

  -- how many tokens nodes side by side have
  pub size_all : Nodes → ℕ
  size_all End = 0
  size_all (node ▸ rest) = size node + size_all rest

abbrev mutual
  -- Each number in the node is the place of its token, where the first token has this place.
  pub IsNumbered : Node → ℕ → Type 0
  IsNumbered (Leaf kind number) at = number ≡ number_at kind at
  IsNumbered (Made part inner) at = AllNumbered inner at

  -- the same of nodes side by side
  pub AllNumbered : Nodes → ℕ → Type 0
  AllNumbered End at = Unit {0}
  AllNumbered (node ▸ rest) at = IsNumbered node at × AllNumbered rest (at + size node)
