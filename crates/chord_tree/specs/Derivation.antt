-- What the grammar derives, and how deep each token stands in it.
use Rattle.std.specs.Prelude.{◌≡◌, ℕ, ◌+◌, ◌<◌, ◌≤◌, Bool, true, false, not, ◌&&◌, ◌||◌, cond, List, [], ◌∷◌, ◌++◌, nat_eq, get_or}
use Rattle.chord_lexer.specs.declared.token.Kind.{Kind}
use Rattle.chord_tree.specs.Symbol.{Symbol, Terminal, Nonterminal, number_of}
use Rattle.chord_tree.specs.Grammar.{productions, counted, rule_count, terminal_count, else_terminal, no_else}
use Rattle.chord_tree.specs.Terminals.{terminal_of}

-- a token with its depth
abbrev pub Spelled : Type 0
Spelled = Kind × ℕ

-- a symbol that is still to come, and the depth of its tokens so far
abbrev pub Want : Type 0
Want = Symbol × ℕ

-- the kinds of tokens, without their depths
abbrev pub kinds_of : List Spelled → List Kind
kinds_of [] = []
kinds_of ((kind, depth) ∷ more) = kind ∷ kinds_of more

-- the terminal of the next token; at the end there is none, and it is terminal_count
abbrev pub next : List Kind → ℕ
next [] = terminal_count
next (kind ∷ more) = terminal_of kind

-- a number stands in a list
abbrev pub includes : List ℕ → ℕ → Bool
includes [] c = false
includes (x ∷ more) c = nat_eq x c || includes more c

-- the nonterminal of a production
unfoldable pub head_of : ℕ → ℕ
head_of i = number_of (get_or productions i (Terminal 0, [])).0

-- the right side of a production
unfoldable pub parts_of : ℕ → List Symbol
parts_of i = (get_or productions i (Terminal 0, [])).1

-- Inside an Item, a Stmt, an Expr or a Unary tokens are one deeper.
unfoldable pub inside : ℕ → ℕ → ℕ
inside x depth = cond (includes counted x) (depth + 1) depth

-- symbols that are still to come, all at one depth
abbrev pub at_depth : ℕ → List Symbol → List Want
at_depth depth [] = []
at_depth depth (part ∷ more) = (part, depth) ∷ at_depth depth more

-- An `if` without `else` is not followed by `else`.
unfoldable pub allowed : ℕ → ℕ → Bool
allowed i c = not (nat_eq i no_else && nat_eq c else_terminal)

-- The wants derive the tokens, production by production, from the left.
pub data Derives : List Want → List Spelled → Type 0 where
  done : Derives [] []
  token : {c d : ℕ} {k : Kind} {s : List Want} {w : List Spelled} → terminal_of k ≡ c → Derives s w → Derives ((Terminal c, d) ∷ s) ((k, d) ∷ w)
  rule : {x d : ℕ} {s : List Want} {w : List Spelled} → (i : ℕ) → i < rule_count → head_of i ≡ x → allowed i (next (kinds_of w)) ≡ true → Derives (at_depth (inside x d) (parts_of i) ++ s) w → Derives ((Nonterminal x, d) ∷ s) w

-- No token is tall: none is deeper than 200.
abbrev pub NotTall : List Spelled → Type 0
NotTall [] = Unit {0}
NotTall ((kind, depth) ∷ more) = (depth ≤ 200) × NotTall more
