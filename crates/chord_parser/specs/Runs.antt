-- A reader of tokens that looks one token ahead, and what it reads.
use Rattle.std.specs.Prelude.{◌≡◌, ℕ, ◌-◌, ◌<◌, ◌≤◌, ◌≢◌, List, [], ◌∷◌, ◌++◌, length}
use Rattle.chord_lexer.specs.declared.token.Kind.{Kind}
use Rattle.chord_tree.specs.Symbol.{Symbol, Terminal, Nonterminal}
use Rattle.chord_tree.specs.Grammar.{rule_count}
use Rattle.chord_tree.specs.OneAhead.{choice}
use Rattle.chord_tree.specs.Terminals.{terminal_of}
use Rattle.chord_tree.specs.Derivation.{next, Want, parts_of, at_depth, inside}
use Rattle.chord_tree.specs.Node.{Node, Nodes, End, ◌▸◌, Leaf, Made, number_at}

-- what a reader of tokens says: all is well, or how many tokens are left where one does not fit or is too deep
pub data Verdict : Type 0 where
  Fine : Verdict
  Wrong : ℕ → Verdict
  Tall : ℕ → Verdict

-- A reader with what it still wants, at tokens, comes to a verdict.
pub data Runs : List Want → List Kind → Verdict → Type 0 where
  fine : Runs [] [] Fine
  extra : {k : Kind} {ks : List Kind} → Runs [] (k ∷ ks) (Wrong (length (k ∷ ks)))
  take : {c d : ℕ} {k : Kind} {s : List Want} {ks : List Kind} {v : Verdict} → terminal_of k ≡ c → d ≤ 200 → Runs s ks v → Runs ((Terminal c, d) ∷ s) (k ∷ ks) v
  tall : {c d : ℕ} {k : Kind} {s : List Want} {ks : List Kind} → terminal_of k ≡ c → 200 < d → Runs ((Terminal c, d) ∷ s) (k ∷ ks) (Tall (length (k ∷ ks)))
  other : {c d : ℕ} {s : List Want} {ks : List Kind} → next ks ≢ c → Runs ((Terminal c, d) ∷ s) ks (Wrong (length ks))
  expand : {x d : ℕ} {s : List Want} {ks : List Kind} {v : Verdict} → choice x (next ks) < rule_count → Runs (at_depth (inside x d) (parts_of (choice x (next ks))) ++ s) ks v → Runs ((Nonterminal x, d) ∷ s) ks v
  stuck : {x d : ℕ} {s : List Want} {ks : List Kind} → rule_count ≤ choice x (next ks) → Runs ((Nonterminal x, d) ∷ s) ks (Wrong (length ks))

mutual
  -- Of the tokens ks, those before rest are read as the node. The list has all tokens in all.
  pub data Reads : ℕ → Symbol → ℕ → List Kind → List Kind → Node → Type 0 where
    token : {count c d : ℕ} {k : Kind} {ks : List Kind} → terminal_of k ≡ c → d ≤ 200 → Reads count (Terminal c) d (k ∷ ks) ks (Leaf k (number_at k (count - length (k ∷ ks))))
    tree : {count x d i : ℕ} {ks rest : List Kind} {ns : Nodes} → choice x (next ks) ≡ i → i < rule_count → ReadAll count (parts_of i) (inside x d) ks rest ns → Reads count (Nonterminal x) d ks rest (Made (Nonterminal x) ns)

  -- Parts side by side are read as nodes side by side.
  pub data ReadAll : ℕ → List Symbol → ℕ → List Kind → List Kind → Nodes → Type 0 where
    none : {count d : ℕ} {ks : List Kind} → ReadAll count [] d ks ks End
    more : {count d : ℕ} {p : Symbol} {ps : List Symbol} {ks mid rest : List Kind} {n : Node} {ns : Nodes} → Reads count p d ks mid n → ReadAll count ps d mid rest ns → ReadAll count (p ∷ ps) d ks rest (n ▸ ns)

-- The part at depth d is read as far as mid. Where the parts ps at depth e are read next, all of it is read, and f gives its node.
pub record Onward (count : ℕ) (p : Symbol) (d : ℕ) (ks : List Kind) (ps : List Symbol) (e : ℕ) (mid : List Kind) (f : Nodes → Node) : Type 0 where
  pub reads : (rest : List Kind) (ns : Nodes) → ReadAll count ps e mid rest ns → Reads count p d ks rest (f ns)
  pub runs : (s : List Want) (v : Verdict) → Runs (at_depth e ps ++ s) mid v → Runs ((p, d) ∷ s) ks v
