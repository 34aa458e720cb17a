-- The symbols of a grammar, and its productions.
use Rattle.std.specs.Prelude.{ℕ, List}

infix 1 ◌⟶◌
-- a terminal, which a token of its kind is, or a nonterminal, which productions derive
pub data Symbol : Type 0 where
  Terminal : ℕ → Symbol
  Nonterminal : ℕ → Symbol

-- a nonterminal, and one right side for it
abbrev pub Production : Type 0
Production = Symbol × List Symbol

-- a production, as it is written: its nonterminal and its right side
abbrev pub ◌⟶◌ : Symbol → List Symbol → Production
head ⟶ side = (head, side)

-- the number of a symbol, among those of its sort
abbrev pub number_of : Symbol → ℕ
number_of (Nonterminal x) = x
number_of (Terminal c) = c
