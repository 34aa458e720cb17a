-- How many productions of each nonterminal follow each other at most before it takes a token or ends. Made by tools/grammar.py.
use Rattle.std.specs.Prelude.{ℕ, List, [], ◌∷◌}

unfoldable pub ranks : List ℕ
ranks = 5 ∷ 2 ∷ 3 ∷ 1 ∷ 1 ∷ 2 ∷ 1 ∷ 1 ∷ 6 ∷ 5 ∷ 2 ∷ 1 ∷ 2 ∷ 2 ∷ 1 ∷ 5 ∷ 2 ∷ 1 ∷ 1 ∷ 3 ∷ 1 ∷ 2 ∷ 1 ∷ 1 ∷ 4 ∷ 3 ∷ 3 ∷ 3 ∷ 2 ∷ 2 ∷ 1 ∷ 10 ∷ 1 ∷ 2 ∷ 1 ∷ 10 ∷ 1 ∷ 9 ∷ 1 ∷ 8 ∷ 1 ∷ 7 ∷ 1 ∷ 6 ∷ 1 ∷ 5 ∷ 1 ∷ 4 ∷ 1 ∷ 3 ∷ 2 ∷ 1 ∷ 2 ∷ []
