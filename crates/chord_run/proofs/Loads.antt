-- The pieces of the source that is made from a number, put one behind the other.
use Rattle.std.proofs.Common.{◌≡◌, ◌∙◌, ℕ, List, ◌++◌, append_assoc, decimal, drop, flat_map, take}
use Rattle.chord_run.specs.Load.{load_pieces, load_text}

-- five pieces, put one behind the other, are the first before the rest, and so on
five_pieces : (a b c d e : List ℕ) → (((a ++ b) ++ c) ++ d) ++ e ≡ a ++ (b ++ (c ++ (d ++ e)))
five_pieces a b c d e = append_assoc ((a ++ b) ++ c) d e ∙ (append_assoc (a ++ b) c (d ++ e) ∙ append_assoc a b (c ++ (d ++ e)))

-- pieces before the number, between its two places and behind them
abbrev pub between : ℕ → ℕ → ℕ → List ℕ
between k from count = flat_map (λ piece. piece) (take count (drop from (load_pieces k)))

-- the source is what stands before the number, the number, what stands between its two places, the number again, and the rest
pub same_pieces : (k : ℕ) → (((between k 0 26 ++ decimal k) ++ between k 27 3) ++ decimal k) ++ between k 31 4 ≡ load_text k
same_pieces k = five_pieces (between k 0 26) (decimal k) (between k 27 3) (decimal k) (between k 31 4)
