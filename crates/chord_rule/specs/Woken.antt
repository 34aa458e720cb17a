-- Woken cells, of which there are none.
use Rattle.std.specs.Prelude.{◌≡◌, ℕ}
use Rattle.chord_word.specs.declared.cells.Cell.TheVariants.{Woken}
use Rattle.chord_word.specs.declared.cells.Word.{Word}
use Rattle.chord_rule.specs.Bags.{cell_of}

-- no cell is woken, since no call wakes a caller in place of a firing
pub record WokenLaw (cells : ℕ → Word) : Type 0 where
  pub none : (q i : ℕ) → cell_of cells q ≡ Woken i → ⊥
