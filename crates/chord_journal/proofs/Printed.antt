-- The lines of a journal are those of its entries, one by one.
use Rattle.std.proofs.Common.{◌≡◌, List, [], ◌∷◌, ◌++◌, refl, ap}
use Rattle.std.specs.List.{flat_map}
use Rattle.chord_base.specs.declared.event.Entry.{Entry}
use Rattle.chord_base.specs.Printed.{line_of, lines}

-- the lines of a list of entries
pub lines_one_by_one : (es : List Entry) → lines es ≡ flat_map (λ e. line_of e.what) es
lines_one_by_one [] = refl
lines_one_by_one (e ∷ es) = ap (λ rest. line_of e.what ++ rest) (lines_one_by_one es)
