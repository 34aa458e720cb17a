-- What the duty law says of pending messages, and how the journal and the cells agree.
use Rattle.std.specs.Prelude.{◌≡◌, ◌⊎◌, ℕ, List, [], ◌∷◌}
use mathlib.Core.Option.{some}
use lib.ListN.{get_elem?}
use Rattle.chord_word.specs.declared.cells.Cell.{Cell}
use Rattle.chord_word.specs.declared.cells.Cell.TheVariants.{Empty, Pending, Claimed, Woken}
use Rattle.chord_word.specs.declared.cells.Word.{Word}
use Rattle.chord_rule.specs.declared.view.View.{View}
use Rattle.chord_rule.specs.declared.view.Duty.{Duty}
use Rattle.chord_rule.specs.Bags.{cell_of}
use Rattle.chord_rule.specs.Duties.{HasDuty}

-- the cell of a message that no firing has taken
abbrev pub IsWaiting : Cell → Type 0
IsWaiting Empty = Unit {0}
IsWaiting Pending = Unit {0}
IsWaiting Claimed = Unit {0}
IsWaiting (Woken x) = Unit {0}
IsWaiting _ = ⊥

-- somebody will look after x: who has drawn it and not armed it, a caller that is woken, or a desk with a duty
abbrev pub IsMinded : (ℕ → Word) → List View → ℕ → Type 0
IsMinded cells views x =
    (cell_of cells x ≡ Empty)
    ⊎ ((q : ℕ) × (cell_of cells x ≡ Woken q))
    ⊎ ((q : ℕ) × (cell_of cells q ≡ Woken x))
    ⊎ ((j : ℕ) × (v : View) × (d : Duty) × (get_elem? views j ≡ some v) × HasDuty d v.duties × (d.message ≡ x))

-- the messages xs are to the bags ks
abbrev pub AreTo : (ℕ → ℕ) → List ℕ → List ℕ → Type 0
AreTo bag_of [] [] = Unit {0}
AreTo bag_of [] (x ∷ xs) = ⊥
AreTo bag_of (k ∷ ks) [] = ⊥
AreTo bag_of (k ∷ ks) (x ∷ xs) = (bag_of x ≡ k) × AreTo bag_of ks xs

-- no firing has taken any of these messages
abbrev pub AllWaiting : (ℕ → Word) → List ℕ → Type 0
AllWaiting cells [] = Unit {0}
AllWaiting cells (x ∷ xs) = IsWaiting (cell_of cells x) × AllWaiting cells xs
