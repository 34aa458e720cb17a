-- While the first desk has lent no desk, what it read or wrote stands.
use Rattle.std.specs.Prelude.{◌≡◌, ℕ, ◌+◌, Bool, not, ◌&&◌, List, [], ◌∷◌, Option, Some}
use mathlib.Core.Option.{some}
use lib.ListN.{get_elem?}
use Rattle.chord_word.specs.declared.cells.Word.{Word}
use Rattle.chord_rule.specs.declared.view.Looked.{Looked}
use Rattle.chord_rule.specs.declared.view.View.{View}
use Rattle.chord_rule.specs.Looks.{LastHead}
use Rattle.chord_rule.specs.Numbers.{one_if}
use Rattle.chord_rule.specs.Ways.{LastSeen}

-- the desk is neither the first one nor one that was joined into it
abbrev pub is_live : View → Bool
is_live v = not v.first && not v.gone

-- how many of these desks are live
abbrev pub live_count : List View → ℕ
live_count [] = 0
live_count (v ∷ vs) = one_if (is_live v) + live_count vs

-- what was last read or written of the counter, a head or a cell stands in it
pub record Remembers (count : ℕ) (heads : ℕ → Option ℕ) (cells : ℕ → Word) (l : Looked) : Type 0 where
  pub counter : (c : ℕ) → l.count ≡ Some c → count ≡ c
  pub head : (k : ℕ) (x : Option ℕ) → LastHead k x l.heads → heads k ≡ x
  pub cell : (i : ℕ) (x : Word) → LastSeen i x l.seen → cells i ≡ x

-- the first desk knows how many it has lent, and while there is none, what it remembers stands
pub record AloneLaw (count : ℕ) (heads : ℕ → Option ℕ) (cells : ℕ → Word) (views : List View) : Type 0 where
  pub lent : (v : View) → get_elem? views 0 ≡ some v → v.lent ≡ live_count views
  pub alone : (v : View) → get_elem? views 0 ≡ some v → v.lent ≡ 0 → Remembers count heads cells v.looked
