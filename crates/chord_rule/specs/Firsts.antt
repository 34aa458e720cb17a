-- The first desk: only desk 0 is one; while it has neither drawn nor been split nothing was drawn, and once it has drawn something was.
use Rattle.std.specs.Prelude.{◌≡◌, ◌<◌, ℕ, true, false, List}
use mathlib.Core.Option.{some}
use lib.ListN.{get_elem?}
use Rattle.chord_rule.specs.declared.view.View.{View}

-- only desk 0 is the first; while it has neither drawn nor been split nothing was drawn, and once it has drawn something was
pub record Firsts (count : ℕ) (views : List View) : Type 0 where
  pub leads : (j : ℕ) (v : View) → get_elem? views j ≡ some v → v.first ≡ true → j ≡ 0
  pub untouched : (v : View) → get_elem? views 0 ≡ some v → v.drawn ≡ false → v.splits ≡ 0 → count ≡ 0
  pub begun : (v : View) → get_elem? views 0 ≡ some v → v.drawn ≡ true → 0 < count
