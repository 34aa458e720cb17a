-- Draws: each entry of the run was drawn by exactly one desk.
use Rattle.std.specs.Prelude.{◌≡◌, ℕ, ◌==◌, List, []}
use mathlib.Core.Option as maybe
use mathlib.Core.Option.{some, none}
use lib.ListN.{get_elem?}
use Rattle.chord_base.specs.Story.{kept}
use Rattle.chord_base.specs.declared.event.Entry.{Entry}
use Rattle.chord_rule.specs.declared.view.View.{View}

-- what a desk drew, with what was drawn by the desks that were joined into it
abbrev pub draws_at : maybe.Option View → List Entry
draws_at none = []
draws_at (some v) = v.draws

-- each entry of the journal is among the draws of exactly one desk, in the order of the journal
pub record DrawLaw (views : List View) (journal : List Entry) : Type 0 where
  pub by : ℕ → ℕ
  pub drawn : (j : ℕ) → kept (λ n. by n == j) journal ≡ draws_at (get_elem? views j)
