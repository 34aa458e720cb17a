-- Lists of entries that are made of parts, each of which is told.
use Rattle.std.specs.Prelude.{◌≡◌, ℕ, ◌==◌, List, [], if◌then◌else◌}
use Rattle.chord_base.specs.declared.event.Entry.{Entry}
use Rattle.chord_base.specs.Meaning.{Program}
use Rattle.chord_base.specs.Story.{kept, IsTold, IsRising}

-- the entries rise, each stands in the part that its number says, and each part is told
pub record IsParted (p : Program) (part : ℕ → List Entry) (es : List Entry) : Type 0 where
  pub rises : IsRising es
  pub at : ℕ → ℕ
  pub keeps : (c : ℕ) → kept (λ n. at n == c) es ≡ part c
  pub told : (c : ℕ) → IsTold p (part c)

-- the parts, where part c is this
abbrev pub with_part : (ℕ → List Entry) → ℕ → List Entry → ℕ → List Entry
with_part part c es d = if c == d then es else part d

-- two parts, numbered 0 and 1
abbrev pub two : List Entry → List Entry → ℕ → List Entry
two rest mine c = if c == 0 then rest else if c == 1 then mine else []
