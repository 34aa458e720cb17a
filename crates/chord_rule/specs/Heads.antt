-- A head that leads somewhere is that of a bag.
use Rattle.std.specs.Prelude.{◌≡◌, ℕ, Option, Some}
use Rattle.chord_rule.specs.Bags.{head_number}

-- a head that leads somewhere is the head of a bag
pub record HeadLaw (IsKey : ℕ → Type 0) (heads : ℕ → Option ℕ) : Type 0 where
  pub keyed : (i x : ℕ) → heads i ≡ Some x → (k : ℕ) × IsKey k × (head_number k ≡ i)
