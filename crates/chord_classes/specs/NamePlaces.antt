-- The first places of names.
use Rattle.std.specs.Prelude.{◌≡◌, ℕ, ◌+◌, List, [], ◌∷◌, map, cond, bytes_eq, Option, Some, None}
use Rattle.std.specs.Borrow.{Bor}
use Rattle.std.specs.BTreeMap.{BTreeMap, get_by}
use Rattle.std.specs.Ordering.{nat_cmp}
use Rattle.std.specs.Cmp.Lexicographic.{slice_cmp}

-- the bytes that slices hold
abbrev pub texts_in : List (Bor (List ℕ)) → List (List ℕ)
texts_in slices = map (λ (slice : Bor (List ℕ)). slice.now) slices

-- the first place of a name among names, of which the first has this place
abbrev pub name_place_from : ℕ → List (List ℕ) → List ℕ → Option ℕ
name_place_from place [] name = None
name_place_from place (other ∷ more) name = cond (bytes_eq other name) (Some place) (name_place_from (place + 1) more name)

-- the first place of a name
abbrev pub name_place : List (List ℕ) → List ℕ → Option ℕ
name_place names name = name_place_from 0 names name

-- a map has the first place of each name
pub record FindsNames (places : BTreeMap (Bor (List ℕ)) ℕ) (names : List (List ℕ)) : Type 0 where
  pub each : (name : List ℕ) → get_by (λ k. slice_cmp nat_cmp name k.now) places ≡ name_place names name
