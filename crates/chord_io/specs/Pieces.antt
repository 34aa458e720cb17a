-- What a source gives and a sink takes, piece by piece. The bytes are None where the contents of the source or the sink are not specified.
use Rattle.std.specs.Prelude.{◌≡◌, ℕ, ◌<◌, List, [], ◌++◌, length, take, Option, IfSome}
use Rattle.std.specs.Option.{option_map}

-- a source gave a piece: what was left before is the piece, and then what is left after
abbrev pub Gave : Option (List ℕ) → List ℕ → Option (List ℕ) → Type 0
Gave before piece after = before ≡ option_map (λ rest. piece ++ rest) after

-- no byte is left
abbrev pub IsSpent : Option (List ℕ) → Type 0
IsSpent left = IfSome left (λ bytes. bytes ≡ [])

-- a sink took a piece: what is taken after is what was taken before, and then the piece
abbrev pub Took : Option (List ℕ) → List ℕ → Option (List ℕ) → Type 0
Took before piece after = after ≡ option_map (λ bytes. bytes ++ piece) before

-- a sink took a proper prefix of a text
pub record TookProperPrefix (before : Option (List ℕ)) (text : List ℕ) (after : Option (List ℕ)) : Type 0 where
  pub count : ℕ
  pub short : count < length text
  pub took : Took before (take count text) after
