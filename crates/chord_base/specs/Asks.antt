-- The list of a body's asks, and what its entries say.
use Rattle.std.specs.Prelude.{ℕ, ◌==◌, List, [], ◌∷◌, ◌++◌, map, Option, Some, option_map, if◌then◌else◌}
use Rattle.chord_base.specs.Meaning.{Program, Start}
use Rattle.chord_base.specs.declared.event.End.{End}
use Rattle.chord_base.specs.declared.event.What.{What}
use Rattle.chord_base.specs.declared.event.Entry.{Entry}

-- what a body's entries after its first say, newest first
abbrev pub said : ℕ → List Entry → List What
said b [] = []
said b (e ∷ h) = if e.body == b then (if e.number == b then said b h else e.what ∷ said b h) else said b h

-- the asks of a body from its answers so far on, as it gets further ones
abbrev pub asks_on : Program → Start → ℕ → List End → List End → List (Option What)
asks_on p s d got [] = option_map (λ a. a.what) (p.next s d got) ∷ []
asks_on p s d got (r ∷ rs) = option_map (λ a. a.what) (p.next s d got) ∷ asks_on p s d (got ++ r ∷ []) rs

-- the list of a body's asks up to its next one, which it makes as it gets these answers
abbrev pub asks_of : Program → Start → ℕ → List End → List (Option What)
asks_of p s d rs = asks_on p s d [] rs

-- each is there
abbrev pub all_some : List What → List (Option What)
all_some ws = map (λ w. Some w) ws
