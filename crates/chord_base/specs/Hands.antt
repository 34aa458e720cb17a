-- Hands: up to eight items in eight places.
use Rattle.std.specs.Prelude.{◌≡◌, List, [], ◌∷◌, Option, Some, None}

-- the items that stand in some places, in order
abbrev pub items_in : {A : Type 0} → List (Option A) → List A
items_in [] = []
items_in (None ∷ xs) = items_in xs
items_in (Some x ∷ xs) = x ∷ items_in xs

-- all places are empty
abbrev pub AreAbsent : {A : Type 0} → List (Option A) → Type 0
AreAbsent [] = Unit {0}
AreAbsent (x ∷ xs) = (x ≡ None) × AreAbsent xs

-- the places that hold an item stand before those that hold none
abbrev pub HasNoGap : {A : Type 0} → List (Option A) → Type 0
HasNoGap [] = Unit {0}
HasNoGap (None ∷ xs) = AreAbsent xs
HasNoGap (Some x ∷ xs) = HasNoGap xs

-- what stands in a place once it is offered an item: what stood there, or the item
abbrev pub settled : {A : Type 0} → Option A → Option A → Option A
settled None item = item
settled (Some x) item = Some x

-- what is left of the item for the next place
abbrev pub left_over : {A : Type 0} → Option A → Option A → Option A
left_over None item = None
left_over (Some x) item = item
