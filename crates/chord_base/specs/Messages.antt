-- Messages: what was sent or called, and which of them wait to be taken.
--
-- A history is a list of entries with the newest first, so the entries before one are its tail.
use Rattle.std.specs.Prelude.{◌≡◌, ℕ, Bool, false, ◌==◌, ◌||◌, List, [], ◌∷◌, Option, Some, None, if◌then◌else◌}
use Rattle.chord_base.specs.declared.value.Object.{Object}
use Rattle.chord_base.specs.declared.value.Value as value
use Rattle.chord_base.specs.declared.event.What.{What}
use Rattle.chord_base.specs.declared.event.What.TheVariants.{Sent, Called, Fired}
use Rattle.chord_base.specs.declared.event.Entry.{Entry}

-- a message to a method of an object, with its arguments
pub record Message : Type 0 where
  pub object : Object
  pub method : ℕ
  pub arguments : List value.Value

-- the message that an entry sends, if it sends one
abbrev pub message_of : What → Option Message
message_of (Sent o j vs) = Some (record { object = o; method = j; arguments = vs })
message_of (Called o j vs) = Some (record { object = o; method = j; arguments = vs })
message_of _ = None

-- the messages that an entry takes
abbrev pub members_of : What → List ℕ
members_of (Fired k o ms vs) = ms
members_of _ = []

-- whether a number stands among these
abbrev pub has : ℕ → List ℕ → Bool
has n [] = false
has n (m ∷ ms) = (n == m) || has n ms

-- no number stands among these twice
abbrev pub AreDifferent : List ℕ → Type 0
AreDifferent [] = Unit {0}
AreDifferent (n ∷ ns) = (has n ns ≡ false) × AreDifferent ns

-- the pending message of this number: it was sent or called, and no firing has taken it since
abbrev pub pending : ℕ → List Entry → Option Message
pending n [] = None
pending n (e ∷ h) = if e.number == n then message_of e.what else if has n (members_of e.what) then None else pending n h

-- the body that made the entry of this number
abbrev pub maker : ℕ → List Entry → Option ℕ
maker n [] = None
maker n (e ∷ h) = if e.number == n then Some e.body else maker n h

-- the entry is a synchronous call of this number
abbrev pub IsCall : ℕ → Entry → Type 0
IsCall q e = (e.number ≡ q) × ((o : Object) × (j : ℕ) × (vs : List value.Value) × (e.what ≡ Called o j vs))
