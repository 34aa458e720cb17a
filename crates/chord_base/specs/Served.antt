-- Callers, and what bodies are answered, said over a whole history.
use Rattle.std.specs.Prelude.{◌≡◌, ℕ, true, ◌==◌, List, [], ◌∷◌, Some, if◌then◌else◌}
use Rattle.chord_base.specs.declared.value.Value.TheVariants as a_value
use Rattle.chord_base.specs.declared.event.End.{End}
use Rattle.chord_base.specs.declared.event.End.TheVariants.{Gives}
use Rattle.chord_base.specs.declared.event.What.{What}
use Rattle.chord_base.specs.declared.event.What.TheVariants.{Begun, Made, Sent, Called, Printed, Fired, Ended}
use Rattle.chord_base.specs.declared.event.Entry.{Entry}
use Rattle.chord_base.specs.Messages.{Message, has, message_of, members_of}
use Rattle.chord_base.specs.Story.{IsIn}

-- an entry of this number sends this message
pub record IsSent (n : ℕ) (m : Message) (h : List Entry) : Type 0 where
  pub entry : Entry
  pub there : IsIn entry h
  pub numbered : entry.number ≡ n
  pub sends : message_of entry.what ≡ Some m

-- an entry takes the message of this number
pub record IsTaken (n : ℕ) (h : List Entry) : Type 0 where
  pub entry : Entry
  pub there : IsIn entry h
  pub takes : has n (members_of entry.what) ≡ true

-- the body of this number has ended so
pub record HasEnded (b : ℕ) (x : End) (h : List Entry) : Type 0 where
  pub entry : Entry
  pub there : IsIn entry h
  pub body : entry.body ≡ b
  pub ended : entry.what ≡ Ended x

-- the caller of this call is served: a firing took the call, and the body of that firing has ended so
pub record IsServed (q : ℕ) (x : End) (h : List Entry) : Type 0 where
  pub firing : Entry
  pub there : IsIn firing h
  pub took : has q (members_of firing.what) ≡ true
  pub ended : HasEnded firing.number x h

-- the answer to an entry: the object that it made, the unit value for a message and a line, the end of the body that served
-- its call; a first entry and an end have none
abbrev pub IsAnswered : List Entry → ℕ → What → End → Type 0
IsAnswered h n (Made c) x = x ≡ Gives (a_value.Ref (record { number = n; class = c }))
IsAnswered h n (Sent o j vs) x = x ≡ Gives a_value.Unit
IsAnswered h n (Printed t) x = x ≡ Gives a_value.Unit
IsAnswered h n (Called o j vs) x = IsServed n x h
IsAnswered h n Begun x = ⊥
IsAnswered h n (Fired k o ms vs) x = ⊥
IsAnswered h n (Ended x') x = ⊥

-- each of these entries has one of these ends as its answer, in order
abbrev pub AreAnswered : List Entry → List Entry → List End → Type 0
AreAnswered h [] [] = Unit {0}
AreAnswered h [] (r ∷ rs) = ⊥
AreAnswered h (e ∷ es) [] = ⊥
AreAnswered h (e ∷ es) (r ∷ rs) = IsAnswered h e.number e.what r × AreAnswered h es rs

-- the entries of a body after its first, newest first
abbrev pub later : ℕ → List Entry → List Entry
later b [] = []
later b (e ∷ h) = if e.body == b then (if e.number == b then later b h else e ∷ later b h) else later b h
