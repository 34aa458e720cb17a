-- The join machine: what may follow a history, and so what a run and a complete run are.
use Rattle.std.specs.Prelude.{◌≡◌, ℕ, List, [], ◌∷◌, ◌++◌, length, reverse, Some, None, slice_get}
use Rattle.chord_base.specs.Meaning.{Program}
use Rattle.chord_base.specs.Messages.{pending}
use Rattle.chord_base.specs.Bodies.{doing, asked, Asks}
use Rattle.chord_base.specs.declared.value.Object.{Object}
use Rattle.chord_base.specs.declared.value.Value as value
use Rattle.chord_base.specs.declared.event.What.{What}
use Rattle.chord_base.specs.declared.event.What.TheVariants.{Begun, Made, Sent, Called, Printed, Fired, Ended}
use Rattle.chord_base.specs.declared.event.Entry.{Entry}

-- the members are pending messages to the object, one for each method in order, and these are their arguments concatenated
abbrev pub Takes : List Entry → Object → List ℕ → List ℕ → List value.Value → Type 0
Takes h o [] [] vs = vs ≡ []
Takes h o [] (i ∷ ms) vs = ⊥
Takes h o (j ∷ js) [] vs = ⊥
Takes h o (j ∷ js) (i ∷ ms) vs =
    (us : List value.Value) × (rest : List value.Value) × (pending i h ≡ Some (record { object = o; method = j; arguments = us })) × (vs ≡ us ++ rest) × Takes h o js ms rest

-- the machine may fire: the object's class has the chord, and the members are pending messages to the object, one for each
-- of its methods
abbrev pub Fires : Program → List Entry → ℕ → Object → List ℕ → List value.Value → Type 0
Fires p h k o ms vs = (js : List ℕ) × (slice_get (p.chords o.class) k ≡ Some js) × Takes h o js ms vs

-- what may come next, of this body, with this number: `Main` begins where nothing was before, a chord fires, or the body
-- makes its next ask
abbrev pub Comes : Program → List Entry → ℕ → ℕ → What → Type 0
Comes p h n b Begun = (h ≡ []) × (b ≡ 0)
Comes p h n b (Fired k o ms vs) = (b ≡ n) × Fires p h k o ms vs
Comes p h n b (Made c) = Asks p h b (Made c)
Comes p h n b (Sent o j vs) = Asks p h b (Sent o j vs)
Comes p h n b (Called o j vs) = Asks p h b (Called o j vs)
Comes p h n b (Printed t) = Asks p h b (Printed t)
Comes p h n b (Ended x) = Asks p h b (Ended x)

-- an entry may follow a history: it has the next number, and it may come next
pub record MayFollow (p : Program) (h : List Entry) (e : Entry) : Type 0 where
  pub numbered : e.number ≡ length h
  pub comes : Comes p h e.number e.body e.what

-- a past: each entry may follow those before it
abbrev pub IsPast : Program → List Entry → Type 0
IsPast p [] = Unit {0}
IsPast p (e ∷ h) = IsPast p h × MayFollow p h e

-- a final past: no entry may follow it
pub record IsFinal (p : Program) (h : List Entry) : Type 0 where
  pub past : IsPast p h
  pub nothing : (e : Entry) → MayFollow p h e → ⊥

-- a run: a journal, oldest entry first, whose every entry may follow those before it
abbrev pub IsRun : Program → List Entry → Type 0
IsRun p entries = IsPast p (reverse entries)

-- a complete run: a run that no entry may follow
abbrev pub IsComplete : Program → List Entry → Type 0
IsComplete p entries = IsFinal p (reverse entries)

-- no chord is enabled
abbrev pub NoneFires : Program → List Entry → Type 0
NoneFires p h = (k : ℕ) (o : Object) (ms : List ℕ) (vs : List value.Value) → Fires p h k o ms vs → ⊥

-- no body has a next ask
abbrev pub NoneAsks : Program → List Entry → Type 0
NoneAsks p h = (b : ℕ) → asked p (doing p h b) ≡ None
