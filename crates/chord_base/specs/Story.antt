-- Stories: what one place keeps of a run, as a task, a desk or a parcel does.
--
-- A place has a number, and keeps the entries of some numbers of the run. Moving entries changes where a number stands.
use Rattle.std.specs.Prelude.{◌≡◌, ◌⊎◌, ℕ, ◌<◌, ltb, Bool, true, false, not, ◌==◌, List, [], ◌∷◌, length, IsSome, if◌then◌else◌}
use Rattle.chord_base.specs.Meaning.{Program}
use Rattle.chord_base.specs.Bodies.{Doing, Absent, Unplaced, Ready, Waits, Over, doing, Asks}
use Rattle.chord_base.specs.Machine.{IsPast}
use Rattle.chord_base.specs.declared.event.What.{What}
use Rattle.chord_base.specs.declared.event.What.TheVariants.{Begun, Made, Sent, Called, Printed, Fired, Ended}
use Rattle.chord_base.specs.declared.event.Entry.{Entry}

-- the number of an entry is above that of the one before it
abbrev pub Rises : ℕ → List Entry → Type 0
Rises n [] = Unit {0}
Rises n (e ∷ h) = e.number < n

-- an entry is told by what its place kept before: it is its body's first, or its body's next ask
abbrev pub Tells : Program → List Entry → ℕ → ℕ → What → Type 0
Tells p h n b Begun = b ≡ n
Tells p h n b (Fired k o ms vs) = b ≡ n
Tells p h n b (Made c) = Asks p h b (Made c)
Tells p h n b (Sent o j vs) = Asks p h b (Sent o j vs)
Tells p h n b (Called o j vs) = Asks p h b (Called o j vs)
Tells p h n b (Printed t) = Asks p h b (Printed t)
Tells p h n b (Ended x) = Asks p h b (Ended x)

-- a history is told: the numbers rise, each body begins here, and each later entry is its body's next ask
abbrev pub IsTold : Program → List Entry → Type 0
IsTold p [] = Unit {0}
IsTold p (e ∷ h) = IsTold p h × Rises e.number h × Tells p h e.number e.body e.what

-- the program says what the body does next
abbrev pub IsDefined : Program → Doing → Type 0
IsDefined p (Ready s d rs) = IsSome (p.next s d rs)
IsDefined p (Waits s d rs q l) = IsSome (p.next s d rs)
IsDefined p Absent = Unit {0}
IsDefined p Unplaced = Unit {0}
IsDefined p (Over x) = Unit {0}

-- a story: it is told, and what each of its bodies does is defined
pub record IsStory (p : Program) (h : List Entry) : Type 0 where
  pub told : IsTold p h
  pub is_defined : (b : ℕ) → IsDefined p (doing p h b)

-- of a history, the entries of these numbers
abbrev pub kept : (ℕ → Bool) → List Entry → List Entry
kept keep [] = []
kept keep (e ∷ h) = if keep e.number then e ∷ kept keep h else kept keep h

-- the entries stand in places, `at` gives the place of a number, and what each place keeps is told
abbrev pub AreTold : Program → (ℕ → ℕ) → List Entry → Type 0
AreTold p at h = (c : ℕ) → IsTold p (kept (λ n. at n == c) h)

-- a run that is kept in places: place i keeps the history view i, and each is told
pub record IsMerged (p : Program) (view : ℕ → List Entry) (h : List Entry) : Type 0 where
  pub past : IsPast p h
  pub at : ℕ → ℕ
  pub keeps : (i : ℕ) → kept (λ n. at n == i) h ≡ view i
  pub told : (i : ℕ) → IsTold p (view i)

-- an entry of this kind is no first entry of a body
abbrev pub IsOwn : What → Type 0
IsOwn Begun = ⊥
IsOwn (Fired k o ms vs) = ⊥
IsOwn (Made c) = Unit {0}
IsOwn (Sent o j vs) = Unit {0}
IsOwn (Called o j vs) = Unit {0}
IsOwn (Printed t) = Unit {0}
IsOwn (Ended x) = Unit {0}

-- asynchronous methods are sent, and synchronous ones are called
abbrev pub HasKind : Program → What → Type 0
HasKind p (Sent o j vs) = p.is_sync o.class j ≡ false
HasKind p (Called o j vs) = p.is_sync o.class j ≡ true
HasKind p Begun = Unit {0}
HasKind p (Made c) = Unit {0}
HasKind p (Printed t) = Unit {0}
HasKind p (Fired k o ms vs) = Unit {0}
HasKind p (Ended x) = Unit {0}

-- a sound program: in every run, what each body does is defined and each message has the kind of its method
pub record IsSound (p : Program) : Type 0 where
  pub is_defined : (h : List Entry) (b : ℕ) → IsPast p h → IsDefined p (doing p h b)
  pub kinds : (h : List Entry) (e : Entry) → IsPast p (e ∷ h) → HasKind p e.what

-- each number is below this one
abbrev pub AllBelow : ℕ → List Entry → Type 0
AllBelow n [] = Unit {0}
AllBelow n (e ∷ h) = (e.number < n) × AllBelow n h

-- each number is above those of all entries before it
abbrev pub IsRising : List Entry → Type 0
IsRising [] = Unit {0}
IsRising (e ∷ h) = AllBelow e.number h × IsRising h

-- the entry stands in the list
abbrev pub IsIn : Entry → List Entry → Type 0
IsIn e [] = ⊥
IsIn e (x ∷ h) = (e ≡ x) ⊎ IsIn e h

-- each number is the place of its entry
abbrev pub AreNumbered : List Entry → Type 0
AreNumbered [] = Unit {0}
AreNumbered (e ∷ h) = (e.number ≡ length h) × AreNumbered h

-- the places, where place i keeps one more entry
abbrev pub grown : (ℕ → List Entry) → ℕ → Entry → ℕ → List Entry
grown view i e j = if i == j then e ∷ view j else view j

-- an entry among those of a history, where its number has it
abbrev pub insert : Entry → List Entry → List Entry
insert e [] = e ∷ []
insert e (x ∷ h) = if ltb x.number e.number then e ∷ x ∷ h else x ∷ insert e h

-- two histories as one, in the order of the numbers
abbrev pub together : List Entry → List Entry → List Entry
together h [] = h
together h (e ∷ g) = together (insert e h) g

-- the places, where place j has taken over what place i kept
abbrev pub moved_into : ℕ → ℕ → (ℕ → List Entry) → ℕ → List Entry
moved_into i j view c = if c == j then together (view j) (view i) else if c == i then [] else view c

-- the places, where of the entries of place i those of these numbers have gone to place j
abbrev pub parted : (ℕ → List Entry) → ℕ → ℕ → (ℕ → Bool) → ℕ → List Entry
parted view i j goes c = if c == j then kept goes (view i) else if c == i then kept (λ n. not (goes n)) (view i) else view c
