-- The laws of the join machine: what is true of every program, every history and every run.
use Rattle.std.specs.Prelude.{◌≡◌, ◌⊎◌, ◌↔◌, ℕ, Bool, true, false, not, ◌==◌, ◌||◌, List, [], ◌∷◌, ◌++◌, length, reverse, Some, None, slice_get, option_map}
use Rattle.chord_base.specs.declared.value.Object.{Object}
use Rattle.chord_base.specs.declared.value.Value as value
use Rattle.chord_base.specs.declared.event.End.{End}
use Rattle.chord_base.specs.declared.event.What.{What}
use Rattle.chord_base.specs.declared.event.What.TheVariants.{Fired, Ended}
use Rattle.chord_base.specs.declared.event.Entry.{Entry}
use Rattle.chord_base.specs.Meaning.{Program, Start, HasOneSync}
use Rattle.chord_base.specs.Messages.{Message, IsCall, AreDifferent, has, maker, members_of, pending}
use Rattle.chord_base.specs.Bodies.{Unplaced, Ready, Waits, WaitsFor, serves, served, doing, asked, Asks}
use Rattle.chord_base.specs.Machine.{Fires, MayFollow, IsPast, IsFinal, NoneFires, NoneAsks}
use Rattle.chord_base.specs.Story.{IsIn, AreNumbered, kept, IsTold, IsStory, IsMerged, IsOwn, IsSound, grown, moved_into, parted, together}
use Rattle.chord_base.specs.Served.{AreAnswered, IsSent, IsServed, IsTaken, later}
use Rattle.chord_base.specs.Asks.{said, asks_of, all_some}

-- the entry is the end of the body that serves the call for which this body waits
abbrev pub EndsCallOf : Program → Entry → List Entry → ℕ → Type 0
EndsCallOf p e h b = (x : End) × (q : ℕ) × (e.what ≡ Ended x) × (serves p e.body h ≡ Some q) × WaitsFor q (doing p h b)

-- ## Locality

-- an entry of another body changes nothing of what a body does, unless it ends the body that serves its open call
abbrev pub OthersChangeNothing : Type 0
OthersChangeNothing =
    (p : Program) (e : Entry) (h : List Entry) (b : ℕ) → (e.body ≡ b → ⊥) → (EndsCallOf p e h b → ⊥) → doing p (e ∷ h) b ≡ doing p h b

-- that end is the answer with which the caller goes on
abbrev pub EndAnswersCaller : Type 0
EndAnswersCaller =
    (p : Program) (e : Entry) (h : List Entry) (b q d l : ℕ) (x : End) (s : Start) (rs : List End) → (e.body ≡ b → ⊥) → e.what ≡ Ended x → serves p e.body h ≡ Some q → doing p h b ≡ Waits s d rs q l → doing p (e ∷ h) b ≡ Ready s d (rs ++ x ∷ [])

-- in a run a body waits for a call that it has made itself, and so no two bodies wait for one call
abbrev pub CallerMadeCall : Type 0
CallerMadeCall = (p : Program) (h : List Entry) (b q : ℕ) → IsPast p h → WaitsFor q (doing p h b) → maker q h ≡ Some b

-- ## Messages

-- in a run a pending message stays pending until an entry takes it
abbrev pub PendingUntilTaken : Type 0
PendingUntilTaken =
    (p : Program) (h : List Entry) (e : Entry) (n : ℕ) (m : Message) → IsPast p h → MayFollow p h e → pending n h ≡ Some m → has n (members_of e.what) ≡ false → pending n (e ∷ h) ≡ Some m

-- an entry takes only what was pending, and what it takes is pending no longer
abbrev pub TakesPending : Type 0
TakesPending =
    (p : Program) (h : List Entry) (e : Entry) (n : ℕ) → IsPast p h → MayFollow p h e → has n (members_of e.what) ≡ true → ((m : Message) × (pending n h ≡ Some m)) × (pending n (e ∷ h) ≡ None)

-- no message is taken by two entries of a run
abbrev pub TakenOnce : Type 0
TakenOnce =
    (p : Program) (h : List Entry) (e f : Entry) (n : ℕ) → IsPast p h → IsIn e h → IsIn f h → has n (members_of e.what) ≡ true → has n (members_of f.what) ≡ true → e ≡ f

-- a firing takes no message twice, where its chord has no method twice
abbrev pub MembersDiffer : Type 0
MembersDiffer =
    (p : Program) (h : List Entry) (k : ℕ) (o : Object) (js ms : List ℕ) (vs : List value.Value) → slice_get (p.chords o.class) k ≡ Some js → AreDifferent js → Fires p h k o ms vs → AreDifferent ms

-- in a run a message is pending exactly where an entry of its number sends it, and no entry takes it
abbrev pub PendingIsSentNotTaken : Type 0
PendingIsSentNotTaken =
    (p : Program) (h : List Entry) (n : ℕ) (m : Message) → IsPast p h → (pending n h ≡ Some m) ↔ (IsSent n m h × (IsTaken n h → ⊥))

-- ## Places

-- what a body does in the place that keeps it is what it does in the whole run, unless it lacks there the call that it serves
abbrev pub PlaceKnows : Type 0
PlaceKnows =
    (p : Program) (view : ℕ → List Entry) (h : List Entry) (b : ℕ) (m : IsMerged p view h) → (doing p (view (m.at b)) b ≡ Unplaced) ⊎ (doing p (view (m.at b)) b ≡ doing p h b)

-- so a body's next ask in the place that keeps it is its next ask in the whole run
abbrev pub PlaceAsks : Type 0
PlaceAsks =
    (p : Program) (view : ℕ → List Entry) (h : List Entry) (i b : ℕ) (w : What) → IsMerged p view h → Asks p (view i) b w → Asks p h b w

-- a run that is kept in places stays one where a place adds the next ask of one of its bodies
abbrev pub NoteKeepsPlaces : Type 0
NoteKeepsPlaces =
    (p : Program) (view : ℕ → List Entry) (h : List Entry) (i b : ℕ) (w : What) → IsMerged p view h → IsOwn w → Asks p (view i) b w → (let e : Entry = record { number = length h; body = b; what = w } in IsMerged p (grown view i e) (e ∷ h))

-- it stays one where any place adds a firing of pending messages
abbrev pub FiringKeepsPlaces : Type 0
FiringKeepsPlaces =
    (p : Program) (view : ℕ → List Entry) (h : List Entry) (i k : ℕ) (o : Object) (ms : List ℕ) (vs : List value.Value) → IsMerged p view h → Fires p h k o ms vs → (let e : Entry = record { number = length h; body = length h; what = Fired k o ms vs } in IsMerged p (grown view i e) (e ∷ h))

-- it stays one where places become one: place i keeps what the places that `f` takes to i kept
abbrev pub UnionKeepsPlaces : Type 0
UnionKeepsPlaces =
    (p : Program) (view view' : ℕ → List Entry) (h : List Entry) (f : ℕ → ℕ) (m : IsMerged p view h) → ((i : ℕ) → kept (λ n. f (m.at n) == i) h ≡ view' i) → IsMerged p view' h

-- it stays one where a place takes over what another keeps
abbrev pub MovingKeepsPlaces : Type 0
MovingKeepsPlaces =
    (p : Program) (view : ℕ → List Entry) (h : List Entry) (i j : ℕ) → (i ≡ j → ⊥) → IsMerged p view h → IsMerged p (moved_into i j view) h

-- the entries of two parts of a run, in the order of their numbers, are those of both
abbrev pub PartsTogether : Type 0
PartsTogether =
    (p : Program) (h : List Entry) (f g : ℕ → Bool) → IsPast p h → ((n : ℕ) → f n ≡ true → g n ≡ false) → together (kept f h) (kept g h) ≡ kept (λ n. f n || g n) h

-- it stays one where entries leave a place for an empty one, if what goes and what stays are told
abbrev pub PartingKeepsPlaces : Type 0
PartingKeepsPlaces =
    (p : Program) (view : ℕ → List Entry) (h : List Entry) (i j : ℕ) (goes : ℕ → Bool) → IsMerged p view h → (i ≡ j → ⊥) → view j ≡ [] → IsTold p (kept goes (view i)) → IsTold p (kept (λ n. not (goes n)) (view i)) → IsMerged p (parted view i j goes) h

-- of a sound program's run each place keeps a story
abbrev pub PlacesAreStories : Type 0
PlacesAreStories = (p : Program) (view : ℕ → List Entry) (h : List Entry) → IsSound p → IsMerged p view h → (i : ℕ) → IsStory p (view i)

-- a run is told, and so one place may keep the whole
abbrev pub RunIsTold : Type 0
RunIsTold = (p : Program) (h : List Entry) → IsPast p h → IsTold p h

-- as many entries of the places as the run has, numbered by their order, are the run
abbrev pub PlacesGather : Type 0
PlacesGather =
    (p : Program) (view : ℕ → List Entry) (h h' : List Entry) → IsMerged p view h → AreNumbered h' → length h' ≡ length h → ((e : Entry) → IsIn e h' → (i : ℕ) × IsIn e (view i)) → h' ≡ h

-- ## Complete runs

-- nothing may follow a run in which `Main` has begun, no body has a next ask, and no chord is enabled
abbrev pub CompleteWhenQuiet : Type 0
CompleteWhenQuiet = (p : Program) (h : List Entry) → IsPast p h → (h ≡ [] → ⊥) → NoneAsks p h → NoneFires p h → IsFinal p h

-- and where nothing may follow it is so
abbrev pub QuietWhenComplete : Type 0
QuietWhenComplete =
    (p : Program) (h : List Entry) → IsFinal p h → (h ≡ [] → ⊥) × ((b : ℕ) (w : What) → IsOwn w → Asks p h b w → ⊥) × NoneFires p h

-- a run in places is complete where each body has no next ask in its place, none lacks there the call that it serves,
-- and no chord is enabled
abbrev pub CompleteInPlaces : Type 0
CompleteInPlaces =
    (p : Program) (view : ℕ → List Entry) (h : List Entry) → IsMerged p view h → (h ≡ [] → ⊥) → ((i b : ℕ) → (asked p (doing p (view i) b) ≡ None) × (doing p (view i) b ≡ Unplaced → ⊥)) → NoneFires p h → IsFinal p h

-- ## Calls

-- in a run of a sound program, whose chords have at most one synchronous method each, a firing that has a call among its
-- members serves it
abbrev pub ServesItsMember : Type 0
ServesItsMember =
    (p : Program) (h : List Entry) (c f : Entry) (q : ℕ) → IsSound p → HasOneSync p → IsPast p h → IsIn c h → IsCall q c → IsIn f h → has q (members_of f.what) ≡ true → served p f.what ≡ Some q

-- and it serves only a call that is a member of it
abbrev pub ServesOnlyCalls : Type 0
ServesOnlyCalls =
    (p : Program) (h : List Entry) (f : Entry) (q : ℕ) → IsSound p → IsPast p h → IsIn f h → served p f.what ≡ Some q → (has q (members_of f.what) ≡ true) × ((c : Entry) × IsIn c h × IsCall q c)

-- ## Callers

-- where a call is served, the caller had waited for it until then, and goes on with the end of the body that served it
abbrev pub ServedGoesOn : Type 0
ServedGoesOn =
    (p : Program) (h : List Entry) (c f e : Entry) (q : ℕ) (x : End) → IsSound p → HasOneSync p → IsPast p (e ∷ h) → IsIn c h → IsCall q c → IsIn f h → has q (members_of f.what) ≡ true → e.body ≡ f.number → e.what ≡ Ended x → (s : Start) × (d l : ℕ) × (rs : List End) × (doing p h c.body ≡ Waits s d rs q l) × (doing p (e ∷ h) c.body ≡ Ready s d (rs ++ x ∷ []))

-- a call is served by one end
abbrev pub ServedOnce : Type 0
ServedOnce = (p : Program) (h : List Entry) (q : ℕ) (x y : End) → IsPast p h → IsServed q x h → IsServed q y h → x ≡ y

-- no body waits for a call that is served
abbrev pub ServedWaitsNoMore : Type 0
ServedWaitsNoMore =
    (p : Program) (h : List Entry) (c : Entry) (b q : ℕ) (x : End) → IsSound p → HasOneSync p → IsPast p h → IsIn c h → IsCall q c → IsServed q x h → WaitsFor q (doing p h b) → ⊥

-- every other caller waits, and has no answer
abbrev pub OthersWait : Type 0
OthersWait =
    (p : Program) (h : List Entry) (c : Entry) (q : ℕ) → IsPast p h → IsIn c h → IsCall q c → ((x : End) → IsServed q x h → ⊥) → WaitsFor q (doing p h c.body)

-- ## Answers

-- the answers of a body that may go on are those of its entries after its first
abbrev pub AnswersOfEntries : Type 0
AnswersOfEntries =
    (p : Program) (h : List Entry) (b d : ℕ) (s : Start) (rs : List End) → IsPast p h → doing p h b ≡ Ready s d rs → AreAnswered h (later b h) (reverse rs)

-- of a body that waits the call is the newest entry, and its answers are those of the entries before
abbrev pub AnswersBeforeCall : Type 0
AnswersBeforeCall =
    (p : Program) (h : List Entry) (b d q l : ℕ) (s : Start) (rs : List End) → IsPast p h → doing p h b ≡ Waits s d rs q l → (c : Entry) × (es : List Entry) × (later b h ≡ c ∷ es) × IsCall q c × AreAnswered h es (reverse rs)

-- ## Asks

-- in a run, what a body that may go on said after its first entry, and then its next ask, is the list of its asks
abbrev pub EntriesAreAsks : Type 0
EntriesAreAsks =
    (p : Program) (h : List Entry) (b d : ℕ) (s : Start) (rs : List End) → IsPast p h → doing p h b ≡ Ready s d rs → asks_of p s d rs ≡ all_some (reverse (said b h)) ++ option_map (λ a. a.what) (p.next s d rs) ∷ []

-- what a body that waits for a call said is the list of its asks, the call last
abbrev pub CallIsLastAsk : Type 0
CallIsLastAsk =
    (p : Program) (h : List Entry) (b d q l : ℕ) (s : Start) (rs : List End) → IsPast p h → doing p h b ≡ Waits s d rs q l → asks_of p s d rs ≡ all_some (reverse (said b h))
