-- What each answer of a search for a chord says.
use Rattle.std.specs.Prelude.{◌≡◌, ◌≢◌, ◌⊎◌, ℕ, ◌<◌, true, List, Option, Some, slice_get}
use Rattle.chord_base.specs.Meaning.{Program}
use Rattle.chord_base.specs.Messages.{has}
use Rattle.chord_base.specs.declared.value.Object.{Object}
use Rattle.chord_word.specs.declared.cells.Cell.{Cell}
use Rattle.chord_word.specs.declared.cells.Cell.TheVariants.{Pending, Claimed, Consumed, Woken}
use Rattle.chord_rule.specs.declared.view.View.{View}
use Rattle.chord_rule.specs.declared.view.Way.{Way}
use Rattle.chord_rule.specs.Kinds.{looked_cell, rested}
use Rattle.chord_rule.specs.Made.{key}
use Rattle.chord_rule.specs.Numbers.{HasNumber}
use Rattle.chord_rule.specs.Ways.{HasWay, IsAloneDesk}
use Rattle.chord_bag.specs.declared.walk.Sought.TheVariants as a_sought
use Rattle.chord_match.specs.declared.search.Finding.{Finding}
use Rattle.chord_match.specs.declared.search.Finding.TheVariants.{Match, Left, Taken, Busy}
use Rattle.chord_match.specs.Seen.{HasSought, Answered, AreMatched, AreSeen}

-- a chord of the object's class with the method
abbrev pub IsChordWith : Program → Object → ℕ → ℕ → List ℕ → Type 0
IsChordWith p o method k js = (slice_get (p.chords o.class) k ≡ Some js) × (has method js ≡ true)

-- each of these ways is through the bag of another method of the object, which stands in a chord of its class with this one
abbrev pub AreWithinChords : Program → Object → ℕ → List Way → Type 0
AreWithinChords p o method ws = (x : Way) → HasWay x ws → (k : ℕ) × (js : List ℕ) × IsChordWith p o method k js × ((j : ℕ) × (has j js ≡ true) × (j ≢ method) × (x.bag ≡ key o j))

module _ (v w : View) (o : Object) (method : ℕ) where
  -- since v, another method of the chord had a bare bag
  abbrev pub IsLacking : List ℕ → Type 0
  IsLacking js = (j : ℕ) × (has j js ≡ true) × (j ≢ method) × Answered v w (key o j) a_sought.Bare

  -- since v, i was in another hand in the bag of another method of the chord
  abbrev pub IsHeldUp : List ℕ → ℕ → Type 0
  IsHeldUp js i = (j : ℕ) × (has j js ≡ true) × (j ≢ method) × Answered v w (key o j) (a_sought.Busy i)

-- the view after m was looked at, and read so
abbrev pub read_so : View → ℕ → Cell → Option ℕ → View
read_so v m c next = looked_cell v m (record { cell = c; next = next })

-- m was read pending, and since then bags of chords with m were sought, none of them twice, and a message was found for each other method of a chord with m, in the bag of that method
pub record IsMatch (p : Program) (n : ℕ) (v w : View) (m : ℕ) (o : Object) (method k : ℕ) (ms : List ℕ) (xs : List (Option ℕ)) : Type 0 where
  pub next : Option ℕ
  pub sought : HasSought (read_so v m Pending next) w
  -- no bag was sought but those of the chords with m
  pub within : AreWithinChords p o method sought.grows.ways
  -- the desk saw the members so that it may fire the chord
  pub seen : AreSeen n p w o k ms xs
  pub chord : IsChordWith p o method k seen.methods
  -- m is one of the members
  pub own : HasNumber m ms
  -- each was read pending with its next, in the bag of its method
  pub matched : AreMatched (read_so v m Pending next) w o m method next seen.methods ms xs

-- m was read pending, and since then bags of chords with m were sought, none of them twice, and each chord with m had another method whose bag was bare
pub record IsLeftAnswer (p : Program) (v u : View) (m : ℕ) (o : Object) (method : ℕ) : Type 0 where
  pub next : Option ℕ
  pub sought : HasSought (read_so v m Pending next) u
  pub within : AreWithinChords p o method sought.grows.ways
  pub lacking : (k : ℕ) (js : List ℕ) → IsChordWith p o method k js → IsLacking (read_so v m Pending next) u o method js

-- m was read pending, and since then bags of chords with m were sought, none of them twice, and each chord with m had another method whose bag was bare or busy, and i is the message of a busy one, in a chord none of whose bags was bare
pub record IsBusyWith (p : Program) (v w : View) (m : ℕ) (o : Object) (method i : ℕ) : Type 0 where
  pub next : Option ℕ
  pub sought : HasSought (read_so v m Pending next) w
  pub within : AreWithinChords p o method sought.grows.ways
  pub each : (k : ℕ) (js : List ℕ) → IsChordWith p o method k js → IsLacking (read_so v m Pending next) w o method js ⊎ ((x : ℕ) × IsHeldUp (read_so v m Pending next) w o method js x)
  pub one : (k : ℕ) × (js : List ℕ) × IsChordWith p o method k js × IsHeldUp (read_so v m Pending next) w o method js i × (IsLacking (read_so v m Pending next) w o method js → ⊥)

-- what a message in another hand says: it is m, which was read claimed, or one of a busy bag; and the desk is not alone
pub record IsHeldBy (p : Program) (n : ℕ) (v w : View) (m : ℕ) (o : Object) (method i : ℕ) : Type 0 where
  pub one : ((i ≡ m) × ((next : Option ℕ) × (w ≡ read_so v m Claimed next))) ⊎ IsBusyWith p v w m o method i
  pub below : i < n
  pub alone : IsAloneDesk v → ⊥

-- what a search from the view v, which left the view w, answers for m to this method of the object, with these members and nexts in the caller's places
abbrev pub IsFinding : Program → ℕ → View → View → ℕ → Object → ℕ → List ℕ → List (Option ℕ) → Finding → Type 0
IsFinding p n v w m o method ms xs (Match k) = IsMatch p n v w m o method k ms xs
IsFinding p n v w m o method ms xs Taken = (next : Option ℕ) × (w ≡ rested (read_so v m Consumed next) m)
IsFinding p n v w m o method ms xs Left = ((q : ℕ) × (next : Option ℕ) × (w ≡ rested (read_so v m (Woken q) next) m)) ⊎ ((u : View) × IsLeftAnswer p v u m o method × (w ≡ rested u m))
IsFinding p n v w m o method ms xs (Busy i) = IsHeldBy p n v w m o method i
