-- What each answer of an attempt to fire a chord says.
use Rattle.std.specs.Prelude.{◌≡◌, ◌≢◌, ℕ, ◌+◌, ◌<◌, ◌≤◌, true, List, [], ◌∷◌, ◌++◌, map, length, reverse, take, slice_get, slice_index_or, Option, Some, None}
use Rattle.chord_base.specs.Meaning.{Program}
use Rattle.chord_base.specs.Story.{AllBelow, together}
use Rattle.chord_base.specs.declared.event.Entry.{Entry}
use Rattle.chord_base.specs.declared.event.What.TheVariants as what
use Rattle.chord_base.specs.declared.value.Object.{Object}
use Rattle.chord_base.specs.declared.value.Value as value
use Rattle.chord_word.specs.declared.cells.Cell.{Cell}
use Rattle.chord_word.specs.declared.cells.Cell.TheVariants.{Pending, Claimed, Consumed}
use Rattle.chord_word.specs.declared.cells.Word.{Word}
use Rattle.chord_rule.specs.declared.view.Claim.{Claim}
use Rattle.chord_rule.specs.declared.view.Duty.{Duty}
use Rattle.chord_rule.specs.declared.view.Look.{Look}
use Rattle.chord_rule.specs.declared.view.View.{View}
use Rattle.chord_rule.specs.Coming.{IsPlace, ComesWithMessage}
use Rattle.chord_rule.specs.Duties.{drop_duty}
use Rattle.chord_rule.specs.Kinds.{entry}
use Rattle.chord_rule.specs.Numbers.{HasNumber}
use Rattle.chord_rule.specs.Tells.{CameNext}
use Rattle.chord_rule.specs.Ways.{LastSeen}
use Rattle.chord_match.specs.declared.claiming.Missed.{Missed}
use Rattle.chord_match.specs.declared.claiming.Missed.TheVariants as a_miss
use Rattle.chord_match.specs.declared.handing.Firing.{Firing}
use Rattle.chord_match.specs.declared.handing.Firing.TheVariants.{Fired, Lost, Spent}

-- the desk last read or wrote the members from place `at` on pending, with these nexts
abbrev pub AreLastPending : View → List ℕ → List (Option ℕ) → ℕ → Type 0
AreLastPending v ms xs at = (q : ℕ) → at ≤ q → q < length ms → LastSeen (slice_index_or ms q 0) (record { cell = Pending; next = slice_index_or xs q None }) v.looked.seen

-- the messages of these looks, each with the cell that was read or written there
abbrev pub messages_and_cells : List Look → List (ℕ × Cell)
messages_and_cells [] = []
messages_and_cells (l ∷ ls) = (l.number, l.word.cell) ∷ messages_and_cells ls

-- these messages, each with this cell
abbrev pub all_with : Cell → List ℕ → List (ℕ × Cell)
all_with c [] = []
all_with c (i ∷ is) = (i, c) ∷ all_with c is

-- by these looks, the newest first, members were claimed in header order and each once, up to the first that was not pending, which is i; then they were given back, the last one first
pub record TriedUpTo (ms : List ℕ) (i : ℕ) (looks : List Look) : Type 0 where
  pub place : ℕ
  pub here : slice_get ms place ≡ Some i
  pub cell : Cell
  pub gone : cell ≢ Pending
  pub in_order : messages_and_cells looks ≡ all_with Pending (take place ms) ++ (i, cell) ∷ all_with Claimed (reverse (take place ms))

-- the last of these looks at the cell i read it not pending
abbrev pub WasGone : ℕ → List Look → Type 0
WasGone i ls = (c : Word) × LastSeen i c ls × (c.cell ≢ Pending)

-- the member i was lost: when the desk last looked at it, it was not pending, and all claims were given back
pub record IsLost (n : ℕ) (v w : View) (ms : List ℕ) (xs : List (Option ℕ)) (i : ℕ) : Type 0 where
  -- the desk is as before but for what it read and wrote
  pub same : w ≡ record v { looked = w.looked }
  pub claims : w.claims ≡ []
  pub member : HasNumber i ms
  pub below : i < n
  pub looks : List Look
  pub more : w.looked.seen ≡ looks ++ v.looked.seen
  -- i was gone at the last look at it, so it is none of the members before it, whose last looks wrote them pending again; `tried` says so only of members that are all different, which follows from the rule and from nothing here
  pub read : WasGone i looks
  -- of what it remembers only these looks at cells are new: the ways, which tell it in what bags the members are, are those before
  pub remembered : w.looked ≡ record v.looked { seen = looks ++ v.looked.seen }
  -- nothing was tried again, and no member behind i was tried
  pub tried : TriedUpTo ms i looks
  -- on a first desk alone no member is lost that it last read or wrote pending
  pub alone : v.first ≡ true → v.lent ≡ 0 → AreLastPending v ms xs 0 → ⊥

-- the draw was told that the limit on events is reached, and all claims were given back
pub record IsTurnedAway (n : ℕ) (v w : View) (ms : List ℕ) : Type 0 where
  -- the desk is as before but for what it read and wrote, and that it was told
  pub same : w ≡ record v { looked = w.looked; spent = true }
  pub claims : w.claims ≡ []
  pub counter : (c : ℕ) × (n < c) × (w.looked.count ≡ Some c)
  pub looks : List Look
  -- of what it remembers only these looks at cells are new, and the counter
  pub remembered : w.looked ≡ record v.looked { seen = looks ++ v.looked.seen; count = w.looked.count }
  -- all members were claimed in header order and each once, and given back, the last one first
  pub in_order : messages_and_cells looks ≡ all_with Pending ms ++ all_with Claimed (reverse ms)

-- why nothing was fired
abbrev pub IsMissedBy : ℕ → View → View → List ℕ → List (Option ℕ) → Missed → Type 0
IsMissedBy n v w ms xs (a_miss.Lost i) = IsLost n v w ms xs i
IsMissedBy n v w ms xs a_miss.Spent = IsTurnedAway n v w ms

-- the entries of these parcels came, one parcel after another
abbrev pub all_together : List Entry → List (List Entry) → List Entry
all_together es [] = es
all_together es (ps ∷ pss) = all_together (together es ps) pss

-- no duty on one of these messages is left
abbrev pub drop_duties : List ℕ → List Duty → List Duty
drop_duties [] ds = ds
drop_duties (i ∷ ms) ds = drop_duties ms (drop_duty i ds)

module _ {P : Type 0} where
  -- the arguments of the parcels laid together
  abbrev pub laid_together : (P → List value.Value) → List P → List value.Value
  laid_together arguments [] = []
  laid_together arguments (q ∷ qs) = arguments q ++ laid_together arguments qs

  -- what each parcel keeps was drawn before f, and its task is of the space's code and limits
  abbrev pub AreOlder : (P → List Entry) → (P → Type 0) → ℕ → List P → Type 0
  AreOlder entries keeps_to f [] = Unit {0}
  AreOlder entries keeps_to f (q ∷ qs) = AllBelow f (entries q) × keeps_to q × AreOlder entries keeps_to f qs

  -- the firing's entry, of this number, with the values of these parcels
  abbrev pub firing_entry : (P → List value.Value) → Object → ℕ → List ℕ → ℕ → List P → Entry
  firing_entry arguments o chord ms f qs = entry f f (what.Fired chord o ms (laid_together arguments qs))

-- these entries come with the parcel of the message i, to the method j of the object, to a desk that keeps those
abbrev pub IsComing : Program → Object → List Entry → ℕ → ℕ → List Entry → Type 0
IsComing p o es j i ps = (c : Claim) × (c.number ≡ i) × (c.object ≡ o) × (c.method ≡ j) × ComesWithMessage p es c ps

module _ {P : Type 0} where
  -- so come those of these parcels, one after another, each with the member for one method
  abbrev pub AreComing : Program → (P → List Entry) → Object → List Entry → List ℕ → List ℕ → List P → Type 0
  AreComing p entries o es [] [] [] = Unit {0}
  AreComing p entries o es (j ∷ js) (i ∷ ms) (q ∷ qs) = IsComing p o es j i (entries q) × AreComing p entries o (together es (entries q)) js ms qs
  AreComing p entries o es _ _ _ = ⊥

-- the firing f was drawn, and its parcels are handed out, one for each member in header order
pub record IsFired {P : Type 0} (entries : P → List Entry) (arguments : P → List value.Value) (keeps_to : P → Type 0) (p : Program) (n : ℕ) (v w : View) (o : Object) (chord : ℕ) (ms : List ℕ) (f : ℕ) (qs : List P) : Type 0 where
  pub methods : List ℕ
  pub is_chord : slice_get (p.chords o.class) chord ≡ Some methods
  pub low : f < n
  -- its number is above all that the desk kept
  pub below : AllBelow f v.kept
  -- its entry came next in the run
  pub came : CameNext p (firing_entry arguments o chord ms f qs)
  pub each : length qs ≡ length ms
  pub older : AreOlder entries keeps_to f qs
  -- what the desk kept with the firing's entry is a place of the run, and each parcel's entries come from another one
  pub place : IsPlace p (firing_entry arguments o chord ms f qs ∷ v.kept)
  pub coming : AreComing p entries o (firing_entry arguments o chord ms f qs ∷ v.kept) methods ms qs
  -- what the desk then keeps is a place of the run
  pub stays : IsPlace p w.kept
  -- of what it remembers only these looks at cells are new, and the counter
  pub looks : List Look
  pub remembered : w.looked ≡ record v.looked { seen = looks ++ v.looked.seen; count = Some (f + 1) }
  -- the members were claimed in header order and each once, and then consumed in header order and each once
  pub in_order : messages_and_cells looks ≡ all_with Consumed (reverse ms) ++ all_with Claimed (reverse ms)
  -- the desk keeps the firing's entry and what the parcels keep; it has no claim, and no duty on a member
  pub view : w ≡ record v { kept = all_together (firing_entry arguments o chord ms f qs ∷ v.kept) (map entries qs); draws = firing_entry arguments o chord ms f qs ∷ v.draws; claims = []; unposted = f ∷ v.unposted; drawn = true; duties = drop_duties ms v.duties; looked = w.looked }

-- what an attempt to fire from the view v, which left the view w, answers for these members of the chord
abbrev pub IsFireAnswer : {P : Type 0} → (P → List Entry) → (P → List value.Value) → (P → Type 0) → Program → ℕ → View → View → Object → ℕ → List ℕ → List (Option ℕ) → Firing P → Type 0
IsFireAnswer entries arguments keeps_to p n v w o chord ms xs (Fired f hand) = IsFired entries arguments keeps_to p n v w o chord ms f hand
IsFireAnswer entries arguments keeps_to p n v w o chord ms xs (Lost i) = IsLost n v w ms xs i
IsFireAnswer entries arguments keeps_to p n v w o chord ms xs Spent = IsTurnedAway n v w ms
