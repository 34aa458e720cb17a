-- What each step tells: of the step, the desk before, the word found, and the desk after.
use Rattle.std.specs.Prelude.{◌≡◌, ◌≢◌, ◌⊎◌, ℕ, ◌+◌, ◌<◌, ◌≤◌, true, false, List, [], ◌∷◌, Option, Some, None, slice_get}
use Rattle.atomic_table.specs.Table.{Me, Step}
use Rattle.chord_base.specs.declared.value.Object.{Object}
use Rattle.chord_base.specs.declared.value.Value as value
use Rattle.chord_base.specs.declared.event.What.{What}
use Rattle.chord_base.specs.declared.event.What.TheVariants.{Fired}
use Rattle.chord_base.specs.declared.event.Entry.{Entry}
use Rattle.chord_base.specs.Meaning.{Program}
use Rattle.chord_base.specs.Machine.{IsPast}
use Rattle.chord_base.specs.Story.{AllBelow}
use Rattle.chord_word.specs.declared.cells.Cell.{Cell}
use Rattle.chord_word.specs.declared.cells.Cell.TheVariants as a_cell
use Rattle.chord_word.specs.declared.cells.Word.{Word}
use Rattle.chord_word.specs.Cells.{word_of, link_of, WordFits}
use Rattle.chord_rule.specs.Layout.{cell_at, place_at}
use Rattle.chord_rule.specs.Moment.{LinkOk, Place, PlaceOk, word_at_place}
use Rattle.chord_rule.specs.declared.view.Claim.{Claim}
use Rattle.chord_rule.specs.declared.view.Duty.{Duty}
use Rattle.chord_rule.specs.declared.view.View.{View}
use Rattle.chord_rule.specs.Bags.{IsArmed, head_number}
use Rattle.chord_rule.specs.Claims.{HasThe, HasClaimOn, AreClaimed}
use Rattle.chord_rule.specs.Coming.{IsPlace, ComesWithMessage, ComesWithFiring}
use Rattle.chord_rule.specs.Duties.{HasDuty}
use Rattle.chord_rule.specs.Looks.{LastHead}
use Rattle.chord_rule.specs.Made.{Names, key}
use Rattle.chord_rule.specs.Ways.{HasDutyOn, KnowsBag, KnowsObject, LastSeen, IsAt, IsAloneDesk, IsLinkedCell, IsSettledCell, HasLooksLeft}
use Rattle.chord_rule.specs.Heading.{WasHead, WasPlace}
use Rattle.chord_rule.specs.Kinds.{entry, drew, was_told, claimed, firing_drawn, address_set, flown, armed, unclaimed, consumed, emptied, posting, posted, firing_started, played, saw, saw_count, saw_head, looked_head, looked_cell, rested}

-- the word of a cell with this next
abbrev pub word : Cell → Option ℕ → ℕ
word c next = word_of (record { cell = c; next = next })

-- this is what was written or read
abbrev pub a_word : Cell → Option ℕ → Word
a_word c next = record { cell = c; next = next }

-- the entry came to the run as the newest one
abbrev pub CameNext : Program → Entry → Type 0
CameNext p e = (h : List Entry) × IsPast p (e ∷ h)

-- the claim on the message i, which was pending with this next: no desk had it, and it is to the object and the method of each bag in which the desk knows it to be
pub record IsNewClaim (v : View) (i : ℕ) (next : Option ℕ) (c : Claim) : Type 0 where
  pub numbered : c.number ≡ i
  pub linked : c.next ≡ next
  pub unfired : c.firing ≡ None
  pub free : HasClaimOn i v.claims → ⊥
  pub bagged : (o : Object) (j : ℕ) → o.number < 65536 → j < 16 → KnowsObject v o → KnowsBag v i (key o j) → (c.object ≡ o) × (c.method ≡ j)

-- what a look at the cell i says of it
pub record IsLook (n : ℕ) (v w : View) (i : ℕ) (c : Word) : Type 0 where
  pub looked : w ≡ looked_cell v i c
  -- where the newest way goes on there is room for one more look
  pub room : HasLooksLeft n w.looked.ways
  -- the message to which the newest way had come is linked
  pub linked : IsAt i v.looked.ways → IsLinkedCell c.cell
  -- a message with a duty is armed
  pub armed : HasDutyOn i v.duties → IsArmed c.cell
  -- the next of an armed message is a number of the table
  pub within : IsArmed c.cell → (x : ℕ) → c.next ≡ Some x → x < n
  -- alone, no other desk has it in hand
  pub alone : IsAloneDesk v → IsAt i v.looked.ways ⊎ HasDutyOn i v.duties → IsSettledCell c.cell

-- the first desk, which has neither drawn nor been split
abbrev pub HasNotBegun : View → Type 0
HasNotBegun v = (v.first ≡ true) × (v.drawn ≡ false) × (v.splits ≡ 0)

module _ {S : Type 0} where
  -- below the limit the desk has the entry, which came next in the run, and whose number is above all that it kept and above each object that the entry names; else it is told. The first number is that of the first desk which has not begun
  abbrev pub draws : Program → ℕ → What → Step S → Me S View → ℕ → Me S View → Type 0
  draws p body what s m x w = (w.1 ≡ m.1) × (x < s.slots → (w.0 ≡ saw_count (drew m.0 x body what) (x + 1)) × AllBelow x m.0.kept × ((o : Object) → Names what o → o.number < x) × CameNext p (entry x body what) × IsPlace p (entry x body what ∷ m.0.kept))
      × (s.slots ≤ x → w.0 ≡ saw_count (was_told m.0) (x + 1))
      × (HasNotBegun m.0 → x ≡ 0)

  -- below the limit the desk has the firing, which came next in the run, with the values of its claims, and whose number is above all that it kept; else it is told
  abbrev pub draws_firing : Program → ℕ → Object → List ℕ → Step S → Me S View → ℕ → Me S View → Type 0
  draws_firing p k o ms s m x w = (w.1 ≡ m.1)
      × (x < s.slots → AllBelow x m.0.kept × ((js : List ℕ) (vs : List value.Value) → slice_get (p.chords o.class) k ≡ Some js → AreClaimed m.0.claims o js ms vs → (w.0 ≡ saw_count (firing_drawn m.0 x k o ms vs) (x + 1)) × CameNext p (entry x x (Fired k o ms vs)) × IsPlace p (entry x x (Fired k o ms vs) ∷ m.0.kept)))
      × (s.slots ≤ x → w.0 ≡ saw_count (was_told m.0) (x + 1))

  -- ## Messages

  -- the place word is set, and the empty slot is out
  abbrev pub places : Step (Option S) → Me (Option S) View → ℕ → Me (Option S) View → Type 0
  places s m x w = (i : ℕ) → s.word ≡ place_at s.slots i → (w.0 ≡ address_set m.0 i) × (w.1 ≡ (i, None) ∷ m.1)

  -- the message of the slot that is out is linked in the bag of its object and method, and the parcel goes with its entries
  abbrev pub link_adds : (S → List Entry) → Object → ℕ → Step (Option S) → Me (Option S) View → ℕ → Me (Option S) View → Type 0
  link_adds entries o j s m x w = (i : ℕ) (q : S) → m.1 ≡ (i, Some q) ∷ [] → (w.1 ≡ []) × ((above : Option ℕ) × (x ≡ link_of above) × LinkOk above × (w.0 ≡ saw_head (flown m.0 i (key o j) above (entries q)) (head_number (key o j)) (Some i)))

  -- the message in flight is pending
  abbrev pub arms : Step (Option S) → Me (Option S) View → ℕ → Me (Option S) View → Type 0
  arms s m x w = (i : ℕ) → m.0.flight ≡ Some i → w ≡ (saw (armed m.0 i) i (a_word a_cell.Pending m.0.above), m.1)

  -- ## Claims

  -- where the word was that of the pending message i with this next, it is claimed; else it was armed and not pending
  abbrev pub ClaimTells : ℕ → Option ℕ → Step (Option S) → Me (Option S) View → ℕ → Me (Option S) View → Type 0
  ClaimTells i next s m x w = (w.1 ≡ m.1)
      × (x ≡ s.first → (c : Claim) × IsNewClaim m.0 i next c × (w.0 ≡ saw (claimed m.0 c) i (a_word a_cell.Claimed next)))
      × (x ≢ s.first → (c : Word) × WordFits c × (c.cell ≢ a_cell.Pending) × (x ≡ word_of c) × (w.0 ≡ saw m.0 i c) × IsArmed c.cell)
      × (m.0.first ≡ true → m.0.lent ≡ 0 → LastSeen i (a_word a_cell.Pending next) m.0.looked.seen → x ≡ s.first)

  -- a message is claimed, or its cell was read
  abbrev pub claims : Step (Option S) → Me (Option S) View → ℕ → Me (Option S) View → Type 0
  claims s m x w = (i : ℕ) (next : Option ℕ) → s.word ≡ cell_at i → s.first ≡ word a_cell.Pending next → ClaimTells i next s m x w

  -- the cell of a claim is as the claim has it, and no number is claimed twice
  abbrev pub holds : Step (Option S) → Me (Option S) View → ℕ → Me (Option S) View → Type 0
  holds s m x w = (w ≡ m) × ((c : Claim) → HasThe c m.0.claims → s.word ≡ cell_at c.number → (x ≡ word a_cell.Claimed c.next) × WordFits (a_word a_cell.Claimed c.next))
      × ((c d : Claim) → HasThe c m.0.claims → HasThe d m.0.claims → c.number ≡ d.number → c ≡ d)

  -- a claim is given back
  abbrev pub unclaims : Step (Option S) → Me (Option S) View → ℕ → Me (Option S) View → Type 0
  unclaims s m x w = (c : Claim) → HasThe c m.0.claims → s.word ≡ cell_at c.number → w ≡ (saw (unclaimed m.0 c.number) c.number (a_word a_cell.Pending c.next), m.1)

  -- a message is consumed, and its parcel comes out: it holds the values of the claim, and what was drawn before the firing
  abbrev pub consumes : Program → (S → List Entry) → (S → List value.Value) → (S → Type 0) → Step (Option S) → Me (Option S) View → ℕ → Me (Option S) View → Type 0
  consumes p entries arguments keeps_to s m x w = (c : Claim) (f : ℕ) → HasThe c m.0.claims → s.word ≡ cell_at c.number → c.firing ≡ Some f
      → (q : S) × (w.0 ≡ saw (consumed m.0 c.number (entries q)) c.number (a_word a_cell.Consumed c.next)) × (w.1 ≡ (c.number, Some q) ∷ m.1) × (arguments q ≡ c.values) × AllBelow f (entries q) × keeps_to q × ComesWithMessage p m.0.kept c (entries q)

  -- the empty slot is home again
  abbrev pub slot_returns : Step (Option S) → Me (Option S) View → ℕ → Me (Option S) View → Type 0
  slot_returns s m x w = (i : ℕ) → m.0.emptying ≡ Some i → m.1 ≡ (i, None) ∷ [] → w ≡ (emptied m.0, [])

  -- ## Firings

  -- the empty slot of a firing is out
  abbrev pub posts_out : Step (Option S) → Me (Option S) View → ℕ → Me (Option S) View → Type 0
  posts_out s m x w = (f : ℕ) → s.word ≡ cell_at f → (w.0 ≡ posting m.0 f) × (w.1 ≡ (f, None) ∷ m.1)

  -- the firing is ready, and its parcel goes with its entries
  abbrev pub posts : (S → List Entry) → Step (Option S) → Me (Option S) View → ℕ → Me (Option S) View → Type 0
  posts entries s m x w = (f : ℕ) (q : S) → m.1 ≡ (f, Some q) ∷ [] → (w.0 ≡ saw (posted m.0 (entries q)) f (a_word a_cell.Ready None)) × (w.1 ≡ [])

  -- where the word was that of a ready firing, it is started, and its parcel comes out; else it was not ready
  abbrev pub starts : Program → (S → List Entry) → (S → Type 0) → Step (Option S) → Me (Option S) View → ℕ → Me (Option S) View → Type 0
  starts p entries keeps_to s m x w = (f : ℕ) → s.word ≡ cell_at f
      → (x ≡ s.first → (q : S) × (w.0 ≡ saw (firing_started m.0 f (entries q)) f (a_word a_cell.Started None)) × (w.1 ≡ (f, Some q) ∷ m.1) × keeps_to q × ComesWithFiring p m.0.kept f (entries q))
      × (x ≢ s.first → (w.1 ≡ m.1) × ((c : Word) × WordFits c × (c.cell ≢ a_cell.Ready) × (x ≡ word_of c) × (w.0 ≡ saw m.0 f c)))

  -- its empty slot is home again
  abbrev pub plays : Step (Option S) → Me (Option S) View → ℕ → Me (Option S) View → Type 0
  plays s m x w = (f : ℕ) → m.0.starting ≡ Some f → m.1 ≡ (f, None) ∷ [] → w ≡ (played m.0, [])

  -- ## Looks

  -- what the desk keeps is a place of the run
  abbrev pub finds_place : Program → Step S → Me S View → ℕ → Me S View → Type 0
  finds_place p s m x w = (w ≡ m) × IsPlace p m.0.kept

  -- the counter: it is above all that the desk kept, and no less than what the desk last read or wrote of it
  abbrev pub looks_count : Step (Option S) → Me (Option S) View → ℕ → Me (Option S) View → Type 0
  looks_count s m x w = (w ≡ (saw_count m.0 x, m.1)) × AllBelow x m.0.kept × ((c : ℕ) → m.0.looked.count ≡ Some c → c ≤ x)

  -- the head of a bag: the newest way begins there, and knows which messages had been linked in the bag at that moment
  abbrev pub looks_head : (S → List Entry) → (S → List value.Value) → (S → Type 0) → Program → Object → ℕ → Step (Option S) → Me (Option S) View → ℕ → Me (Option S) View → Type 0
  looks_head entries arguments keeps_to p o j s m x w = (h : Option ℕ) × (linked : List ℕ) × (x ≡ link_of h) × LinkOk h × (w ≡ (looked_head m.0 (key o j) linked h, m.1)) × HasLooksLeft s.slots w.0.looked.ways × WasHead entries arguments keeps_to p s.slots m.0 (head_number (key o j)) h linked

  -- a cell
  abbrev pub looks_cell : Step (Option S) → Me (Option S) View → ℕ → Me (Option S) View → Type 0
  looks_cell s m x w = (i : ℕ) → s.word ≡ cell_at i → (c : Word) × WordFits c × (x ≡ word_of c) × IsLook s.slots m.0 w.0 i c × (w.1 ≡ m.1)

  -- a place word: it is within the table, it is the place of each bag in which the desk knows the message to be, and it stood there at a moment of the rule
  abbrev pub looks_place : (S → List Entry) → (S → List value.Value) → (S → Type 0) → Program → Step (Option S) → Me (Option S) View → ℕ → Me (Option S) View → Type 0
  looks_place entries arguments keeps_to p s m x w = (w ≡ m) × ((i : ℕ) → s.word ≡ place_at s.slots i → (pl : Option Place) × (x ≡ word_at_place pl) × PlaceOk pl
      × ((q : Place) → pl ≡ Some q → (q.0.number < s.slots) × (q.1 < 16))
      × ((d : Duty) → HasDuty d m.0.duties → d.message ≡ i → (q : Place) × (pl ≡ Some q) × (d.bag ≡ key q.0 q.1))
      × ((c : Claim) → HasThe c m.0.claims → c.number ≡ i → pl ≡ Some (c.object, c.method))
      × WasPlace entries arguments keeps_to p s.slots m.0 i pl)

  -- ## Bypasses

  -- where the head was `from`, it is `to`; else it was another
  abbrev pub BypassTells : (head from : ℕ) → Option ℕ → Step (Option S) → Me (Option S) View → ℕ → Me (Option S) View → Type 0
  BypassTells head from to s m x w = (w.1 ≡ m.1)
      × (x ≡ s.first → w.0 ≡ saw_head m.0 head to)
      × (x ≢ s.first → (h : Option ℕ) × (x ≡ link_of h) × LinkOk h × (h ≢ Some from) × (w.0 ≡ saw_head m.0 head h))
      × (m.0.first ≡ true → m.0.lent ≡ 0 → LastHead head (Some from) m.0.looked.heads → x ≡ s.first)

  -- a head is moved past consumed messages, or was read
  abbrev pub bypasses_head : Object → ℕ → Step (Option S) → Me (Option S) View → ℕ → Me (Option S) View → Type 0
  bypasses_head o j s m x w = (from : ℕ) (to : Option ℕ) → s.first ≡ link_of (Some from) → s.second ≡ link_of to → BypassTells (head_number (key o j)) from to s m x w

  -- where the word was that of the consumed message i with the next `from`, its next is `to`; else it was another
  abbrev pub BypassCellTells : ℕ → (from to : Option ℕ) → Step (Option S) → Me (Option S) View → ℕ → Me (Option S) View → Type 0
  BypassCellTells i from to s m x w = (w.1 ≡ m.1)
      × (x ≡ s.first → w.0 ≡ saw m.0 i (a_word a_cell.Consumed to))
      × (x ≢ s.first → (c : Word) × WordFits c × (c ≢ a_word a_cell.Consumed from) × (x ≡ word_of c) × (w.0 ≡ saw m.0 i c))
      × (m.0.first ≡ true → m.0.lent ≡ 0 → LastSeen i (a_word a_cell.Consumed from) m.0.looked.seen → x ≡ s.first)

  -- the next of a consumed message is moved past consumed messages, or its cell was read
  abbrev pub bypasses_cell : Step (Option S) → Me (Option S) View → ℕ → Me (Option S) View → Type 0
  bypasses_cell s m x w = (i : ℕ) (from to : Option ℕ) → s.word ≡ cell_at i → s.first ≡ word a_cell.Consumed from → s.second ≡ word a_cell.Consumed to → BypassCellTells i from to s m x w

  -- a duty is laid down
  abbrev pub rests : ℕ → Step (Option S) → Me (Option S) View → ℕ → Me (Option S) View → Type 0
  rests i s m x w = w ≡ (rested m.0 i, m.1)
