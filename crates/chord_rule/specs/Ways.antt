-- The ways of a desk through bags.
use Rattle.std.specs.Prelude.{◌≡◌, ◌⊎◌, ℕ, ◌<◌, ◌≤◌, true, if◌then◌else◌, length, List, [], ◌∷◌, Option, Some, None}
use Rattle.chord_word.specs.declared.cells.Cell.{Cell}
use Rattle.chord_word.specs.declared.cells.Cell.TheVariants.{Empty, Pending, Claimed, Consumed, Woken}
use Rattle.chord_word.specs.declared.cells.Word.{Word}
use Rattle.chord_rule.specs.declared.view.Look.{Look}
use Rattle.chord_rule.specs.declared.view.Way.{Way}
use Rattle.chord_rule.specs.declared.view.Duty.{Duty}
use Rattle.chord_rule.specs.declared.view.View.{View}
use Rattle.chord_rule.specs.Numbers.{HasNumber}
use Rattle.chord_rule.specs.Bags.{LinkOrder, IsConsumed, cell_of, head_number}
use Rattle.chord_rule.specs.Duties.{HasDuty, has_come_to}
use Rattle.chord_rule.specs.Made.{key}
use Rattle.chord_base.specs.declared.value.Object.{Object}

-- where a walk goes on: an unarmed message has no next yet
abbrev pub way_onward : Cell → Option ℕ → Option ℕ
way_onward Empty next = None
way_onward _ next = next

-- after a look at the head of the bag k, in which these messages had been linked
abbrev pub way_begun : ℕ → List ℕ → Option ℕ → Way
way_begun k linked head = record { bag = k; linked = linked; place = head; looks = [] }

-- after a look at the message i, to which the way had come
abbrev pub gone_on : Way → ℕ → Word → Way
gone_on w i c = record { bag = w.bag; linked = w.linked; place = way_onward c.cell c.next; looks = record { number = i; word = c } ∷ w.looks }

-- a look at the cell i goes on the newest way, if that has come to i
abbrev pub on_way : ℕ → Word → List Way → List Way
on_way i c [] = []
on_way i c (w ∷ ws) = (if has_come_to i w.place then gone_on w i c else w) ∷ ws

-- the newest way has come to i
abbrev pub IsAt : ℕ → List Way → Type 0
IsAt i [] = ⊥
IsAt i (w ∷ ws) = w.place ≡ Some i

-- the way is one of these
abbrev pub HasWay : Way → List Way → Type 0
HasWay w [] = ⊥
HasWay w (x ∷ xs) = (w ≡ x) ⊎ HasWay w xs

-- the message was looked at
abbrev pub WasRead : ℕ → List Look → Type 0
WasRead i [] = ⊥
WasRead i (l ∷ ls) = (i ≡ l.number) ⊎ WasRead i ls

-- the desk has a duty on the message i
abbrev pub HasDutyOn : ℕ → List Duty → Type 0
HasDutyOn i ds = (d : Duty) × HasDuty d ds × (d.message ≡ i)

-- the desk knows that the message i is linked in the bag k: it stands on a way of that bag, or the desk has a duty on it
abbrev pub KnowsBag : View → ℕ → ℕ → Type 0
KnowsBag v i k = ((w : Way) × HasWay w v.looked.ways × (w.bag ≡ k) × WasRead i w.looks) ⊎ ((d : Duty) × HasDuty d v.duties × (d.message ≡ i) × (d.bag ≡ k))

-- the desk knows that the object was made: it has a duty on a message to it
abbrev pub KnowsObject : View → Object → Type 0
KnowsObject v o = (d : Duty) × (j : ℕ) × HasDuty d v.duties × (j < 16) × (d.bag ≡ key o j)

-- what the desk last read or wrote in the cell i
abbrev pub LastSeen : ℕ → Word → List Look → Type 0
LastSeen i c [] = ⊥
LastSeen i c (l ∷ ls) = ((i ≡ l.number) × (c ≡ l.word)) ⊎ ((i ≡ l.number → ⊥) × LastSeen i c ls)

-- a cell that a linked message can have
abbrev pub IsLinkedCell : Cell → Type 0
IsLinkedCell Empty = Unit {0}
IsLinkedCell Pending = Unit {0}
IsLinkedCell Claimed = Unit {0}
IsLinkedCell Consumed = Unit {0}
IsLinkedCell (Woken q) = Unit {0}
IsLinkedCell _ = ⊥

-- a cell that a linked message can have where no desk has it in hand
abbrev pub IsSettledCell : Cell → Type 0
IsSettledCell Pending = Unit {0}
IsSettledCell Consumed = Unit {0}
IsSettledCell (Woken q) = Unit {0}
IsSettledCell _ = ⊥

-- the first desk, which has lent none, and has no claim and nothing in flight
pub record IsAloneDesk (v : View) : Type 0 where
  pub first : v.first ≡ true
  pub lent : v.lent ≡ 0
  pub claims : v.claims ≡ []
  pub flight : v.flight ≡ None

-- what a desk may read next on its newest way: a message below n, which makes at most n
abbrev pub HasLooksLeft : ℕ → List Way → Type 0
HasLooksLeft n ws = (w : Way) (rest : List Way) → ws ≡ w ∷ rest → (x : ℕ) → w.place ≡ Some x → (x < n) × (length w.looks < n)

-- each of these looks was at a message that was linked after the r-th
abbrev pub AllAbove : LinkOrder → ℕ → List Look → Type 0
AllAbove o r [] = Unit {0}
AllAbove o r (l ∷ ls) = (r < o.rank l.number) × AllAbove o r ls

-- these looks were at messages of the bag k below n, each linked before the one that was looked at before it
abbrev pub LeadsDown : (n k : ℕ) → LinkOrder → List Look → Type 0
LeadsDown n k o [] = Unit {0}
LeadsDown n k o (l ∷ ls) = (o.bag l.number ≡ Some k) × (l.number < n) × AllAbove o (o.rank l.number) ls × LeadsDown n k o ls

-- these are the messages that were linked in a bag with this head
pub record WereLinked (o : LinkOrder) (head : ℕ) (is : List ℕ) : Type 0 where
  pub all : (i k : ℕ) → o.bag i ≡ Some k → head_number k ≡ head → HasNumber i is
  pub only : (i : ℕ) → HasNumber i is → (k : ℕ) × (o.bag i ≡ Some k) × (head_number k ≡ head)

-- the last look read a message that was not armed, behind which nothing can be read
abbrev pub IsCutShort : List Look → Type 0
IsCutShort [] = ⊥
IsCutShort (l ∷ ls) = l.word.cell ≡ Empty

-- the way went to the end of its bag
abbrev pub IsWholeWay : Way → Type 0
IsWholeWay w = (w.place ≡ None) × (IsCutShort w.looks → ⊥)

-- these looks read consumed messages alone from the one at the message i on, up to the newest
abbrev pub ReadsPast : ℕ → List Look → Type 0
ReadsPast i [] = ⊥
ReadsPast i (l ∷ ls) = (l.word.cell ≡ Consumed) × ((l.number ≡ i) ⊎ ReadsPast i ls)

-- the desk read i consumed, and each message that followed it over next before the place `to`, where that way led
abbrev pub WentPast : View → ℕ → Option ℕ → Type 0
WentPast v i to = (w : Way) × HasWay w v.looked.ways × (w.place ≡ to) × ReadsPast i w.looks

-- what these looks read as consumed is consumed
abbrev pub AreDown : (ℕ → Word) → List Look → Type 0
AreDown cells [] = Unit {0}
AreDown cells (l ∷ ls) = (l.word.cell ≡ Consumed → IsConsumed (cell_of cells l.number)) × AreDown cells ls

-- the message i of the bag k is consumed, or was looked at on the way, or the way has still to come to it, or was cut short before it
abbrev pub IsMetOn : (ℕ → Word) → LinkOrder → ℕ → Way → ℕ → Type 0
IsMetOn cells o k w i = IsConsumed (cell_of cells i) ⊎ WasRead i w.looks ⊎ ((w.place ≡ None) × IsCutShort w.looks) ⊎ ((x : ℕ) × (w.place ≡ Some x) × (o.bag i ≡ Some k) × (o.rank i ≤ o.rank x))

-- a way goes from message to message of one bag, each linked before the last, and so does the message to which it has come.
-- The head of its bag is that of this one, so they are one bag where the object of the way's was made. It misses no message
-- that had been linked when the head was read, meets no other, and what it read as consumed is consumed.
pub record WayLaw (n : ℕ) (cells : ℕ → Word) (o : LinkOrder) (w : Way) : Type 0 where
  pub along : ℕ
  pub headed : head_number along ≡ head_number w.bag
  pub falls : LeadsDown n along o w.looks
  pub place : (x : ℕ) → w.place ≡ Some x → (o.bag x ≡ Some along) × (x < n) × AllAbove o (o.rank x) w.looks
  pub misses_none : (i : ℕ) → HasNumber i w.linked → IsMetOn cells o along w i
  pub meets : (i : ℕ) → WasRead i w.looks ⊎ (w.place ≡ Some i) → HasNumber i w.linked
  pub in_bags : (i : ℕ) → HasNumber i w.linked → (k : ℕ) × (o.bag i ≡ Some k)
  pub closed : (i j : ℕ) → HasNumber j w.linked → o.bag i ≡ Some along → o.rank i ≤ o.rank j → HasNumber i w.linked
  pub down : AreDown cells w.looks
