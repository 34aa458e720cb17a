-- What the answers of a walk through a bag say.
use Rattle.std.specs.Prelude.{◌≡◌, ◌≢◌, ℕ, ◌+◌, ◌<◌, ◌≤◌, ◌⊎◌, List, [], ◌∷◌, ◌++◌, length, Option, Some, None, IfSome}
use Rattle.chord_word.specs.declared.cells.Cell.{Cell}
use Rattle.chord_word.specs.declared.cells.Cell.TheVariants.{Empty, Pending, Claimed, Consumed}
use Rattle.chord_rule.specs.declared.view.Duty.{Duty}
use Rattle.chord_rule.specs.declared.view.HeadLook.{HeadLook}
use Rattle.chord_rule.specs.declared.view.Look.{Look}
use Rattle.chord_rule.specs.declared.view.View.{View}
use Rattle.chord_rule.specs.declared.view.Way.{Way}
use Rattle.chord_base.specs.declared.event.Entry.{Entry}
use Rattle.chord_base.specs.declared.event.Limits.{Limits}
use Rattle.chord_base.specs.declared.value.Value as value
use Rattle.chord_code.specs.declared.parts.Parts.{Parts}
use Rattle.chord_space.specs.declared.space.Space.{Space}
use Rattle.chord_space.specs.Desks.{space_code, space_limits, program_of}
use Rattle.chord_rule.specs.Bags.{head_number}
use Rattle.chord_rule.specs.Heading.{WasHead}
use Rattle.chord_rule.specs.Kinds.{is_down}
use Rattle.chord_rule.specs.Looks.{LastHead}
use Rattle.chord_rule.specs.Ways.{IsWholeWay, IsAloneDesk}
use Rattle.chord_bag.specs.declared.walk.Sought.{Sought}
use Rattle.chord_bag.specs.declared.walk.Sought.TheVariants.{Found, Bare, Busy}
use Rattle.chord_bag.specs.Reads.{AllRead, HasRead, IsNewestLook, AllAt, KeepsEnds, IsOnlyLooks, is_passed}

-- the message i was read pending with this next, and none before it on the way was pending or unarmed
abbrev pub IsFoundOn : Way → ℕ → Option ℕ → Type 0
IsFoundOn w i next = IsNewestLook i (record { cell = Pending; next = next }) w.looks

-- the way is whole, and each message on it was read consumed or woken
abbrev pub IsBare : Way → Type 0
IsBare w = IsWholeWay w × AllRead is_down w.looks

-- no message on the way was read pending; and i was read unarmed, or the way is whole, each message on it was read consumed, woken or claimed, and i was read claimed
abbrev pub IsBusy : Way → ℕ → Type 0
IsBusy w i = ((next : Option ℕ) × IsNewestLook i (record { cell = Empty; next = next }) w.looks) ⊎ (IsWholeWay w × AllRead is_passed w.looks × HasRead i Claimed w.looks)

-- an answer, by the way that was gone
abbrev pub IsSoughtAnswer : Way → Sought → Type 0
IsSoughtAnswer w (Found i next) = IsFoundOn w i next
IsSoughtAnswer w Bare = IsBare w
IsSoughtAnswer w (Busy i) = IsBusy w i

-- a message that the answer names, and its next, are below n
abbrev pub IsSoughtBelow : ℕ → Sought → Type 0
IsSoughtBelow n (Found i next) = (i < n) × ((x : ℕ) → next ≡ Some x → x < n)
IsSoughtBelow n Bare = Unit {0}
IsSoughtBelow n (Busy i) = i < n

-- where the bag was bare, each duty's walk of it is at its end
abbrev pub IsWalked : ℕ → List Duty → Sought → Type 0
IsWalked k ds Bare = AllAt k None ds
IsWalked k ds _ = Unit {0}

-- the messages that had been linked in the bag of the newest way when its head was read
abbrev pub newest_linked : List Way → List ℕ
newest_linked [] = []
newest_linked (w ∷ ws) = w.linked

-- what the newest way has read
abbrev pub newest_looks : List Way → List Look
newest_looks [] = []
newest_looks (w ∷ ws) = w.looks

-- the newest way read the message i, and not consumed
abbrev pub IsReadUnconsumed : List Way → ℕ → Type 0
IsReadUnconsumed ws i = (c : Cell) × (c ≢ Consumed) × HasRead i c (newest_looks ws)

-- the head of the bag k, as the desk last read or wrote it, leads nowhere, or to a message that its newest way read, and not consumed
abbrev pub IsTidy : ℕ → View → Type 0
IsTidy k v = (head : Option ℕ) × LastHead (head_number k) head v.looked.heads × IfSome head (IsReadUnconsumed v.looked.ways)

-- what the desk last read or wrote of other heads than that of the bag k, it still last read or wrote there
abbrev pub KeepsHeads : ℕ → View → View → Type 0
KeepsHeads k v w = (q : ℕ) (h : Option ℕ) → (q ≡ head_number k → ⊥) → LastHead q h v.looked.heads → LastHead q h w.looked.heads

-- between the views v and w heads were read or written n times at the most
abbrev pub HasFewHeads : ℕ → View → View → Type 0
HasFewHeads n v w = (hs : List HeadLook) × (w.looked.heads ≡ hs ++ v.looked.heads) × (length hs ≤ n)

-- the newest way of the view w began at a moment under the rule, at which the desk had the view v, with a look at the head of the bag k; it knows the messages that had been linked there
abbrev pub BeganAtHead : {P : Type 0} → (P → List Entry) → (P → List value.Value) → (P → Parts → Limits → Type 0) → Space P → View → View → ℕ → Type 0
BeganAtHead entries arguments keeps_to space v w k = (head : Option ℕ) × WasHead entries arguments (λ q. keeps_to q (space_code space) (space_limits space)) (program_of space) (space_limits space).events v (head_number k) head (newest_linked w.looked.ways)

-- no message is in another hand
abbrev pub IsNotBusy : Sought → Type 0
IsNotBusy (Busy i) = ⊥
IsNotBusy _ = Unit {0}

-- the desk went one more way, that of the bag k, and what it read there is the answer
pub record IsSought (n k : ℕ) (v w : View) (s : Sought) : Type 0 where
  pub way : Way
  pub more : w.looked.ways ≡ way ∷ v.looked.ways
  pub seen : w.looked.seen ≡ way.looks ++ v.looked.seen
  pub bag : way.bag ≡ k
  pub answer : IsSoughtAnswer way s
  pub below : IsSoughtBelow n s
  pub walked : IsWalked k w.duties s
  pub others : KeepsEnds k v.duties w.duties
  pub only : IsOnlyLooks v w
  -- heads are read or written once at the walk's begin, and once more a look at the most
  pub heads : HasFewHeads (length way.looks + 1) v w
  -- on a first desk alone no message is in another hand
  pub alone : IsAloneDesk v → IsNotBusy s
