-- A walk through a bag on its way.
use Rattle.std.specs.Prelude.{◌≡◌, ◌≢◌, ℕ, ◌+◌, ◌<◌, Bool, true, false, List, [], ◌∷◌, ◌++◌, length, Option, Some, None}
use Rattle.chord_word.specs.declared.cells.Cell.{Cell}
use Rattle.chord_word.specs.declared.cells.Cell.TheVariants.{Claimed, Consumed}
use Rattle.chord_word.specs.declared.cells.Word.{Word}
use Rattle.chord_rule.specs.declared.view.Duty.{Duty}
use Rattle.chord_rule.specs.declared.view.View.{View}
use Rattle.chord_rule.specs.declared.view.Way.{Way}
use Rattle.chord_rule.specs.Bags.{head_number}
use Rattle.chord_rule.specs.Kinds.{is_down}
use Rattle.chord_rule.specs.Looks.{LastHead}
use Rattle.chord_rule.specs.Ways.{IsAloneDesk, IsAt, HasLooksLeft, WentPast}
use Rattle.chord_bag.specs.declared.walk.Turn.{Turn}
use Rattle.chord_bag.specs.declared.walk.Turn.TheVariants.{Over, On, Past}
use Rattle.chord_bag.specs.Reads.{AllRead, HasRead, AllAt, KeepsEnds, IsOnlyLooks, is_passed}
use Rattle.chord_bag.specs.Seeking.{IsSought, IsTidy, HasFewHeads, newest_linked, newest_looks}

-- how many looks the newest way has made
abbrev pub gone_so_far : List Way → ℕ
gone_so_far [] = 0
gone_so_far (w ∷ ws) = length w.looks

-- on the way nothing was read but what is down, or the message i was read claimed
abbrev pub IsGoing : ℕ → Way → List Duty → Option ℕ → Type 0
IsGoing n w ds None = AllRead is_down w.looks × AllAt w.bag w.place ds
IsGoing n w ds (Some i) = HasRead i Claimed w.looks × (i < n)

-- the walk of the bag k, begun at the view v, has come to this place
pub record Going (n k : ℕ) (v w : View) (place busy : Option ℕ) : Type 0 where
  pub way : Way
  pub more : w.looked.ways ≡ way ∷ v.looked.ways
  pub seen : w.looked.seen ≡ way.looks ++ v.looked.seen
  pub bag : way.bag ≡ k
  pub at : way.place ≡ place
  pub passed : AllRead is_passed way.looks
  pub going : IsGoing n way w.duties busy
  pub room : HasLooksLeft n w.looked.ways
  pub others : KeepsEnds k v.duties w.duties
  pub only : IsOnlyLooks v w
  pub heads : HasFewHeads (length way.looks + 1) v w
  pub alone : IsAloneDesk v → busy ≡ None

-- a walk on which this message was read claimed is over with this answer, or goes on
abbrev pub ComesToTurn : ℕ → ℕ → View → View → Option ℕ → Turn → Type 0
ComesToTurn n k v w busy (Over s) = IsSought n k v w s
ComesToTurn n k v w busy (On place more) = Going n k v w place more
ComesToTurn n k v w busy (Past place) = Going n k v w place busy

-- the walk goes past each message that it reads consumed
abbrev pub PassesConsumed : Turn → Cell → Type 0
PassesConsumed (Past place) c = Unit {0}
PassesConsumed _ c = c ≢ Consumed

-- while the walk is at the head of the bag k, the head that the desk last read or wrote leads to its place; afterwards the bag is tidy
abbrev pub IsAtHead : ℕ → View → Option ℕ → Bool → Type 0
IsAtHead k v place true = LastHead (head_number k) place v.looked.heads
IsAtHead k v place false = IsTidy k v

-- whatever walk had come to i, comes to this, and is longer by one look
pub record IsTurn (n : ℕ) (u w : View) (i : ℕ) (busy : Option ℕ) (t : Turn) : Type 0 where
  pub comes : (k : ℕ) (v : View) → Going n k v u (Some i) busy → ComesToTurn n k v w busy t
  pub longer : (k : ℕ) (v : View) → Going n k v u (Some i) busy → gone_so_far w.looked.ways ≡ gone_so_far u.looked.ways + 1
  pub linked : newest_linked w.looked.ways ≡ newest_linked u.looked.ways
  pub heads : w.looked.heads ≡ u.looked.heads
  pub read : IsAt i u.looked.ways → (word : Word) × (newest_looks w.looked.ways ≡ record { number = i; word = word } ∷ newest_looks u.looked.ways) × PassesConsumed t word.cell
  -- past a consumed message
  pub past : (next : Option ℕ) → t ≡ Past next → IsAt i u.looked.ways → WentPast w i next
