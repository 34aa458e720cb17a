-- The word of a message's cell: the state in bits 0 to 2, the next in bits 3 to 19, the waking message in bits 20 to 35.
use Rattle.std.specs.Prelude.{◌≡◌, ◌≢◌, ◌⊎◌, ℕ, ◌+◌, ◌*◌, ◌^◌, ◌<◌, Option, Some, None}
use Rattle.chord_word.specs.declared.cells.Cell.{Cell}
use Rattle.chord_word.specs.declared.cells.Cell.TheVariants.{Empty, Pending, Claimed, Consumed, Woken, Ready, Started}
use Rattle.chord_word.specs.declared.cells.Word.{Word}
use Rattle.chord_word.specs.Bits.{bits}

-- the number of a state
abbrev pub state_of : Cell → ℕ
state_of Empty = 0
state_of Pending = 1
state_of Claimed = 2
state_of Consumed = 3
state_of (Woken m) = 4
state_of Ready = 5
state_of Started = 6

-- no message is 0, a message is its number plus 1
abbrev pub link_of : Option ℕ → ℕ
link_of None = 0
link_of (Some n) = n + 1

-- the number of the message that wakes a cell, 0 if none does
abbrev pub waker_of : Cell → ℕ
waker_of (Woken m) = m
waker_of _ = 0

-- only a cell that waits in a bag, or was taken from one, has a next
abbrev pub HasNext : Cell → Type 0
HasNext Empty = ⊥
HasNext Ready = ⊥
HasNext Started = ⊥
HasNext _ = Unit {0}

-- a next is a message below 65,536 of a cell that may have one
abbrev pub NextFits : Cell → Option ℕ → Type 0
NextFits c None = Unit {0}
NextFits c (Some n) = HasNext c × (n < 65536)

-- a cell that a word can say: its waking message is below 65,536, and its next fits
abbrev pub WordFits : Word → Type 0
WordFits w = (waker_of w.cell < 65536) × NextFits w.cell w.next

-- the word of a cell, a number below 2 ^ 36
abbrev pub word_of : Word → ℕ
word_of w = state_of w.cell + 2 ^ 3 * link_of w.next + 2 ^ 20 * waker_of w.cell

-- the word shows the cell: each part is read off its own bits, and no other bit is set
pub record ShowsCell (word : ℕ) (w : Word) : Type 0 where
  pub state : bits word 0 2 ≡ state_of w.cell
  pub next : bits word 3 19 ≡ link_of w.next
  pub waker : bits word 20 35 ≡ waker_of w.cell
  pub rest : bits word 36 63 ≡ 0

-- no cell has this state
abbrev pub HasNoState : ℕ → Type 0
HasNoState word = bits word 0 2 ≡ 7

-- the next is past the last message that there can be
abbrev pub HasFarNext : ℕ → Type 0
HasFarNext word = 65536 < bits word 3 19

-- a waking message in a word that isn't Woken
abbrev pub HasStrayWaker : ℕ → Type 0
HasStrayWaker word = (bits word 0 2 ≢ 4) × (bits word 20 35 ≢ 0)

-- a bit from 36 on is set
abbrev pub IsTooLong : ℕ → Type 0
IsTooLong word = bits word 36 63 ≢ 0

-- a next in a word that is Empty, Ready or Started
abbrev pub HasStrayNext : ℕ → Type 0
HasStrayNext word = ((bits word 0 2 ≡ 0) ⊎ (bits word 0 2 ≡ 5) ⊎ (bits word 0 2 ≡ 6)) × (bits word 3 19 ≢ 0)

-- the words that are no cell
abbrev pub IsNoCell : ℕ → Type 0
IsNoCell word = HasNoState word ⊎ HasFarNext word ⊎ HasStrayWaker word ⊎ IsTooLong word ⊎ HasStrayNext word
