-- The bags: in which order messages were linked, and how the words show it.
use Rattle.std.specs.Prelude.{◌≡◌, ◌⊎◌, ℕ, ◌%◌, ◌^◌, zero, suc, ◌<◌, ◌≤◌, Option, Some, None}
use Rattle.chord_word.specs.declared.cells.Cell.{Cell}
use Rattle.chord_word.specs.declared.cells.Cell.TheVariants.{Pending, Claimed, Consumed, Woken}
use Rattle.chord_word.specs.declared.cells.Word.{Word}

-- No word holds it: in which bag a message was linked, as how manieth, and what it was linked above
pub record LinkOrder : Type 0 where
  pub clock : ℕ
  pub bag : ℕ → Option ℕ
  pub rank : ℕ → ℕ
  pub next : ℕ → Option ℕ

-- the message of the cell is consumed
abbrev pub IsConsumed : Cell → Type 0
IsConsumed Consumed = Unit {0}
IsConsumed _ = ⊥

-- it is armed, and neither consumed nor woken
abbrev pub IsStanding : Cell → Type 0
IsStanding Pending = Unit {0}
IsStanding Claimed = Unit {0}
IsStanding _ = ⊥

-- its cell has the next
abbrev pub IsArmed : Cell → Type 0
IsArmed Pending = Unit {0}
IsArmed Claimed = Unit {0}
IsArmed Consumed = Unit {0}
IsArmed (Woken m) = Unit {0}
IsArmed _ = ⊥

-- the state of a number's cell
abbrev pub cell_of : (ℕ → Word) → ℕ → Cell
cell_of cells i = (cells i).cell

-- in at most so many steps over next, from the place x one comes to i
abbrev pub Steps : LinkOrder → ℕ → Option ℕ → ℕ → Type 0
Steps o zero x i = ⊥
Steps o (suc n) None i = ⊥
Steps o (suc n) (Some y) i = (y ≡ i) ⊎ Steps o n (o.next y) i

module _ (cells : ℕ → Word) (o : LinkOrder) where
  -- a next or a head, which leads past consumed messages alone to one of the bag k that was linked before the r-th
  pub record Leads (k r : ℕ) (x : Option ℕ) : Type 0 where
    pub inside : (y : ℕ) → x ≡ Some y → (o.bag y ≡ Some k) × (o.rank y < r)
    pub passes : (i : ℕ) → o.bag i ≡ Some k → ¬ IsConsumed (cell_of cells i) → o.rank i < r → (y : ℕ) × (x ≡ Some y) × (o.rank i ≤ o.rank y)

-- the head of a bag: 16 for each object, whatever its class
abbrev pub head_number : ℕ → ℕ
head_number k = k % 2 ^ 20

-- IsKey k: the object of the bag k was made, with the class of k
pub record BagLaw (IsKey : ℕ → Type 0) (cells : ℕ → Word) (heads : ℕ → Option ℕ) (o : LinkOrder) : Type 0 where
  pub heads_lead : (k : ℕ) → IsKey k → Leads cells o k o.clock (heads (head_number k))
  pub nexts_lead : (i k : ℕ) → o.bag i ≡ Some k → Leads cells o k (o.rank i) (o.next i)
  pub keyed : (i k : ℕ) → o.bag i ≡ Some k → IsKey k
  pub ranked : (i k : ℕ) → o.bag i ≡ Some k → o.rank i < o.clock
  pub apart : (i j k l : ℕ) → o.bag i ≡ Some k → o.bag j ≡ Some l → o.rank i ≡ o.rank j → i ≡ j
  pub armed : (i : ℕ) → IsArmed (cell_of cells i) → ((k : ℕ) × (o.bag i ≡ Some k)) × ((cells i).next ≡ o.next i)
