-- The bag: the numbers of the messages that no firing has taken, by what they are to.
--
-- A bag lists the pending messages to each method of each object, newest first. What they carry stays with the bodies.
use Rattle.std.specs.Prelude.{◌≡◌, ℕ, zero, suc, ◌+◌, ◌<◌, ◌==◌, ◌&&◌, Bool, true, false, List, [], ◌∷◌, length, reverse, Option, Some, None, slice_get, if◌then◌else◌}
use Rattle.std.specs.Global.{Vec}
use Rattle.chord_base.specs.declared.value.Object.{Object}
use Rattle.chord_base.specs.Messages.{Message, has}
use Rattle.chord_lists.specs.declared.bag.ClassStacks.{ClassStacks}
use Rattle.chord_lists.specs.declared.bag.Noted.{Noted}
use Rattle.chord_lists.specs.declared.bag.Older.{Older}
use Rattle.chord_lists.specs.declared.bag.Bag.{Bag}

-- ## What a message is to

-- what a message is to: a method of an object
pub record Address : Type 0 where
  pub object : ℕ
  pub class : ℕ
  pub method : ℕ

-- the address of a method of an object
abbrev pub address_to : Object → ℕ → Address
address_to o j = record { object = o.number; class = o.class; method = j }

-- the address of a message
abbrev pub address_of : Message → Address
address_of m = address_to m.object m.method

-- whether two addresses are the same
abbrev pub same_address : Address → Address → Bool
same_address a b = (a.object == b.object) && ((a.class == b.class) && (a.method == b.method))

-- ## How a bag is kept

-- the items of one of several lists; one that is not there has none
abbrev pub items_at : {A : Type 0} → List (Vec A) → ℕ → List A
items_at [] i = []
items_at (v ∷ vs) zero = v.items
items_at (v ∷ vs) (suc i) = items_at vs i

-- the numbers on the stack of a method, newest first
abbrev pub stacked_at : List (Vec ℕ) → ℕ → List ℕ
stacked_at stacks j = reverse (items_at stacks j)

-- the numbers of the messages to a method of a class, newest first
abbrev pub numbers_in : List ClassStacks → ℕ → ℕ → List ℕ
numbers_in [] c j = []
numbers_in (x ∷ xs) c j = if x.class == c then stacked_at x.stacks.items j else numbers_in xs c j

-- no stacks before this place are those of the class
abbrev pub LacksBefore : ℕ → List ClassStacks → ℕ → Type 0
LacksBefore c xs i = (k : ℕ) (x : ClassStacks) → k < i → slice_get xs k ≡ Some x → x.class ≡ c → ⊥

-- at this place are the first stacks of the class
pub record IsFirstOf (c : ℕ) (xs : List ClassStacks) (i : ℕ) : Type 0 where
  pub stacks : ClassStacks
  pub is : slice_get xs i ≡ Some stacks
  pub of_class : stacks.class ≡ c
  pub lacks : LacksBefore c xs i

-- of stacks there are as many as before where some were of the class, and one more where none were
pub record AddsClass (c : ℕ) (before after : List ClassStacks) : Type 0 where
  pub there : (i : ℕ) → IsFirstOf c before i → length after ≡ length before
  pub first : LacksBefore c before (length before) → length after ≡ length before + 1

-- the numbers on the stack of this address, newest first
abbrev pub stacked_by : List (Vec ClassStacks) → Address → List ℕ
stacked_by objects k = numbers_in (items_at objects k.object) k.class k.method

-- whether a message that stands apart is to this address
abbrev pub is_apart : Option Noted → Address → Bool
is_apart None k = false
is_apart (Some noted) k = same_address (address_to noted.object noted.method) k

-- the number of a message that stands apart comes first at its address
abbrev pub first_comes : Option Noted → Address → List ℕ → List ℕ
first_comes None k ns = ns
first_comes (Some noted) k ns = if same_address (address_to noted.object noted.method) k then noted.number ∷ ns else ns

-- the numbers of all messages but the newest to this address, newest first
abbrev pub older_of : Older → Address → List ℕ
older_of o k = first_comes o.last k (stacked_by o.objects.items k)

-- the numbers of the messages to this address, newest first
abbrev pub numbers_of : Bag → Address → List ℕ
numbers_of b k = first_comes b.newest k (older_of b.older k)

-- ## What is in the bag

-- a message to this method of this object is
abbrev pub HasMessage : Object → ℕ → (Address → List ℕ) → Type 0
HasMessage o j index = (n : ℕ) × (ns : List ℕ) × (index (address_to o j) ≡ n ∷ ns)

-- none is
abbrev pub LacksMessage : Object → ℕ → (Address → List ℕ) → Type 0
LacksMessage o j index = index (address_to o j) ≡ []

-- to each of these methods one is
abbrev pub HasMessages : Object → List ℕ → (Address → List ℕ) → Type 0
HasMessages o [] index = Unit {0}
HasMessages o (j ∷ js) index = HasMessage o j index × HasMessages o js index

-- to one of these methods none is
abbrev pub LacksAMessage : Object → List ℕ → (Address → List ℕ) → Type 0
LacksAMessage o js index = (k j : ℕ) × (slice_get js k ≡ Some j) × LacksMessage o j index

-- ## What comes and goes

-- the message of this number came under this address
abbrev pub IsPushed : Address → ℕ → (Address → List ℕ) → (Address → List ℕ) → Type 0
IsPushed k n old new = (i : Address) → new i ≡ (if same_address k i then n ∷ old i else old i)

-- the newest message under this address went, and it had this number
pub record IsPopped (k : Address) (n : ℕ) (old new : Address → List ℕ) : Type 0 where
  pub here : old k ≡ n ∷ new k
  pub others : (i : Address) → same_address k i ≡ false → new i ≡ old i

-- the newest message to each of these methods went, one after another, and they had these numbers
abbrev pub ArePopped : Object → List ℕ → List ℕ → (Address → List ℕ) → (Address → List ℕ) → Type 0
ArePopped o [] [] old new = (k : Address) → new k ≡ old k
ArePopped o [] (i ∷ ms) old new = ⊥
ArePopped o (j ∷ js) [] old new = ⊥
ArePopped o (j ∷ js) (i ∷ ms) old new = (between : Address → List ℕ) × IsPopped (address_to o j) i old between × ArePopped o js ms between new

-- ## What a bag stands for

-- numbers fall, and the first is below this one
abbrev pub Falls : ℕ → List ℕ → Type 0
Falls n [] = Unit {0}
Falls n (m ∷ ms) = (m < n) × Falls m ms

-- the lists are of exactly these messages, whose numbers are below n: each stands under its address, newest first
pub record Lists (held : ℕ → Option Message) (n : ℕ) (index : Address → List ℕ) : Type 0 where
  pub falls : (k : Address) → Falls n (index k)
  pub there : (k : Address) (i : ℕ) → has i (index k) ≡ true → (m : Message) × (held i ≡ Some m) × (address_of m ≡ k)
  pub listed : (i : ℕ) (m : Message) → held i ≡ Some m → has i (index (address_of m)) ≡ true
