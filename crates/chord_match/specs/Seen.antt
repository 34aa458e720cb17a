-- What a desk has read and been answered since a moment, and which members of a chord it has seen.
use Rattle.std.specs.Prelude.{◌≡◌, ◌≢◌, ◌⊎◌, ℕ, ◌<◌, List, [], ◌∷◌, ◌++◌, slice_get, Option, Some, IfSome}
use Rattle.chord_base.specs.Meaning.{Program}
use Rattle.chord_base.specs.Messages.{AreDifferent}
use Rattle.chord_base.specs.declared.value.Object.{Object}
use Rattle.chord_word.specs.declared.cells.Cell.{Cell}
use Rattle.chord_word.specs.declared.cells.Cell.TheVariants.{Consumed}
use Rattle.chord_rule.specs.declared.view.Look.{Look}
use Rattle.chord_rule.specs.declared.view.View.{View}
use Rattle.chord_rule.specs.declared.view.Way.{Way}
use Rattle.chord_rule.specs.Bags.{head_number}
use Rattle.chord_rule.specs.Looks.{HasSeen, LastHead}
use Rattle.chord_rule.specs.Made.{key}
use Rattle.chord_rule.specs.Ways.{HasWay, IsAloneDesk, KnowsBag, KnowsObject}
use Rattle.chord_bag.specs.declared.walk.Sought.{Sought}
use Rattle.chord_bag.specs.declared.walk.Sought.TheVariants.{Found}
use Rattle.chord_bag.specs.Reads.{HasRead, IsOnlyLooks}
use Rattle.chord_bag.specs.Seeking.{IsSoughtAnswer}

-- from one view to another there were looks and ways alone
pub record Grows (u w : View) : Type 0 where
  pub ways : List Way
  pub looks : List Look
  pub more_ways : w.looked.ways ≡ ways ++ u.looked.ways
  pub more_seen : w.looked.seen ≡ looks ++ u.looked.seen
  pub only : IsOnlyLooks u w

-- the bags of these ways
abbrev pub bags_of : List Way → List ℕ
bags_of [] = []
bags_of (w ∷ ws) = w.bag ∷ bags_of ws

-- the looks of these ways
abbrev pub looks_along : List Way → List Look
looks_along [] = []
looks_along (w ∷ ws) = w.looks ++ looks_along ws

-- the head of the way's bag, as the desk last read or wrote it, leads nowhere, or to a message that was read on the way, and not consumed
abbrev pub IsLeftTidy : View → Way → Type 0
IsLeftTidy w x = (head : Option ℕ) × LastHead (head_number x.bag) head w.looked.heads × IfSome head (λ i. (c : Cell) × (c ≢ Consumed) × HasRead i c x.looks)

-- from one view to another bags were sought, none of them twice, and no cell was looked at but on the ways through them
pub record HasSought (u w : View) : Type 0 where
  pub grows : Grows u w
  pub once : AreDifferent (bags_of grows.ways)
  pub along : grows.looks ≡ looks_along grows.ways
  -- a first desk alone leaves each of these bags without consumed messages at its head
  pub tidy : IsAloneDesk u → (x : Way) → HasWay x grows.ways → IsLeftTidy w x

-- since v a way of the bag k was gone, with this answer
abbrev pub Answered : View → View → ℕ → Sought → Type 0
Answered v w k s = (x : Way) × (ws : List Way) × (w.looked.ways ≡ ws ++ v.looked.ways) × HasWay x ws × (x.bag ≡ k) × IsSoughtAnswer x s

-- the member for the method j: m itself with its next for its own method, else a message that was found since v in the bag of j
abbrev pub IsMember : View → View → Object → ℕ → ℕ → Option ℕ → ℕ → ℕ → Option ℕ → Type 0
IsMember v w o m method own j i next = ((j ≡ method) × (i ≡ m) × (next ≡ own)) ⊎ ((j ≢ method) × Answered v w (key o j) (Found i next))

-- these are members with their nexts, one for each method in order
abbrev pub AreMatched : View → View → Object → ℕ → ℕ → Option ℕ → List ℕ → List ℕ → List (Option ℕ) → Type 0
AreMatched v w o m method own [] [] [] = Unit {0}
AreMatched v w o m method own (j ∷ js) (i ∷ is) (x ∷ xs) = IsMember v w o m method own j i x × AreMatched v w o m method own js is xs
AreMatched v w o m method own _ _ _ = ⊥

-- the desk saw this next in the armed cell i, and knows that i is linked in the bag of the method j; both are below n
pub record MayBeClaimed (n : ℕ) (w : View) (o : Object) (j i : ℕ) (next : Option ℕ) : Type 0 where
  pub seen : HasSeen w i next
  pub known : KnowsBag w i (key o j)
  pub below : i < n
  pub next_below : (x : ℕ) → next ≡ Some x → x < n

-- the members are so, one for each method in order
abbrev pub MayAllBeClaimed : ℕ → View → Object → List ℕ → List ℕ → List (Option ℕ) → Type 0
MayAllBeClaimed n w o [] [] [] = Unit {0}
MayAllBeClaimed n w o (j ∷ js) (i ∷ is) (x ∷ xs) = MayBeClaimed n w o j i x × MayAllBeClaimed n w o js is xs
MayAllBeClaimed n w o _ _ _ = ⊥

-- the desk saw these members with these nexts, one for each method of the chord of this number on the object, which it knows
pub record AreSeen (n : ℕ) (p : Program) (w : View) (o : Object) (chord : ℕ) (ms : List ℕ) (xs : List (Option ℕ)) : Type 0 where
  pub methods : List ℕ
  pub is_chord : slice_get (p.chords o.class) chord ≡ Some methods
  pub ready : MayAllBeClaimed n w o methods ms xs
  pub object : KnowsObject w o
