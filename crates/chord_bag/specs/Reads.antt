-- What a way through a bag has read, and how far the walks of duties have come.
use Rattle.std.specs.Prelude.{◌≡◌, ◌≢◌, ℕ, ◌⊎◌, Bool, true, false, ◌||◌, if◌then◌else◌, map, List, [], ◌∷◌, Option, None}
use Rattle.chord_word.specs.declared.cells.Cell.{Cell}
use Rattle.chord_word.specs.declared.cells.Cell.TheVariants.{Claimed}
use Rattle.chord_word.specs.declared.cells.Word.{Word}
use Rattle.chord_rule.specs.declared.view.Duty.{Duty}
use Rattle.chord_rule.specs.declared.view.Look.{Look}
use Rattle.chord_rule.specs.declared.view.Looked.{Looked}
use Rattle.chord_rule.specs.declared.view.View.{View}
use Rattle.chord_rule.specs.Duties.{HasDuty, HasWalk, start_walk, move_duty}
use Rattle.chord_rule.specs.Kinds.{is_down}

-- the message is in the hand of the desk that claimed it
abbrev pub is_claimed : Cell → Bool
is_claimed Claimed = true
is_claimed _ = false

-- a walk that looks for a pending message goes past it: it is neither pending nor unarmed
abbrev pub is_passed : Cell → Bool
is_passed c = is_down c || is_claimed c

-- each look read a cell that passes the test
abbrev pub AllRead : (Cell → Bool) → List Look → Type 0
AllRead test [] = Unit {0}
AllRead test (l ∷ ls) = (test l.word.cell ≡ true) × AllRead test ls

-- the message i was read with this cell
abbrev pub HasRead : ℕ → Cell → List Look → Type 0
HasRead i c [] = ⊥
HasRead i c (l ∷ ls) = ((l.number ≡ i) × (l.word.cell ≡ c)) ⊎ HasRead i c ls

-- the last look was at i and read this word, and each one before it read a cell that is passed
abbrev pub IsNewestLook : ℕ → Word → List Look → Type 0
IsNewestLook i word ls = (rest : List Look) × (ls ≡ record { number = i; word = word } ∷ rest) × AllRead is_passed rest

-- each duty's walk of the bag k stands at this place
abbrev pub AllAt : ℕ → Option ℕ → List Duty → Type 0
AllAt k place ds = (d : Duty) → HasDuty d ds → HasWalk (record { bag = k; place = place }) d.walks

-- the walks of other bags that were at their ends still are
abbrev pub KeepsEnds : ℕ → List Duty → List Duty → Type 0
KeepsEnds bag ds es = (k : ℕ) → k ≢ bag → AllAt k None ds → AllAt k None es

-- the messages and the bags of the duties
abbrev pub messages_and_bags : List Duty → List (ℕ × ℕ)
messages_and_bags [] = []
messages_and_bags (d ∷ ds) = (d.message, d.bag) ∷ messages_and_bags ds

-- the duties after a look at the head of the bag k
abbrev pub after_head : ℕ → Option ℕ → List Duty → List Duty
after_head k head ds = map (start_walk k head) ds

-- the duties after a look at the cell i
abbrev pub after_cell : ℕ → Word → List Duty → List Duty
after_cell i c ds = if is_down c.cell then map (move_duty i c.next) ds else ds

-- the desk with other looks, and other walks of its duties
abbrev pub with_looks : View → List Duty → Looked → View
with_looks v ds l = record v { duties = ds; looked = l }

-- nothing but looks and the walks of duties lies between
pub record IsOnlyLooks (v w : View) : Type 0 where
  pub frame : w ≡ with_looks v w.duties w.looked
  pub duties : messages_and_bags w.duties ≡ messages_and_bags v.duties
