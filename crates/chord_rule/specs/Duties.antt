-- Duties: wherever one chord could take a message for each method, somebody still has to look.
use Rattle.std.specs.Prelude.{◌≡◌, ◌≢◌, ◌⊎◌, ℕ, ◌≤◌, Bool, true, false, not, cond, ◌||◌, ◌==◌, map, List, [], ◌∷◌, Option, Some, None}
use Rattle.std.specs.List.{filter}
use mathlib.Core.Option.{some}
use lib.ListN.{get_elem?}
use Rattle.chord_word.specs.declared.cells.Cell.TheVariants.{Woken}
use Rattle.chord_rule.specs.declared.view.View.{View}
use Rattle.chord_rule.specs.declared.view.Duty.{Duty}
use Rattle.chord_rule.specs.declared.view.Walk.{Walk}
use Rattle.chord_word.specs.declared.cells.Word.{Word}
use Rattle.chord_rule.specs.Numbers.{HasNumber}
use Rattle.chord_rule.specs.Bags.{LinkOrder, IsStanding, cell_of}

-- the duty is one of these
abbrev pub HasDuty : Duty → List Duty → Type 0
HasDuty d [] = ⊥
HasDuty d (e ∷ es) = (d ≡ e) ⊎ HasDuty d es

-- the walk is one of these
abbrev pub HasWalk : Walk → List Walk → Type 0
HasWalk w [] = ⊥
HasWalk w (x ∷ xs) = (w ≡ x) ⊎ HasWalk w xs

module _ (o : LinkOrder) where
  -- from the place a walk comes to x
  abbrev pub Reaches : Option ℕ → ℕ → Type 0
  Reaches None x = ⊥
  Reaches (Some y) x = (o.bag x ≡ o.bag y) × (o.rank x ≤ o.rank y)

  -- no walk of the duty has passed a member in another bag
  pub record Carries (d : Duty) (xs : List ℕ) : Type 0 where
    pub on : d.off ≡ false
    pub of : HasNumber d.message xs
    pub walks : (w : Walk) → HasWalk w d.walks → (x : ℕ) → HasNumber x xs → x ≢ d.message → o.bag x ≡ Some w.bag → Reaches w.place x

-- IsChord: the bags of one chord on one object, in the order of its headers
module _ (IsChord : List ℕ → Type 0) where
  module _ (cells : ℕ → Word) (o : LinkOrder) where
    -- one standing message in each bag
    abbrev pub Chosen : List ℕ → List ℕ → Type 0
    Chosen [] [] = Unit {0}
    Chosen [] (x ∷ xs) = ⊥
    Chosen (k ∷ ks) [] = ⊥
    Chosen (k ∷ ks) (x ∷ xs) = (o.bag x ≡ Some k) × IsStanding (cell_of cells x) × Chosen ks xs

    -- one standing message in each bag of a chord, which has a bag
    pub record Choice (ks xs : List ℕ) : Type 0 where
      pub chord : IsChord ks
      pub some : (k : ℕ) × HasNumber k ks
      pub chosen : Chosen ks xs

    -- a woken cell names a member
    abbrev pub IsNamedByCell : List ℕ → Type 0
    IsNamedByCell xs = (q : ℕ) × (x : ℕ) × (cell_of cells q ≡ Woken x) × HasNumber x xs

  -- a desk has a duty that carries the choice
  abbrev pub IsCarried : List View → LinkOrder → List ℕ → Type 0
  IsCarried views o xs = (j : ℕ) × (v : View) × (d : Duty) × (get_elem? views j ≡ some v) × HasDuty d v.duties × Carries o d xs

  -- each choice has a member that a woken cell names, or is carried by a duty of a desk
  abbrev pub DutyLaw : (ℕ → Word) → List View → LinkOrder → Type 0
  DutyLaw cells views o = (ks xs : List ℕ) → Choice cells o ks xs → IsNamedByCell cells o xs ⊎ IsCarried views o xs

  -- the desk may lay its duty down
  abbrev pub MayRest : Duty → Type 0
  MayRest d = (d.off ≡ true) ⊎ ((ks : List ℕ) → IsChord ks → HasNumber d.bag ks
      → (w : Walk) × HasWalk w d.walks × HasNumber w.bag ks × (w.bag ≢ d.bag) × (w.place ≡ None))

-- ---- what the steps do to duties
abbrev pub duty_on : ℕ → ℕ → Duty
duty_on i k = record { message = i; bag = k; off = false; walks = [] }

-- a duty without walks and without the mark that it is off
abbrev pub reset_duty : Duty → Duty
reset_duty d = record d { off = false; walks = [] }

-- whether the walk is in the bag k
abbrev pub is_in : ℕ → Walk → Bool
is_in k w = w.bag == k

-- a look at the head of the bag k
abbrev pub start_walk : ℕ → Option ℕ → Duty → Duty
start_walk k h d = record d { walks = record { bag = k; place = h } ∷ filter (λ w. not (is_in k w)) d.walks }

-- whether the place is x
abbrev pub has_come_to : ℕ → Option ℕ → Bool
has_come_to x None = false
has_come_to x (Some y) = y == x

-- a look at the cell x, which was read Consumed or Woken with the next y
abbrev pub move_walk : ℕ → Option ℕ → Walk → Walk
move_walk x y w = record w { place = cond (has_come_to x w.place) y w.place }

-- a duty after a look at the cell x, which was read Consumed or Woken with the next y
abbrev pub move_duty : ℕ → Option ℕ → Duty → Duty
move_duty x y d = record d { off = (d.message == x) || d.off; walks = map (move_walk x y) d.walks }

-- these duties without those on x
abbrev pub drop_duty : ℕ → List Duty → List Duty
drop_duty x = filter (λ d. not (d.message == x))
