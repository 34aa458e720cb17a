-- What the notes of a chord's bags say while it is gone through for what holds it up.
use Rattle.std.proofs.Common.{◌≡◌, ◌≢◌, inr, ⊎_elim, ℕ, ◌+◌, ◌<◌, ◌≤◌, true, false, List, length, slice_get, slice_index_or, sym, ap, ◌∙◌, subst, arith, Option, Some, None}
use mathlib.Core.Path.{Path}
use Rattle.std.specs.Option.{is_some}
use Rattle.chord_base.specs.Messages.{has}
use Rattle.chord_bag.specs.declared.walk.Sought.{Sought}
use Rattle.chord_bag.specs.declared.walk.Sought.TheVariants.{Bare, Busy}
use Rattle.chord_match.specs.Searching.{IsHolder, IsHolding}
use Rattle.chord_match.proofs.Lists.{has_at, has_place, all_below_more}

module _ (js : List ℕ) (a : List (Option Sought)) where
  -- what is known of the bag of the method at this place
  abbrev pub known_at : ℕ → Option Sought
  known_at q = slice_index_or a (slice_index_or js q 0) None

  -- of the first so many bags none is known to be busy, or i is in another hand in one of all
  abbrev pub BusySoFar : ℕ → Option ℕ → Type 0
  BusySoFar k None = (q i : ℕ) → q < k → known_at q ≢ Some (Busy i)
  BusySoFar k (Some i) = (q : ℕ) × (q < length js) × (known_at q ≡ Some (Busy i))

  -- and none is known to be bare
  abbrev pub HeldSoFar : ℕ → Option ℕ → Type 0
  HeldSoFar k busy = ((q : ℕ) → q < k → known_at q ≢ Some Bare) × BusySoFar k busy

  -- so before the first
  pub held_first : HeldSoFar 0 None
  held_first = ((λ q l e. absurd (omega (arith, l))), (λ q i l e. absurd (omega (arith, l))))

  -- the next one is not known to be bare
  none_more : (k : ℕ) → known_at k ≢ Some Bare → ((q : ℕ) → q < k → known_at q ≢ Some Bare) → (q : ℕ) → q < k + 1 → known_at q ≢ Some Bare
  none_more k here before q l e = ⊎_elim (λ same. here (sym (ap known_at same) ∙ e)) (λ low. before q low e) (all_below_more q k l)

  -- the next one is busy
  pub held_busy : (k i : ℕ) (busy : Option ℕ) → k < length js → known_at k ≡ Some (Busy i) → HeldSoFar k busy → HeldSoFar (k + 1) (Some i)
  held_busy k i busy low is t = (none_more k (λ e. let z : Path (Option Sought) (Some (Busy i)) (Some Bare) = sym is ∙ e in absurd (cc)) t.0, (k, low, is))

  -- nothing is known of the next one, or a message was found there
  pub held_other : (k : ℕ) (busy : Option ℕ) → known_at k ≢ Some Bare → ((i : ℕ) → known_at k ≢ Some (Busy i)) → HeldSoFar k busy → HeldSoFar (k + 1) busy
  held_other k None bare free t = (none_more k bare t.0, (λ q i l e. ⊎_elim (λ same. free i (sym (ap known_at same) ∙ e)) (λ low. t.1 q i low e) (all_below_more q k l)))
  held_other k (Some i) bare free t = (none_more k bare t.0, t.1)

  -- all were gone through
  pub held_all : (k : ℕ) (busy : Option ℕ) → length js ≤ k → HeldSoFar k busy → IsHolder js a busy
  held_all k None all t = inr (λ j i h e. let p = has_place j js h in let low = p.1 in t.1 p.0 i (omega (arith, all, low)) (ap (λ (z : ℕ). slice_index_or a z None) p.2 ∙ e))
  held_all k (Some i) all t = (
    (slice_index_or js t.1.0 0, has_at js t.1.0 t.1.1, t.1.2),
    (λ j h e. let p = has_place j js h in let low = p.1 in t.0 p.0 (omega (arith, all, low)) (ap (λ (z : ℕ). slice_index_or a z None) p.2 ∙ e)),
  )

-- at one place stand one chord's methods
pub same_methods : (jss : List (List ℕ)) (k : ℕ) (js ks : List ℕ) → slice_get jss k ≡ Some js → slice_get jss k ≡ Some ks → js ≡ ks
same_methods jss k js ks a b = let z : Some js ≡ Some ks = sym a ∙ b in cc

-- no chord before the one at this place is held up by a message alone
abbrev pub NoneHolds : ℕ → List (List ℕ) → List (Option Sought) → ℕ → Type 0
NoneHolds method jss a k = (q : ℕ) (js : List ℕ) → q < k → slice_get jss q ≡ Some js → has method js ≡ true → IsHolder js a None

-- so for one more
pub none_holds_more : (method : ℕ) (jss : List (List ℕ)) (a : List (Option Sought)) (k : ℕ) (js : List ℕ) → slice_get jss k ≡ Some js → (has method js ≡ true → IsHolder js a None) → NoneHolds method jss a k → NoneHolds method jss a (k + 1)
none_holds_more method jss a k js here one before q ks l e h = ⊎_elim
    (λ same. let y = same_methods jss k js ks here (ap (slice_get jss) (sym same) ∙ e) in subst (λ (x : List ℕ). IsHolder x a None) y (one (subst (λ (x : List ℕ). has method x ≡ true) (sym y) h)))
    (λ low. before q ks low e h)
    (all_below_more q k l)

-- a chord that a message holds up is the one that is told of
pub holds_here : (method : ℕ) (jss : List (List ℕ)) (a : List (Option Sought)) (k : ℕ) (js : List ℕ) (b : Option ℕ) → slice_get jss k ≡ Some js → has method js ≡ true → is_some b ≡ true → IsHolder js a b → IsHolding method jss a b
holds_here method jss a k js None here on e t = let z : false ≡ true = e in absurd (cc)
holds_here method jss a k js (Some i) here on e t = (k, js, here, on, t)

-- no message holds it up
pub none_here : (js : List ℕ) (a : List (Option Sought)) (b : Option ℕ) → is_some b ≡ false → IsHolder js a b → IsHolder js a None
none_here js a None e t = t
none_here js a (Some i) e t = let z : true ≡ false = e in absurd (cc)
