-- Who drew which entry, over each step; and the draws of the last desk are the journal.
use Rattle.std.proofs.Common.{◌≡◌, ◌≢◌, ℕ, zero, suc, ◌==◌, ◌++◌, Bool, true, false, if◌then◌else◌, List, [], ◌∷◌, set, refl, sym, ap, ap₂, ◌∙◌, subst, arith, eq-eqb, length-set}
use mathlib.Core.Option.{some}
use mathlib.Core.Logic.{dite}
use native.Mathlib.Decide.{ℕ_discrete}
use lib.ListN.{get_elem?}
use Rattle.atomic_table.proofs.Lists.{set_here, set_else}
use Rattle.chord_base.specs.Story.{AllBelow, IsRising, kept, together, grown, moved_into}
use Rattle.chord_base.specs.declared.event.Entry.{Entry}
use Rattle.chord_base.proofs.Merged.{placed_at, grown_keeps}
use Rattle.chord_base.proofs.Together.{goes_to, moved_keeps}
use Rattle.chord_rule.specs.declared.view.View.{View}
use Rattle.chord_rule.specs.Draws.{draws_at, DrawLaw}
use Rattle.chord_rule.specs.Kinds.{newcomer, gone}
use Rattle.chord_rule.proofs.KeepSteps.{if_same, if_other}
use Rattle.chord_rule.proofs.Puts.{at_inside}

-- where one place has each number, and every other has none, it keeps all
kept_by_one : (by : ℕ → ℕ) (id : ℕ) (h : List Entry) → ((j : ℕ) → j ≢ id → kept (λ n. by n == j) h ≡ []) → kept (λ n. by n == id) h ≡ h
kept_by_one by id [] others = refl
kept_by_one by id (e ∷ h) others = dite (ℕ_discrete (by e.number) id)
    (λ is. ap (λ (t : Bool). if t then e ∷ kept (λ n. by n == id) h else kept (λ n. by n == id) h) (eq-eqb (by e.number) id is) ∙ ap (λ (g : List Entry). e ∷ g) (kept_by_one by id h rest))
    (λ ne. absurd (let z : e ∷ kept (λ n. by n == by e.number) h ≡ [] = sym (ap (λ (t : Bool). if t then e ∷ kept (λ n. by n == by e.number) h else kept (λ n. by n == by e.number) h) (eq-eqb (by e.number) (by e.number) refl)) ∙ others (by e.number) ne in cc))
  where
    rest : (j : ℕ) → j ≢ id → kept (λ n. by n == j) h ≡ []
    rest j ne = none (by e.number == j) (others j ne)
      where
        none : (t : Bool) → (if t then e ∷ kept (λ n. by n == j) h else kept (λ n. by n == j) h) ≡ [] → kept (λ n. by n == j) h ≡ []
        none true z = absurd (cc)
        none false z = z

module _ (views : List View) (h : List Entry) (law : DrawLaw views h) where
  -- the draws of each desk, by what there is of desks
  draws_as : (views' : List View) (h' : List Entry) (by : ℕ → ℕ) (view : ℕ → List Entry) → ((j : ℕ) → kept (λ n. by n == j) h' ≡ view j) → ((j : ℕ) → view j ≡ draws_at (get_elem? views' j)) → DrawLaw views' h'
  draws_as views' h' by view keeps is = record { by = by; drawn = λ j. keeps j ∙ is j }

  -- a desk more, which drew nothing
  pub draws_more : DrawLaw (views ++ newcomer ∷ []) h
  draws_more = draws_as (views ++ newcomer ∷ []) h law.by (λ j. draws_at (get_elem? views j)) law.drawn (longer views)
    where
      longer : (vs : List View) (j : ℕ) → draws_at (get_elem? vs j) ≡ draws_at (get_elem? (vs ++ newcomer ∷ []) j)
      longer [] zero = refl
      longer [] (suc j) = refl
      longer (v ∷ vs) zero = refl
      longer (v ∷ vs) (suc j) = longer vs j

  module _ (id : ℕ) (v w : View) (at : get_elem? views id ≡ some v) where
    -- the desk that steps has its new view
    set_at : get_elem? (set views id w) id ≡ some w
    set_at = set_here views id w (at_inside views id v at)

    -- the desk that steps drew this, and the others what they did
    desks_as : (view : ℕ → List Entry) → view id ≡ w.draws → ((j : ℕ) → j ≢ id → view j ≡ draws_at (get_elem? views j)) → (j : ℕ) → view j ≡ draws_at (get_elem? (set views id w) j)
    desks_as view mine others j = dite (ℕ_discrete j id)
        (λ e. ap view e ∙ mine ∙ sym (ap draws_at (ap (get_elem? (set views id w)) e ∙ set_at)))
        (λ ne. others j ne ∙ sym (ap draws_at (set_else views id j w ne)))

    -- nothing is drawn
    pub draws_still : w.draws ≡ v.draws → DrawLaw (set views id w) h
    draws_still same = draws_as (set views id w) h law.by (λ j. draws_at (get_elem? views j)) law.drawn (desks_as (λ j. draws_at (get_elem? views j)) (ap draws_at at ∙ sym same) (λ j ne. refl))

    -- an entry is drawn
    pub draws_grow : (e : Entry) → AllBelow e.number h → w.draws ≡ e ∷ v.draws → DrawLaw (set views id w) (e ∷ h)
    draws_grow e below new = let old : ℕ → List Entry = (λ j. draws_at (get_elem? views j)) in draws_as (set views id w) (e ∷ h) (placed_at law.by e.number id) (grown old id e) (grown_keeps law.by old h id e below law.drawn)
        (desks_as (grown old id e)
        (if_same id id (e ∷ old id) (old id) refl ∙ ap (λ (es : List Entry). e ∷ es) (ap draws_at at) ∙ sym new)
        (λ j ne. if_other id j (e ∷ old j) (old j) (λ q. ne (sym q))))

    -- a desk takes over what another one drew
    pub draws_join : IsRising h → (other : ℕ) (u : View) → other ≢ id → get_elem? views other ≡ some u → w.draws ≡ together v.draws u.draws → DrawLaw (set (set views id w) other gone) h
    draws_join rises other u apart there both = let old : ℕ → List Entry = (λ j. draws_at (get_elem? views j)) in let view : ℕ → List Entry = moved_into other id old in draws_as (set (set views id w) other gone) h (λ n. goes_to other id (law.by n)) view (moved_keeps law.by old h other id apart rises law.drawn)
        (λ j. dite (ℕ_discrete j other)
        (λ e. subst (λ (z : ℕ). view z ≡ draws_at (get_elem? (set (set views id w) other gone) z)) (sym e)
        (if_other other id (together (old id) (old other)) (if other == other then [] else old other) apart ∙ if_same other other [] (old other) refl
        ∙ sym (ap draws_at (set_here (set views id w) other gone (let a = at_inside views other u there in let l = length-set views id w in omega arith)))))
        (λ no_other. dite (ℕ_discrete j id)
        (λ e. subst (λ (z : ℕ). view z ≡ draws_at (get_elem? (set (set views id w) other gone) z)) (sym e)
        (if_same id id (together (old id) (old other)) (if id == other then [] else old id) refl ∙ ap₂ together (ap draws_at at) (ap draws_at there) ∙ sym both
        ∙ sym (ap draws_at (set_else (set views id w) other id gone (λ q. apart (sym q)) ∙ set_at))))
        (λ ne. if_other j id (together (old id) (old other)) (if j == other then [] else old j) ne ∙ if_other j other [] (old j) no_other
        ∙ sym (ap draws_at (set_else (set views id w) other j gone no_other ∙ set_else views id j w ne)))))

  -- where every other desk drew nothing, one drew all
  pub draws_all : (id : ℕ) (v : View) → get_elem? views id ≡ some v → ((j : ℕ) → j ≢ id → draws_at (get_elem? views j) ≡ []) → v.draws ≡ h
  draws_all id v at nothing = sym (ap draws_at at) ∙ sym (law.drawn id) ∙ kept_by_one law.by id h (λ j ne. law.drawn j ∙ nothing j ne)
