-- Each kind of step keeps keeping.
use Rattle.std.proofs.Common.{◌≡◌, ◌≢◌, ◌⊎◌, inl, inr, ℕ, zero, suc, ◌+◌, ◌*◌, ◌/◌, ◌%◌, ◌<◌, ◌==◌, ◌++◌, if◌then◌else◌, Bool, List, [], ◌∷◌, length, set, refl, sym, ap, ap₂, ◌∙◌, subst, arith, eq-eqb, ne_eqb, length-set, Some}
use mathlib.Core.Option.{some, none}
use mathlib.Core.Logic.{dite}
use native.Mathlib.Decide.{ℕ_discrete}
use lib.ListN.{get_elem?}
use Rattle.atomic_table.proofs.Lists.{set_here, set_else}
use Rattle.chord_base.specs.Meaning.{Program}
use Rattle.chord_base.specs.Machine.{Fires}
use Rattle.chord_base.specs.declared.value.Object.{Object}
use Rattle.chord_base.specs.declared.value.Value as value
use Rattle.chord_base.specs.declared.event.What.TheVariants.{Begun, Fired}
use Rattle.chord_base.specs.declared.event.Entry.{Entry}
use Rattle.chord_base.specs.Story.{IsMerged, IsTold, grown, parted, kept}
use Rattle.chord_base.proofs.Merged.{merged_fire, merged_more}
use Rattle.chord_base.proofs.Parting.{parting_keeps_places}
use Rattle.chord_rule.specs.declared.view.View.{View}
use Rattle.chord_rule.specs.Moment.{Home}
use Rattle.chord_rule.specs.Kinds.{newcomer, gone, is_among, entry, left_by, MayGo}
use Rattle.chord_base.specs.Story.{together, moved_into}
use Rattle.chord_rule.specs.Keeping.{desk, parcel, at_desk, at_home, kept_at, Keeping}
use Rattle.chord_rule.proofs.Puts.{put, put_here, put_else, at_inside}
use Rattle.chord_rule.proofs.Keeping.{same_places, desk_keeps, parcel_keeps}
use Rattle.chord_base.proofs.Together.{moving_keeps_places}

-- each place is a desk or a parcel
pub place_of : (c : ℕ) → ((j : ℕ) × (c ≡ desk j)) ⊎ ((i : ℕ) × (c ≡ parcel i))
place_of c = dite (ℕ_discrete (c % 2) 0) (λ e. inl (c / 2, omega arith)) (λ ne. inr (c / 2, omega arith))

-- each place is a desk or a parcel
pub by_place : {A : Type 0} (f g : ℕ → A) → ((j : ℕ) → f (desk j) ≡ g (desk j)) → ((i : ℕ) → f (parcel i) ≡ g (parcel i)) → (c : ℕ) → f c ≡ g c
by_place f g d q c = dite (ℕ_discrete (c % 2) 0)
    (λ e. let z : c ≡ 2 * (c / 2) = omega arith in ap f z ∙ d (c / 2) ∙ sym (ap g z))
    (λ ne. let z : c ≡ 2 * (c / 2) + 1 = omega arith in ap f z ∙ q (c / 2) ∙ sym (ap g z))

-- a choice, by whether the numbers are one
pub if_same : {A : Type 0} (i j : ℕ) (a b : A) → i ≡ j → (if i == j then a else b) ≡ a
if_same i j a b e = ap (λ (t : Bool). if t then a else b) (eq-eqb i j e)

-- a choice by the equality of two numbers that differ
pub if_other : {A : Type 0} (i j : ℕ) (a b : A) → i ≢ j → (if i == j then a else b) ≡ b
if_other i j a b ne = ap (λ (t : Bool). if t then a else b) (ne_eqb i j ne)

module _ {P : Type 0} (entries : P → List Entry) (p : Program) (n : ℕ) (count : ℕ) (homes : ℕ → Home P) (views : List View) (h : List Entry) (k : Keeping entries p n count homes views h) where
  -- what each place keeps before the step
  abbrev V : ℕ → List Entry
  V = kept_at entries views homes

  -- what each place keeps, by what desks and parcels keep
  keeps_as : (views' : List View) (homes' : ℕ → Home P) (view : ℕ → List Entry) → IsMerged p view h
      → ((j : ℕ) → view (desk j) ≡ at_desk (get_elem? views' j)) → ((i : ℕ) → view (parcel i) ≡ at_home entries (homes' i)) → Keeping entries p n count homes' views' h
  keeps_as views' homes' view m d q = record {
    long = k.long;
    merged = same_places p view (kept_at entries views' homes') h (by_place view (kept_at entries views' homes') (λ j. d j ∙ sym (desk_keeps entries views' homes' j)) (λ i. q i ∙ sym (parcel_keeps entries views' homes' i))) m;
  }

  -- a desk more, which keeps nothing
  pub more_keeps : Keeping entries p n count homes (views ++ newcomer ∷ []) h
  more_keeps = keeps_as (views ++ newcomer ∷ []) homes V k.merged (λ j. desk_keeps entries views homes j ∙ longer views j) (λ i. parcel_keeps entries views homes i)
    where
      longer : (vs : List View) (j : ℕ) → at_desk (get_elem? vs j) ≡ at_desk (get_elem? (vs ++ newcomer ∷ []) j)
      longer [] zero = refl
      longer [] (suc j) = refl
      longer (v ∷ vs) zero = refl
      longer (v ∷ vs) (suc j) = longer vs j

  module _ (id : ℕ) (v w : View) (at : get_elem? views id ≡ some v) where
    -- the place of the desk that steps keeps what the desk keeps
    desk_at : V (desk id) ≡ v.kept
    desk_at = desk_keeps entries views homes id ∙ ap at_desk at

    -- the desk that steps has its new view
    set_at : get_elem? (set views id w) id ≡ some w
    set_at = set_here views id w (at_inside views id v at)

    -- the desk that steps keeps this, and the others what they did
    desks_as : (view : ℕ → List Entry) → view (desk id) ≡ w.kept → ((j : ℕ) → j ≢ id → view (desk j) ≡ V (desk j)) → (j : ℕ) → view (desk j) ≡ at_desk (get_elem? (set views id w) j)
    desks_as view mine others j = dite (ℕ_discrete j id)
        (λ e. ap (λ (z : ℕ). view (desk z)) e ∙ mine ∙ sym (ap at_desk (ap (get_elem? (set views id w)) e ∙ set_at)))
        (λ ne. others j ne ∙ desk_keeps entries views homes j ∙ sym (ap at_desk (set_else views id j w ne)))

    -- the parcel of one number keeps this, and the others what they did
    homes_as : (view : ℕ → List Entry) (i : ℕ) (y : Home P) → view (parcel i) ≡ at_home entries y → ((x : ℕ) → x ≢ i → view (parcel x) ≡ V (parcel x)) → (x : ℕ) → view (parcel x) ≡ at_home entries (put homes i y x)
    homes_as view i y here others x = dite (ℕ_discrete x i)
        (λ e. ap (λ (z : ℕ). view (parcel z)) e ∙ here ∙ sym (ap (at_home entries) (ap (put homes i y) e ∙ put_here homes i y)))
        (λ ne. others x ne ∙ parcel_keeps entries views homes x ∙ sym (ap (at_home entries) (put_else homes i y x ne)))

    -- nothing moves
    pub still_keeps : w.kept ≡ v.kept → Keeping entries p n count homes (set views id w) h
    still_keeps same = keeps_as (set views id w) homes V k.merged (desks_as V (desk_at ∙ sym same) (λ j ne. refl)) (λ i. parcel_keeps entries views homes i)

    -- a slot without a parcel goes out or comes home
    pub slot_keeps : (i : ℕ) (y : Home P) → w.kept ≡ v.kept → at_home entries (homes i) ≡ [] → at_home entries y ≡ [] → Keeping entries p n count (put homes i y) (set views id w) h
    slot_keeps i y same was now = keeps_as (set views id w) (put homes i y) V k.merged (desks_as V (desk_at ∙ sym same) (λ j ne. refl))
        (homes_as V i y (parcel_keeps entries views homes i ∙ was ∙ sym now) (λ x ne. refl))

    -- entries go with a parcel
    pub parcel_goes : (i : ℕ) (q : P) → at_home entries (homes i) ≡ [] → MayGo p v.kept (entries q) → w.kept ≡ left_by (entries q) v.kept → Keeping entries p n count (put homes i (some (Some q))) (set views id w) h
    parcel_goes i q was may left = let view : ℕ → List Entry = parted V (desk id) (parcel i) (is_among (entries q)) in keeps_as (set views id w) (put homes i (some (Some q))) view
        (parting_keeps_places p V h (desk id) (parcel i) (is_among (entries q)) k.merged (λ e. omega arith) (parcel_keeps entries views homes i ∙ was)
        (subst (IsTold p) (sym (ap (kept (is_among (entries q))) desk_at ∙ may.part)) may.goes)
        (subst (λ (es : List Entry). IsTold p (left_by (entries q) es)) (sym desk_at) may.stays))
        (desks_as view
        (if_other (desk id) (parcel i) (kept (is_among (entries q)) (V (desk id))) (if desk id == desk id then left_by (entries q) (V (desk id)) else V (desk id)) (λ e. omega arith)
        ∙ if_same (desk id) (desk id) (left_by (entries q) (V (desk id))) (V (desk id)) refl ∙ ap (left_by (entries q)) desk_at ∙ sym left)
        (λ j ne. if_other (desk j) (parcel i) (kept (is_among (entries q)) (V (desk id))) (if desk j == desk id then left_by (entries q) (V (desk id)) else V (desk j)) (λ e. omega arith)
        ∙ if_other (desk j) (desk id) (left_by (entries q) (V (desk id))) (V (desk j)) (λ e. ne (omega arith))))
        (homes_as view i (some (Some q))
        (if_same (parcel i) (parcel i) (kept (is_among (entries q)) (V (desk id))) (if parcel i == desk id then left_by (entries q) (V (desk id)) else V (parcel i)) refl ∙ ap (kept (is_among (entries q))) desk_at ∙ may.part)
        (λ x ne. if_other (parcel x) (parcel i) (kept (is_among (entries q)) (V (desk id))) (if parcel x == desk id then left_by (entries q) (V (desk id)) else V (parcel x)) (λ e. ne (omega arith))
        ∙ if_other (parcel x) (desk id) (left_by (entries q) (V (desk id))) (V (parcel x)) (λ e. omega arith)))

    -- entries come with a parcel
    pub parcel_comes : (i : ℕ) (q : P) → homes i ≡ some (Some q) → w.kept ≡ together v.kept (entries q) → Keeping entries p n count (put homes i none) (set views id w) h
    parcel_comes i q home both = let view : ℕ → List Entry = moved_into (parcel i) (desk id) V in keeps_as (set views id w) (put homes i none) view (moving_keeps_places p V h (parcel i) (desk id) (λ e. omega arith) k.merged)
        (desks_as view
        (if_same (desk id) (desk id) (together (V (desk id)) (V (parcel i))) (if desk id == parcel i then [] else V (desk id)) refl ∙ ap₂ together desk_at (parcel_keeps entries views homes i ∙ ap (at_home entries) home) ∙ sym both)
        (λ j ne. if_other (desk j) (desk id) (together (V (desk id)) (V (parcel i))) (if desk j == parcel i then [] else V (desk j)) (λ e. ne (omega arith)) ∙ if_other (desk j) (parcel i) [] (V (desk j)) (λ e. omega arith)))
        (homes_as view i none
        (if_other (parcel i) (desk id) (together (V (desk id)) (V (parcel i))) (if parcel i == parcel i then [] else V (parcel i)) (λ e. omega arith) ∙ if_same (parcel i) (parcel i) [] (V (parcel i)) refl)
        (λ x ne. if_other (parcel x) (desk id) (together (V (desk id)) (V (parcel i))) (if parcel x == parcel i then [] else V (parcel x)) (λ e. omega arith) ∙ if_other (parcel x) (parcel i) [] (V (parcel x)) (λ e. ne (omega arith))))

    -- a firing is drawn below the limit
    pub firing_keeps : (c : ℕ) (o : Object) (ms : List ℕ) (vs : List value.Value) → count < n → Fires p h c o ms vs → w.kept ≡ entry count count (Fired c o ms vs) ∷ v.kept
        → Keeping entries p n (count + 1) homes (set views id w) (entry count count (Fired c o ms vs) ∷ h)
    firing_keeps c o ms vs room fires new = let e : Entry = entry count count (Fired c o ms vs) in let view : ℕ → List Entry = grown V (desk id) (entry count count (Fired c o ms vs)) in let long : length h ≡ count = (let l = k.long in omega arith) in record {
      long = (let l = long in omega arith);
      merged = same_places p view (kept_at entries (set views id w) homes) (e ∷ h)
          (by_place view (kept_at entries (set views id w) homes)
          (λ j. desks_as view
          (if_same (desk id) (desk id) (e ∷ V (desk id)) (V (desk id)) refl ∙ ap (λ (es : List Entry). e ∷ es) desk_at ∙ sym new)
          (λ j ne. if_other (desk id) (desk j) (e ∷ V (desk j)) (V (desk j)) (λ q. ne (omega arith))) j ∙ sym (desk_keeps entries (set views id w) homes j))
          (λ i. if_other (desk id) (parcel i) (e ∷ V (parcel i)) (V (parcel i)) (λ q. omega arith) ∙ parcel_keeps entries views homes i ∙ sym (parcel_keeps entries (set views id w) homes i)))
          (subst (λ (x : ℕ). IsMerged p (grown V (desk id) (entry x x (Fired c o ms vs))) (entry x x (Fired c o ms vs) ∷ h)) long (merged_fire p V h (desk id) c o ms vs k.merged fires));
    }

    -- a desk takes over what another one keeps
    pub join_keeps : (other : ℕ) (u : View) → other ≢ id → get_elem? views other ≡ some u → w.kept ≡ together v.kept u.kept → Keeping entries p n count homes (set (set views id w) other gone) h
    join_keeps other u apart there both = let view : ℕ → List Entry = moved_into (desk other) (desk id) V in keeps_as (set (set views id w) other gone) homes view (moving_keeps_places p V h (desk other) (desk id) (λ e. apart (omega arith)) k.merged)
        (λ j. dite (ℕ_discrete j other)
        (λ e. subst (λ (z : ℕ). view (desk z) ≡ at_desk (get_elem? (set (set views id w) other gone) z)) (sym e)
        (if_other (desk other) (desk id) (together (V (desk id)) (V (desk other))) (if desk other == desk other then [] else V (desk other)) (λ q. apart (omega arith)) ∙ if_same (desk other) (desk other) [] (V (desk other)) refl
        ∙ sym (ap at_desk (set_here (set views id w) other gone (let a = at_inside views other u there in let l = length-set views id w in omega arith)))))
        (λ no_other. dite (ℕ_discrete j id)
        (λ e. subst (λ (z : ℕ). view (desk z) ≡ at_desk (get_elem? (set (set views id w) other gone) z)) (sym e)
        (if_same (desk id) (desk id) (together (V (desk id)) (V (desk other))) (if desk id == desk other then [] else V (desk id)) refl ∙ ap₂ together desk_at (desk_keeps entries views homes other ∙ ap at_desk there) ∙ sym both
        ∙ sym (ap at_desk (set_else (set views id w) other id gone (λ q. apart (sym q)) ∙ set_at))))
        (λ ne. if_other (desk j) (desk id) (together (V (desk id)) (V (desk other))) (if desk j == desk other then [] else V (desk j)) (λ q. ne (omega arith)) ∙ if_other (desk j) (desk other) [] (V (desk j)) (λ q. no_other (omega arith))
        ∙ desk_keeps entries views homes j ∙ sym (ap at_desk (set_else (set views id w) other j gone no_other ∙ set_else views id j w ne)))))
        (λ i. if_other (parcel i) (desk id) (together (V (desk id)) (V (desk other))) (if parcel i == desk other then [] else V (parcel i)) (λ q. omega arith) ∙ if_other (parcel i) (desk other) [] (V (parcel i)) (λ q. omega arith) ∙ parcel_keeps entries views homes i)

    -- Main begins where nothing was before
    pub begun_keeps : h ≡ [] → count ≡ 0 → 0 < n → w.kept ≡ entry count 0 Begun ∷ v.kept → Keeping entries p n (count + 1) homes (set views id w) (entry count 0 Begun ∷ h)
    begun_keeps nothing none_drawn any new = let e : Entry = entry count 0 Begun in let view : ℕ → List Entry = grown V (desk id) (entry count 0 Begun) in let long : length h ≡ count = (let l = k.long in omega arith) in record {
      long = (let l = long in omega arith);
      merged = same_places p view (kept_at entries (set views id w) homes) (e ∷ h)
          (by_place view (kept_at entries (set views id w) homes)
          (λ j. desks_as view
          (if_same (desk id) (desk id) (e ∷ V (desk id)) (V (desk id)) refl ∙ ap (λ (es : List Entry). e ∷ es) desk_at ∙ sym new)
          (λ j ne. if_other (desk id) (desk j) (e ∷ V (desk j)) (V (desk j)) (λ q. ne (omega arith))) j ∙ sym (desk_keeps entries (set views id w) homes j))
          (λ i. if_other (desk id) (parcel i) (e ∷ V (parcel i)) (V (parcel i)) (λ q. omega arith) ∙ parcel_keeps entries views homes i ∙ sym (parcel_keeps entries (set views id w) homes i)))
          (merged_more p V h (desk id) e k.merged record { numbered = sym long; comes = (nothing, refl) } (sym none_drawn));
    }
