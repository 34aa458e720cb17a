-- What is known of the bags of one object grows while a chord is looked for.
use Rattle.std.proofs.Common.{◌⊎◌, true, false, ◌==◌, ◌||◌, ◌≡◌, ◌≢◌, inl, inr, ℕ, ◌+◌, ◌<◌, ◌≤◌, List, [], ◌∷◌, ◌++◌, drop, length, append_assoc, append-nil, slice_index_or, slice_set, refl, sym, ap, ◌∙◌, subst, arith, Option, Some, None}
use mathlib.Core.Path.{Path}
use mathlib.Core.Logic.{dite}
use native.Mathlib.Decide.{ℕ_discrete}
use Rattle.std.proofs.lemmas.Bool.{eq-eqb, eqb-true}
use Rattle.std.proofs.lemmas.List.{get_or-set_same, get_or-set_other, length-set}
use Rattle.chord_base.specs.Messages.{has, AreDifferent}
use Rattle.chord_base.specs.declared.value.Object.{Object}
use Rattle.chord_base.proofs.Pending.{has_more}
use Rattle.chord_base.proofs.Waits.{either}
use Rattle.chord_rule.specs.declared.view.Look.{Look}
use Rattle.chord_rule.specs.declared.view.View.{View}
use Rattle.chord_rule.specs.declared.view.Way.{Way}
use Rattle.chord_rule.specs.Bags.{head_number}
use Rattle.chord_rule.specs.Made.{key}
use Rattle.chord_rule.specs.Ways.{HasWay, IsAloneDesk}
use Rattle.chord_bag.specs.declared.walk.Sought.{Sought}
use Rattle.chord_bag.specs.declared.walk.Sought.TheVariants.{Found, Bare, Busy}
use Rattle.chord_bag.specs.Reads.{AllAt}
use Rattle.chord_bag.specs.Seeking.{IsSought, IsTidy, KeepsHeads}
use Rattle.chord_bag.proofs.Turning.{still_alone}
use Rattle.chord_match.specs.declared.search.Own.{Own}
use Rattle.chord_match.specs.declared.search.Pick.{Pick}
use Rattle.chord_match.specs.declared.search.Pick.TheVariants as a_pick
use Rattle.chord_match.specs.declared.search.Step.{Step}
use Rattle.chord_match.specs.declared.search.Step.TheVariants as a_step
use Rattle.chord_match.specs.Seen.{bags_of, Grows, IsLeftTidy, MayAllBeClaimed, AreMatched}
use Rattle.chord_match.specs.Searching.{SaysOf, WasTold, WasToldIf, Searching, KeepsKnown, Moves, Learned, LearnsAt, LearnsOf, pick_of, IsStuckAt, Picked, PickedFirst, IsStuck, IsGathered, Gathered, TellsBare}
use Rattle.chord_match.proofs.Lists.{first_has, different_at, from_place}
use Rattle.chord_match.proofs.Growing.{grows_refl, grows_trans, sought_grows, answered_on, seen_on, duty_on, knows_on, ready_on, member_on, key_cancels, head_cancels, way_has, newest_tidy, still_left_tidy, found_ready, answered}

-- nothing is forgotten where nothing is done
keeps_refl : (known : List (Option Sought)) → KeepsKnown known known
keeps_refl known q s e = e

-- what an answer of another bag says stays true
says_on : (v u w : View) (k : ℕ) (s : Sought) → Grows u w → (AllAt k None u.duties → AllAt k None w.duties) → SaysOf v u k s → SaysOf v w k s
says_on v u w k (Found i next) g ends t = (seen_on v u w g i next t.0, knows_on v u w g i k t.1)
says_on v u w k Bare g ends t = ends t
says_on v u w k (Busy i) g ends t = t

-- what the newest answer says
says_new : (n : ℕ) (v u w : View) (k : ℕ) (s : Sought) → Grows v u → IsSought n k u w s → SaysOf v w k s
says_new n v u w k (Found i next) g f = found_ready n k u w i next f
says_new n v u w k Bare g f = f.walked
says_new n v u w k (Busy i) g f = λ a. f.alone (still_alone v u g.only a)

-- a method without a member stays so where more is known
pub stuck_kept : (own : Own) (js : List ℕ) (known known' : List (Option Sought)) (b : Option ℕ) → KeepsKnown known known' → IsStuck own js known b → IsStuck own js known' b
stuck_kept own js known known' None k t = (t.0, t.1, (t.2.0, k t.0 Bare t.2.1))
stuck_kept own js known known' (Some i) k t = (t.0, t.1, (t.2.0, k t.0 (Busy i) t.2.1))

-- where the first method has no member, one has none
stuck_here : (own : Own) (j : ℕ) (js : List ℕ) (known : List (Option Sought)) (b : Option ℕ) → IsStuckAt own j known b → IsStuck own (j ∷ js) known b
stuck_here own j js known b t = (j, rw (eq-eqb j j refl) refl, t)

-- what is known more is of the first of the methods
learns_first : (own : Own) (j : ℕ) (js : List ℕ) (known known' : List (Option Sought)) → LearnsAt own j known known' → LearnsOf own (j ∷ js) known known'
learns_first own j js known known' t q = elim (t q) [
  | inl e ↦ inl e
  | inr y ↦ inr (subst (λ (z : ℕ). has z (j ∷ js) ≡ true) (sym y.0) (first_has j js), y.1)
]

-- or of one of those behind it
learns_both : (own : Own) (j : ℕ) (js : List ℕ) (a b c : List (Option Sought)) → LearnsAt own j a b → LearnsOf own js b c → LearnsOf own (j ∷ js) a c
learns_both own j js a b c s t q = elim (t q) [
  | inl e ↦ elim (learns_first own j js a b s q) [
    | inl f ↦ inl (e ∙ f)
    | inr y ↦ inr y
  ]
  | inr y ↦ inr (has_more q j js y.0, y.1)
]

module _ (n : ℕ) where
  -- what was told of another bag still is
  told_on : (v u w : View) (k : ℕ) (s : Option Sought) → Grows u w → (AllAt k None u.duties → AllAt k None w.duties) → WasToldIf n v u k s → WasToldIf n v w k s
  told_on v u w k None g ends t = tt
  told_on v u w k (Some s) g ends t = record { answered = answered_on v u w g k s t.answered; says = says_on v u w k s g ends t.says; below = t.below }

  -- the newest answer was told
  told_new : (v u w : View) (k : ℕ) (s : Sought) → Grows v u → IsSought n k u w s → WasTold n v w k s
  told_new v u w k s g f = record { answered = answered n k v u w s g f; says = says_new n v u w k s g f; below = f.below }

  -- a bag of which something is known is not sought again
  pub learned_before : (u : View) (o : Object) (j : ℕ) (known : List (Option Sought)) (s : Sought) → slice_index_or known j None ≡ Some s → Learned n u u o j known known s
  learned_before u o j known s e = record {
    told = λ v own t. record {
      moves = record { stands = t; grows = grows_refl u; kept = keeps_refl known };
      tells = subst (λ (z : Option Sought). WasToldIf n v u (key o j) z) e (t.cached j);
      here = e;
    };
    others = λ q ne. refl;
  }

  -- what a seek answered is known from now on, and of the other bags what was known
  pub learned_now : (u w : View) (o : Object) (j : ℕ) (known : List (Option Sought)) (s : Sought) → slice_index_or known j None ≡ None → j < length known → j < 16 → IsSought n (key o j) u w s → (IsAloneDesk u → IsTidy (key o j) w) → KeepsHeads (key o j) u w
      → Learned n u w o j known (slice_set known j (Some s)) s
  learned_now u w o j known s e low few f tidied apart = record {
    told = λ v own t. record {
      moves = record {
        stands = record {
          sought = record { grows = grows_trans v u w t.sought.grows g; once = (new_bag v own t, t.sought.once); along = ap (λ (z : List Look). f.way.looks ++ z) t.sought.along; tidy = λ a x h. left_tidy v own t a x h };
          listed = λ k h. newest_or_before v own t k (either (k == f.way.bag)) h;
          read = t.read;
          below = t.below;
          next_below = t.next_below;
          duty = duty_on v u w g own.message (key o own.method) t.duty;
          cached = λ q. dite (ℕ_discrete q j)
              (λ same. subst (λ (z : Option Sought). WasToldIf n v w (key o q) z) (sym (ap (λ (z : ℕ). slice_index_or (slice_set known j (Some s)) z None) same ∙ here)) (subst (λ (z : ℕ). WasTold n v w (key o z) s) (sym same) (told_new v u w (key o j) s t.sought.grows f)))
              (λ ne. subst (λ (z : Option Sought). WasToldIf n v w (key o q) z) (sym (get_or-set_other known j q (Some s) None ne))
              (told_on v u w (key o q) (slice_index_or known q None) g (f.others (key o q) (λ z. ne (key_cancels o q j z))) (t.cached q)));
        };
        grows = g;
        kept = kept;
      };
      tells = told_new v u w (key o j) s t.sought.grows f;
      here = here;
    };
    others = λ q ne. get_or-set_other known j q (Some s) None ne;
  }
    where
      g : Grows u w
      g = sought_grows n (key o j) u w s f

      here : slice_index_or (slice_set known j (Some s)) j None ≡ Some s
      here = get_or-set_same known j (Some s) None low

      kept : KeepsKnown known (slice_set known j (Some s))
      kept q x is = dite (ℕ_discrete q j)
          (λ same. let z : Path (Option Sought) None (Some x) = sym e ∙ ap (λ (y : ℕ). slice_index_or known y None) (sym same) ∙ is in absurd (cc))
          (λ ne. get_or-set_other known j q (Some s) None ne ∙ is)

      -- the bag was not sought before, since nothing was known of it
      new_bag : (v : View) (own : Own) (t : Searching n v u o own known) → has f.way.bag (bags_of t.sought.grows.ways) ≡ false
      new_bag v own t = elim (either (has f.way.bag (bags_of t.sought.grows.ways))) [
        | inl y ↦ never v own t (t.listed f.way.bag y)
        | inr z ↦ z
      ]
        where
          never : (v : View) (own : Own) (t : Searching n v u o own known) → (q : ℕ) × (x : Sought) × (f.way.bag ≡ key o q) × (slice_index_or known q None ≡ Some x) × (q < 16) → has f.way.bag (bags_of t.sought.grows.ways) ≡ false
          never v own t r = let same = key_cancels o j r.0 (sym f.bag ∙ r.2) in let z : Path (Option Sought) None (Some r.1) = sym e ∙ ap (λ (q : ℕ). slice_index_or known q None) same ∙ r.3 in absurd (cc)

      -- a bag that was sought is this one, or was sought before
      newest_or_before : (v : View) (own : Own) (t : Searching n v u o own known) (k : ℕ) → ((k == f.way.bag) ≡ true) ⊎ ((k == f.way.bag) ≡ false) → ((k == f.way.bag) || has k (bags_of t.sought.grows.ways)) ≡ true
          → (q : ℕ) × (x : Sought) × (k ≡ key o q) × (slice_index_or (slice_set known j (Some s)) q None ≡ Some x) × (q < 16)
      newest_or_before v own t k (inl y) h = (j, s, eqb-true k f.way.bag y ∙ f.bag, here, few)
      newest_or_before v own t k (inr z) h = let r = t.listed k (rw z at h) in (r.0, r.1, r.2, kept r.0 r.1 r.3, r.4)

      -- a bag of which something was known has another head
      other_head : (k : ℕ) → (q : ℕ) × (x : Sought) × (k ≡ key o q) × (slice_index_or known q None ≡ Some x) × (q < 16) → head_number k ≡ head_number (key o j) → ⊥
      other_head k r z =
          let same : r.0 ≡ j = head_cancels o r.0 j r.4 few (sym (ap head_number r.2) ∙ z) in
          let y : Path (Option Sought) None (Some r.1) = sym e ∙ ap (λ (q : ℕ). slice_index_or known q None) (sym same) ∙ r.3 in
          absurd (cc)

      -- this bag is left tidy, and those that were stay so
      left_tidy : (v : View) (own : Own) (t : Searching n v u o own known) → IsAloneDesk v → (x : Way) → HasWay x (f.way ∷ t.sought.grows.ways) → IsLeftTidy w x
      left_tidy v own t a x (inl y) = subst (IsLeftTidy w) (sym y) (newest_tidy n (key o j) u w s f (tidied (still_alone v u t.sought.grows.only a)))
      left_tidy v own t a x (inr h) = still_left_tidy (key o j) u w x apart (other_head x.bag (t.listed x.bag (way_has x t.sought.grows.ways h))) (t.sought.tidy a x h)

  -- the member for its own method is the own message
  pub picked_own : (v u : View) (o : Object) (own : Own) (j : ℕ) (known : List (Option Sought)) → j ≡ own.method → Searching n v u o own known → Picked n v u u o own j known known (a_pick.Take own.message own.next)
  picked_own v u o own j known e t = record {
    moves = record { stands = t; grows = grows_refl u; kept = keeps_refl known };
    picked = (inl (e, refl, refl), record { seen = seen_on v v u t.sought.grows own.message own.next t.read; known = inr (t.duty.0, t.duty.1, t.duty.2, t.duty.3 ∙ ap (key o) (sym e)); below = t.below; next_below = t.next_below });
    learns = λ q. inl refl;
  }

  module _ (v u w : View) (o : Object) (own : Own) (j : ℕ) (known known' : List (Option Sought)) where
    -- what is known more is of the bag that was asked for, which is another one than the own
    learns_at : (s : Sought) → j ≢ own.method → Learned n u w o j known known' s → LearnsAt own j known known'
    learns_at s ne a q = dite (ℕ_discrete q j) (λ same. inr (same, (λ z. ne (sym same ∙ z)))) (λ no. inl (a.others q no))

    -- the member is what the walk found, or there is none
    pub picked_sought : (s : Sought) → j ≢ own.method → Learned n u w o j known known' s → Searching n v u o own known → Picked n v u w o own j known known' (pick_of s)
    picked_sought (Found i next) ne a t = let r = a.told v own t in record { moves = r.moves; picked = (inr (ne, r.tells.answered), record { seen = r.tells.says.0; known = r.tells.says.1; below = r.tells.below.0; next_below = r.tells.below.1 }); learns = learns_at (Found i next) ne a }
    picked_sought Bare ne a t = let r = a.told v own t in record { moves = r.moves; picked = (ne, r.here); learns = learns_at Bare ne a }
    picked_sought (Busy i) ne a t = let r = a.told v own t in record { moves = r.moves; picked = (ne, r.here); learns = learns_at (Busy i) ne a }

  -- the own message is picked before its bag is sought
  pub first_own : (v u : View) (o : Object) (own : Own) (j : ℕ) (known : List (Option Sought)) → j ≡ own.method → Searching n v u o own known → PickedFirst n v u u o own j known (a_pick.Take own.message own.next)
  first_own v u o own j known e t = record { after = known; long = refl; others = λ q ne. refl; bare = λ q h. inl h; picked = picked_own v u o own j known e t }

  module _ (v u w : View) (o : Object) (own : Own) (j : ℕ) (known : List (Option Sought)) (e : slice_index_or known j None ≡ None) (low : j < length known) (few : j < 16) (ne : j ≢ own.method) (t : Searching n v u o own known) where
    -- the bag is sought for the first time, and no other
    pub first_sought : (s : Sought) → IsSought n (key o j) u w s → (IsAloneDesk u → IsTidy (key o j) w) → KeepsHeads (key o j) u w → PickedFirst n v u w o own j known (pick_of s)
    first_sought s f tidied apart = record {
      after = slice_set known j (Some s);
      long = length-set known j (Some s);
      others = λ q no. get_or-set_other known j q (Some s) None no;
      bare = λ q h. dite (ℕ_discrete q j)
          (λ same. inr (let z : Path (Option Sought) (Some s) (Some Bare) = sym (ap (λ (y : ℕ). slice_index_or (slice_set known j (Some s)) y None) same ∙ get_or-set_same known j (Some s) None low) ∙ h in let y : s ≡ Bare = cc in ap pick_of y))
          (λ no. inl (sym (get_or-set_other known j q (Some s) None no) ∙ h));
      picked = picked_sought v u w o own j known (slice_set known j (Some s)) s ne (learned_now u w o j known s e low few f tidied apart) t;
    }

  -- a search that went on twice went on
  moves_trans : (v u x w : View) (o : Object) (own : Own) (a b c : List (Option Sought)) → Moves n v u x o own a b → Moves n v x w o own b c → Moves n v u w o own a c
  moves_trans v u x w o own a b c first second = record { stands = second.stands; grows = grows_trans u x w first.grows second.grows; kept = λ q s e. second.kept q s (first.kept q s e) }

  -- no method needs no member
  pub gathered_none : (v u : View) (o : Object) (own : Own) (known : List (Option Sought)) (ms : List ℕ) (xs : List (Option ℕ)) → Searching n v u o own known → Gathered n v u u o own [] known known ms ms xs xs a_step.All
  gathered_none v u o own known ms xs t = record { moves = record { stands = t; grows = grows_refl u; kept = keeps_refl known }; gathered = ([], [], sym (append-nil ms), sym (append-nil xs), tt, tt); learns = λ q. inl refl }

  -- the first method has no member
  pub gathered_stuck : (v u w : View) (o : Object) (own : Own) (j : ℕ) (js : List ℕ) (known known' : List (Option Sought)) (ms : List ℕ) (xs : List (Option ℕ)) (b : Option ℕ) → Picked n v u w o own j known known' (a_pick.Stuck b)
      → Gathered n v u w o own (j ∷ js) known known' ms ms xs xs (a_step.Stuck b)
  gathered_stuck v u w o own j js known known' ms xs b t = record { moves = t.moves; gathered = stuck_here own j js known' b t.picked; learns = learns_first own j js known known' t.learns }

  -- the first method has a member, and the others are gone through
  pub gathered_more : (v u x w : View) (o : Object) (own : Own) (j : ℕ) (js : List ℕ) (a b c : List (Option Sought)) (ms ms' : List ℕ) (xs xs' : List (Option ℕ)) (i : ℕ) (next : Option ℕ) (s : Step)
      → Picked n v u x o own j a b (a_pick.Take i next) → Gathered n v x w o own js b c (ms ++ i ∷ []) ms' (xs ++ next ∷ []) xs' s → Gathered n v u w o own (j ∷ js) a c ms ms' xs xs' s
  gathered_more v u x w o own j js a b c ms ms' xs xs' i next s p t = record { moves = moves_trans v u x w o own a b c p.moves t.moves; gathered = on s t.gathered; learns = learns_both own j js a b c p.learns t.learns }
    where
      on : (s : Step) → IsGathered n v w o own js c (ms ++ i ∷ []) ms' (xs ++ next ∷ []) xs' s → IsGathered n v w o own (j ∷ js) c ms ms' xs xs' s
      on a_step.All g = (
        i ∷ g.0,
        next ∷ g.1,
        g.2 ∙ append_assoc ms (i ∷ []) g.0,
        g.3 ∙ append_assoc xs (next ∷ []) g.1,
        (member_on v x w t.moves.grows o own.message own.method own.next j i next p.picked.0, g.4),
        (ready_on v x w t.moves.grows n o j i next p.picked.1, g.5),
      )
      on (a_step.Stuck q) g = (g.0, has_more g.0 j js g.1, g.2)

  -- the members of a chord are those that were gathered, where there were none before
  pub all_gathered : (v u w : View) (o : Object) (own : Own) (js : List ℕ) (a b : List (Option Sought)) (ms ms' : List ℕ) (xs xs' : List (Option ℕ)) → ms ≡ [] → xs ≡ [] → Gathered n v u w o own js a b ms ms' xs xs' a_step.All
      → AreMatched v w o own.message own.method own.next js ms' xs' × MayAllBeClaimed n w o js ms' xs'
  all_gathered v u w o own js a b ms ms' xs xs' e f g =
      let t = g.gathered in let x : ms' ≡ t.0 = t.2 ∙ ap (λ (z : List ℕ). z ++ t.0) e in let y : xs' ≡ t.1 = t.3 ∙ ap (λ (z : List (Option ℕ)). z ++ t.1) f in
      (subst (λ (z : List ℕ × List (Option ℕ)). AreMatched v w o own.message own.method own.next js z.0 z.1) (λ i. (sym x i, sym y i)) t.4, subst (λ (z : List ℕ × List (Option ℕ)). MayAllBeClaimed n w o js z.0 z.1) (λ i. (sym x i, sym y i)) t.5)

  -- what is gathered from here for the methods that are left is gathered for all
  pub record IsPartGathered (v u x : View) (o : Object) (own : Own) (js rest : List ℕ) (a b : List (Option Sought)) (ms ms' : List ℕ) (xs xs' : List (Option ℕ)) : Type 0 where
    pub stands : Searching n v x o own b
    pub joins : (w : View) (after : List (Option Sought)) (is : List ℕ) (nexts : List (Option ℕ)) (s : Step) → Gathered n v x w o own rest b after ms' is xs' nexts s → Gathered n v u w o own js a after ms is xs nexts s

  -- so before the first method
  pub part_first : (v u : View) (o : Object) (own : Own) (js : List ℕ) (a : List (Option Sought)) (ms : List ℕ) (xs : List (Option ℕ)) → Searching n v u o own a → IsPartGathered v u u o own js js a a ms ms xs xs
  part_first v u o own js a ms xs t = record { stands = t; joins = λ w after is nexts s g. g }

  module _ (v u x y : View) (o : Object) (own : Own) (js : List ℕ) (j : ℕ) (rest rest' : List ℕ) (e : rest ≡ j ∷ rest') (a b c : List (Option Sought)) (ms ms' : List ℕ) (xs xs' : List (Option ℕ)) (t : IsPartGathered v u x o own js rest a b ms ms' xs xs') where
    -- and where one method more has its member
    pub part_more : (i : ℕ) (next : Option ℕ) → Picked n v x y o own j b c (a_pick.Take i next) → IsPartGathered v u y o own js rest' a c ms (ms' ++ i ∷ []) xs (xs' ++ next ∷ [])
    part_more i next p = record {
      stands = p.moves.stands;
      joins = λ w after is nexts s g. t.joins w after is nexts s (subst (λ (z : List ℕ). Gathered n v x w o own z b after ms' is xs' nexts s) (sym e) (gathered_more v x y w o own j rest' b c after ms' is xs' nexts i next s p g));
    }

    -- where one has none, no more are gathered
    pub part_stuck : (q : Option ℕ) → Picked n v x y o own j b c (a_pick.Stuck q) → Gathered n v u y o own js a c ms ms' xs xs' (a_step.Stuck q)
    part_stuck q p = t.joins y c ms' xs' (a_step.Stuck q) (subst (λ (z : List ℕ). Gathered n v x y o own z b c ms' ms' xs' xs' (a_step.Stuck q)) (sym e) (gathered_stuck v x y o own j rest' b c ms' xs' q p))

  -- where no method is left, all are gathered
  pub part_all : (v u x : View) (o : Object) (own : Own) (js rest : List ℕ) (a b : List (Option Sought)) (ms ms' : List ℕ) (xs xs' : List (Option ℕ)) → rest ≡ [] → IsPartGathered v u x o own js rest a b ms ms' xs xs' → Gathered n v u x o own js a b ms ms' xs xs' a_step.All
  part_all v u x o own js rest a b ms ms' xs xs' e t = t.joins x b ms' xs' a_step.All (subst (λ (z : List ℕ). Gathered n v x x o own z b b ms' ms' xs' xs' a_step.All) (sym e) (gathered_none v x o own b ms' xs' t.stands))

  -- while a chord is gathered whose bags were not sought: those of the methods that are left still were not, and none is known to be bare
  pub record IsFirstGathered (v u x : View) (o : Object) (own : Own) (js : List ℕ) (k : ℕ) (a : List (Option Sought)) (ms ms' : List ℕ) (xs xs' : List (Option ℕ)) : Type 0 where
    pub known : List (Option Sought)
    pub long : length known ≡ 16
    pub left : (q : ℕ) → k ≤ q → q < length js → slice_index_or known (slice_index_or js q 0) None ≡ None
    pub none : (q : ℕ) → slice_index_or known q None ≢ Some Bare
    pub part : IsPartGathered v u x o own js (drop k js) a known ms ms' xs xs'

  module _ (v u x y : View) (o : Object) (own : Own) (js : List ℕ) (k : ℕ) (low : k < length js) (a : List (Option Sought)) (ms ms' : List ℕ) (xs xs' : List (Option ℕ)) (t : IsFirstGathered v u x o own js k a ms ms' xs xs') where
    -- and where one method more has its member
    pub first_more : AreDifferent js → (i : ℕ) (next : Option ℕ) → PickedFirst n v x y o own (slice_index_or js k 0) t.known (a_pick.Take i next) → IsFirstGathered v u y o own js (k + 1) a ms (ms' ++ i ∷ []) xs (xs' ++ next ∷ [])
    first_more different i next p = record {
      known = p.after;
      long = p.long ∙ t.long;
      left = λ q from l. p.others (slice_index_or js q 0) (λ e. different_at js different k q (omega (arith, from)) l (sym e)) ∙ t.left q (omega (arith, from)) l;
      none = λ q e. elim (p.bare q e) [
        | inl z ↦ t.none q z
        | inr z ↦ absurd (let y : Path Pick (a_pick.Take i next) (a_pick.Stuck None) = z in cc)
      ];
      part = part_more v u x y o own js (slice_index_or js k 0) (drop k js) (drop (k + 1) js) (from_place js k low) a t.known p.after ms ms' xs xs' t.part i next p.picked;
    }

    -- where one has none
    pub first_stuck : (q : Option ℕ) → (p : PickedFirst n v x y o own (slice_index_or js k 0) t.known (a_pick.Stuck q)) → Gathered n v u y o own js a p.after ms ms' xs xs' (a_step.Stuck q)
    first_stuck q p = part_stuck v u x y o own js (slice_index_or js k 0) (drop k js) (drop (k + 1) js) (from_place js k low) a t.known p.after ms ms' xs xs' t.part q p.picked

    -- only by that one a bag is known to be bare
    pub first_bare : (q : Option ℕ) → (p : PickedFirst n v x y o own (slice_index_or js k 0) t.known (a_pick.Stuck q)) → TellsBare p.after (a_step.Stuck q)
    first_bare q p r e = elim (p.bare r e) [
      | inl z ↦ absurd (t.none r z)
      | inr z ↦ let y : q ≡ None = cc in ap (λ (b : Option ℕ). a_step.Stuck b) y
    ]
