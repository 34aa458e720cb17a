-- The kinds of step that move more than one number: the draw of a firing, a split and a join; and a draw, by what it says.
use Rattle.std.proofs.Common.{◌≡◌, ◌≢◌, ◌⊎◌, inl, inr, ⊎_elim, ℕ, ◌==◌, Bool, true, false, if◌then◌else◌, List, [], ◌∷◌, ◌++◌, set, refl, sym, ap, ◌∙◌, subst, Option, Some, None, eq-eqb, ne_eqb}
use mathlib.Core.Path.{Path}
use mathlib.Core.Logic.{dite}
use mathlib.Core.Option.{some, some-injective}
use native.Mathlib.Decide.{ℕ_discrete}
use lib.ListN.{get_elem?}
use Rattle.atomic_table.proofs.Lists.{at_set, at_longer, set_here, set_else}
use Rattle.chord_base.specs.declared.value.Object.{Object}
use Rattle.chord_base.specs.declared.value.Value as value
use Rattle.chord_base.specs.Messages.{has, AreDifferent}
use Rattle.chord_base.proofs.Waits.{either}
use Rattle.chord_base.specs.declared.event.What.{What}
use Rattle.chord_base.specs.declared.event.What.TheVariants.{Begun, Made, Sent, Called, Printed, Fired, Ended}
use Rattle.chord_rule.specs.declared.view.Claim.{Claim}
use Rattle.chord_rule.specs.declared.view.View.{View}
use Rattle.chord_rule.specs.Kinds.{newcomer, gone, firing_drawn, united, drawn_stage, fired_claim, fired_stage, heir, drew}
use Rattle.chord_rule.specs.Claims.{HasThe, HasClaimOn, claimed_numbers}
use Rattle.chord_rule.specs.Stages.{Hold, Fresh, Placing, Flying, Claiming, Emptying, Unposted, Posting, Starting, Stage, Vacant, InHand, Armed, Spent, Posted, Played, IsFiringEntry}
use Rattle.chord_rule.specs.Hands.{hand, Holds, IsUnlinked, KeepsNumber, Hands}
use Rattle.chord_rule.proofs.Puts.{put, put_here, put_else, at_inside, at_end}
use Rattle.chord_rule.proofs.Lists.{has_append, append_left, append_right, with_firing, has_fired, fired_has, fired_number, fired_numbers, together_left, together_right}
use Rattle.chord_rule.proofs.HandSteps.{same_hand, hands_after, hands_still, hands_fresh}

-- a put is a choice
pub put_if : {A : Type 0} (f : ℕ → A) (n : ℕ) (a : A) (i : ℕ) → put f n a i ≡ (if i == n then a else f i)
put_if f n a i = dite (ℕ_discrete i n)
    (λ e. ap (put f n a) e ∙ put_here f n a ∙ sym (ap (λ (b : Bool). if b then a else f i) (eq-eqb i n e)))
    (λ ne. put_else f n a i ne ∙ sym (ap (λ (b : Bool). if b then a else f i) (ne_eqb i n ne)))

-- a new desk has nothing in hand
pub newcomer_none : (i : ℕ) (x : Hold) → Holds (hand newcomer) i x → ⊥
newcomer_none i Fresh h = h
newcomer_none i Placing h = (let z : Path (Option ℕ) None (Some i) = h in cc)
newcomer_none i (Flying b z) h = (let y : Path (Option ℕ) None (Some i) = h.0 in cc)
newcomer_none i (Claiming c) h = h.0
newcomer_none i Emptying h = (let z : Path (Option ℕ) None (Some i) = h in cc)
newcomer_none i Unposted h = h
newcomer_none i Posting h = (let z : Path (Option ℕ) None (Some i) = h in cc)
newcomer_none i Starting h = (let z : Path (Option ℕ) None (Some i) = h in cc)

module _ (views : List View) (stage : ℕ → Stage) (law : Hands views stage) where
  module _ (id : ℕ) (v : View) (at : get_elem? views id ≡ some v) where
    -- an entry is drawn that is no firing
    pub hands_draw : (n b : ℕ) (what : What) → ¬ IsFiringEntry (Some what) → stage n ≡ Vacant → Hands (set views id (drew v n b what)) (drawn_stage id n what stage)
    hands_draw n b (Sent o j vs) plain vacant = subst (λ (s : ℕ → Stage). Hands (set views id (drew v n b (Sent o j vs))) s) (λ q i. put_if stage n (InHand id Fresh) i q)
        (hands_fresh views stage law id v at n (drew v n b (Sent o j vs)) vacant refl (record { number = n; body = b; what = Sent o j vs }, inl refl, refl) (λ k r. (r.0, inr r.1, r.2)))
    hands_draw n b (Called o j vs) plain vacant = subst (λ (s : ℕ → Stage). Hands (set views id (drew v n b (Called o j vs))) s) (λ q i. put_if stage n (InHand id Fresh) i q)
        (hands_fresh views stage law id v at n (drew v n b (Called o j vs)) vacant refl (record { number = n; body = b; what = Called o j vs }, inl refl, refl) (λ k r. (r.0, inr r.1, r.2)))
    hands_draw n b Begun plain vacant = hands_still views stage law id v at (drew v n b Begun) refl (λ k r. (r.0, inr r.1, r.2))
    hands_draw n b (Made c) plain vacant = hands_still views stage law id v at (drew v n b (Made c)) refl (λ k r. (r.0, inr r.1, r.2))
    hands_draw n b (Printed t) plain vacant = hands_still views stage law id v at (drew v n b (Printed t)) refl (λ k r. (r.0, inr r.1, r.2))
    hands_draw n b (Ended x) plain vacant = hands_still views stage law id v at (drew v n b (Ended x)) refl (λ k r. (r.0, inr r.1, r.2))
    hands_draw n b (Fired k o ms vs) plain vacant = absurd (plain tt)

    module _ (f : ℕ) (vacant : stage f ≡ Vacant) (ms : List ℕ) (members : (i : ℕ) → has i ms ≡ true → HasClaimOn i v.claims) where
      -- the number of the firing
      fired_new : (k : ℕ) → k ≡ f → fired_stage id f ms stage k ≡ InHand id Unposted
      fired_new k q = rw (eq-eqb k f q) refl

      -- a member
      fired_member : (k : ℕ) → k ≢ f → has k ms ≡ true → fired_stage id f ms stage k ≡ fired_claim f (stage k)
      fired_member k ne y = rw (ne_eqb k f ne, y) refl

      -- another number
      fired_other : (k : ℕ) → k ≢ f → has k ms ≡ false → fired_stage id f ms stage k ≡ stage k
      fired_other k ne o = rw (ne_eqb k f ne, o) refl

      -- what was in hand is not the firing
      drawn_apart : (k j : ℕ) (x : Hold) → stage k ≡ InHand j x → k ≢ f
      drawn_apart k j x e q = let z : Vacant ≡ InHand j x = sym vacant ∙ sym (ap stage q) ∙ e in absurd (cc)

      -- a member is claimed by the desk
      member_stage : (k : ℕ) → has k ms ≡ true → (c : Claim) × HasThe c v.claims × (c.number ≡ k) × (stage k ≡ InHand id (Claiming c))
      member_stage k y = let r = members k y in (r.0, r.1, r.2, law.holds id v at k (Claiming r.0) (r.1, r.2))

      -- what is in hand for something else than a claim stays
      fired_stays : (k : ℕ) (x : Hold) → stage k ≡ InHand id x → fired_claim f (InHand id x) ≡ InHand id x → fired_stage id f ms stage k ≡ InHand id x
      fired_stays k x e same = elim (either (has k ms)) [
        | inl y ↦ fired_member k (drawn_apart k id x e) y ∙ ap (fired_claim f) e ∙ same
        | inr o ↦ fired_other k (drawn_apart k id x e) o ∙ e
      ]

      -- a claim on a member gets the firing
      with_yes : (c : Claim) → has c.number ms ≡ true → with_firing f ms c ≡ record c { firing = Some f }
      with_yes c y = rw y refl

      -- a claim on no member stays
      with_no : (c : Claim) → has c.number ms ≡ false → with_firing f ms c ≡ c
      with_no c o = rw o refl

      module _ (o : Object) (chord : ℕ) (vs : List value.Value) where
        -- the view of the desk that has drawn the firing
        abbrev w : View
        w = firing_drawn v f chord o ms vs

        -- what the desk has in hand after the draw stands so
        mine : (k : ℕ) (x : Hold) → Holds (hand w) k x → fired_stage id f ms stage k ≡ InHand id x
        mine k Fresh h = fired_stays k Fresh (law.holds id v at k Fresh h) refl
        mine k Placing h = fired_stays k Placing (law.holds id v at k Placing h) refl
        mine k (Flying b z) h = fired_stays k (Flying b z) (law.holds id v at k (Flying b z) h) refl
        mine k Emptying h = fired_stays k Emptying (law.holds id v at k Emptying h) refl
        mine k Unposted h = ⊎_elim (λ q. fired_new k q) (λ u. fired_stays k Unposted (law.holds id v at k Unposted u) refl) h
        mine k Posting h = fired_stays k Posting (law.holds id v at k Posting h) refl
        mine k Starting h = fired_stays k Starting (law.holds id v at k Starting h) refl
        mine k (Claiming c) h =
            let r = has_fired c f ms v.claims h.0 in
            let same : r.0.number ≡ k = sym (fired_number f ms r.0) ∙ sym (ap (λ (y : Claim). y.number) r.2) ∙ h.1 in
            let e = law.holds id v at k (Claiming r.0) (r.1, same) in
            elim (either (has k ms)) [
              | inl y ↦ fired_member k (drawn_apart k id (Claiming r.0) e) y ∙ ap (fired_claim f) e ∙ ap (λ (y : Claim). InHand id (Claiming y)) (sym (with_yes r.0 (ap (λ (z : ℕ). has z ms) same ∙ y)) ∙ sym r.2)
              | inr n ↦ fired_other k (drawn_apart k id (Claiming r.0) e) n ∙ e ∙ ap (λ (y : Claim). InHand id (Claiming y)) (sym (with_no r.0 (ap (λ (z : ℕ). has z ms) same ∙ n)) ∙ sym r.2)
            ]

        -- what the desk had in hand, where it is no member
        still : (k : ℕ) (x : Hold) → has k ms ≡ false → Holds (hand v) k x → Holds (hand w) k x
        still k Fresh n h = h
        still k Placing n h = h
        still k (Flying b z) n h = h
        still k Emptying n h = h
        still k Unposted n h = inr h
        still k Posting n h = h
        still k Starting n h = h
        still k (Claiming c) n h = (subst (λ (y : Claim). HasThe y w.claims) (with_no c (ap (λ (z : ℕ). has z ms) h.1 ∙ n)) (fired_has c f ms v.claims h.0), h.1)

        -- a member, with its firing
        claimed_still : (k : ℕ) (c : Claim) (x : Hold) → has k ms ≡ true → HasThe c v.claims → c.number ≡ k → InHand id (Claiming (record c { firing = Some f })) ≡ InHand id x → Holds (hand w) k x
        claimed_still k c x y h q e = subst (Holds (hand w) k) (same_hand id id (Claiming (record c { firing = Some f })) x e).1
            (subst (λ (z : Claim). HasThe z w.claims) (with_yes c (ap (λ (z : ℕ). has z ms) q ∙ y)) (fired_has c f ms v.claims h), q)

        -- a firing is drawn with claims on its members
        pub hands_draw_firing : Hands (set views id w) (fired_stage id f ms stage)
        hands_draw_firing = hands_after views stage law id v at w (fired_stage id f ms stage) mine
            (λ k x e. dite (ℕ_discrete k f)
            (λ q. subst (Holds (hand w) k) (same_hand id id Unposted x (sym (fired_new k q) ∙ e)).1 (inl q))
            (λ ne. elim (either (has k ms)) [
              | inl y ↦ (let r = member_stage k y in claimed_still k r.0 x y r.1 r.2 (ap (fired_claim f) (sym r.3) ∙ sym (fired_member k ne y) ∙ e))
              | inr n ↦ (let r = law.held k id x (sym (fired_other k ne n) ∙ e) in still k x n (subst (λ (u : View). Holds (hand u) k x) (some-injective r.0 v (sym r.1 ∙ at)) r.2))
            ]))
            (λ k j x ne e. elim (either (has k ms)) [
              | inl y ↦ (let r = member_stage k y in absurd (ne (sym (same_hand id j (Claiming r.0) x (sym r.3 ∙ e)).0)))
              | inr n ↦ fired_other k (drawn_apart k j x e) n ∙ e
            ])
            (λ k j x ne e. dite (ℕ_discrete k f)
            (λ q. absurd (ne (sym (same_hand id j Unposted x (sym (fired_new k q) ∙ e)).0)))
            (λ no. elim (either (has k ms)) [
              | inl y ↦ (let r = member_stage k y in absurd (ne (sym (same_hand id j (Claiming (record r.0 { firing = Some f })) x (ap (fired_claim f) (sym r.3) ∙ sym (fired_member k no y) ∙ e)).0)))
              | inr n ↦ sym (fired_other k no n) ∙ e
            ]))
            (λ k u. let r = law.kept id v at k u in (r.0, inr r.1, r.2))
            (subst AreDifferent (sym (fired_numbers f ms v.claims)) (law.once id v at))

  -- a desk more, which has nothing
  pub hands_more : Hands (views ++ newcomer ∷ []) stage
  hands_more = record {
    holds = λ j u e i x h. ⊎_elim (λ a. law.holds j u a i x h) (λ t. absurd (newcomer_none i x (subst (λ (y : View). Holds (hand y) i x) (sym t.1) h))) (at_end views newcomer u j e);
    held = λ i j x e. let r = law.held i j x e in (r.0, at_longer views (newcomer ∷ []) j r.0 r.1, r.2);
    kept = λ j u e i k. ⊎_elim (λ a. law.kept j u a i k)
        (λ t. absurd (⊎_elim (λ h. newcomer_none i Fresh h) (λ h. newcomer_none i Placing h) (subst (λ (y : View). IsUnlinked (hand y) i) (sym t.1) k))) (at_end views newcomer u j e);
    once = λ j u e. ⊎_elim (λ a. law.once j u a) (λ t. subst (λ (y : View). AreDifferent (claimed_numbers y.claims)) t.1 tt) (at_end views newcomer u j e);
  }

  module _ (id other : ℕ) (v w : View) (at : get_elem? views id ≡ some v) (apart : other ≢ id) (there : get_elem? views other ≡ some w)
      (placing : w.placing ≡ None) (flight : w.flight ≡ None) (claims : w.claims ≡ []) (emptying : w.emptying ≡ None) (posting : w.posting ≡ None) (starting : w.starting ≡ None) where
    -- the view of the desk that has taken over what the other one has
    abbrev both : View
    both = united v w

    -- what the other desk had, the first one has
    from_other : (i : ℕ) (x : Hold) → Holds (hand w) i x → Holds (hand both) i x
    from_other i Fresh h = append_right i v.fresh w.fresh h
    from_other i Placing h = absurd (let z : Path (Option ℕ) None (Some i) = sym placing ∙ h in cc)
    from_other i (Flying b z) h = absurd (let y : Path (Option ℕ) None (Some i) = sym flight ∙ h.0 in cc)
    from_other i (Claiming c) h = absurd (subst (HasThe c) claims h.0)
    from_other i Emptying h = absurd (let z : Path (Option ℕ) None (Some i) = sym emptying ∙ h in cc)
    from_other i Unposted h = append_right i v.unposted w.unposted h
    from_other i Posting h = absurd (let z : Path (Option ℕ) None (Some i) = sym posting ∙ h in cc)
    from_other i Starting h = absurd (let z : Path (Option ℕ) None (Some i) = sym starting ∙ h in cc)

    -- what the first desk had in hand, it still has
    from_first : (i : ℕ) (x : Hold) → Holds (hand v) i x → Holds (hand both) i x
    from_first i Fresh h = append_left i v.fresh w.fresh h
    from_first i Placing h = h
    from_first i (Flying b z) h = h
    from_first i (Claiming c) h = h
    from_first i Emptying h = h
    from_first i Unposted h = append_left i v.unposted w.unposted h
    from_first i Posting h = h
    from_first i Starting h = h

    -- what the desk has in hand after the join, one of the two had
    from_either : (i : ℕ) (x : Hold) → Holds (hand both) i x → Holds (hand v) i x ⊎ Holds (hand w) i x
    from_either i Fresh h = has_append i v.fresh w.fresh h
    from_either i Placing h = inl h
    from_either i (Flying b z) h = inl h
    from_either i (Claiming c) h = inl h
    from_either i Emptying h = inl h
    from_either i Unposted h = has_append i v.unposted w.unposted h
    from_either i Posting h = inl h
    from_either i Starting h = inl h

    -- what another desk than the joined one has in hand stands as before
    heir_of : (j : ℕ) (x : Hold) → j ≢ other → heir id other (InHand j x) ≡ InHand j x
    heir_of j x ne = ap (λ (b : Bool). InHand (if b then id else j) x) (ne_eqb j other ne)

    -- what the other desk had in hand stands as the first one's
    heir_here : (x : Hold) → heir id other (InHand other x) ≡ InHand id x
    heir_here x = ap (λ (b : Bool). InHand (if b then id else other) x) (eq-eqb other other refl)

    -- who had it before
    heir_was : (s : Stage) (j : ℕ) (x : Hold) → heir id other s ≡ InHand j x → ((j ≡ id) × (s ≡ InHand other x)) ⊎ ((j ≢ other) × (s ≡ InHand j x))
    heir_was (InHand d y) j x e = dite (ℕ_discrete d other)
        (λ q. let r = same_hand id j y x (sym (ap (λ (b : Bool). InHand (if b then id else d) y) (eq-eqb d other q)) ∙ e) in inl (sym r.0, (λ z. InHand (q z) (r.1 z))))
        (λ ne. let r = same_hand d j y x (sym (heir_of d y ne) ∙ e) in inr ((λ q. ne (r.0 ∙ q)), (λ z. InHand (r.0 z) (r.1 z))))
    heir_was Vacant j x e = absurd (cc)
    heir_was Armed j x e = absurd (cc)
    heir_was Spent j x e = absurd (cc)
    heir_was Posted j x e = absurd (cc)
    heir_was Played j x e = absurd (cc)

    -- the views after the join
    at_both : get_elem? (set (set views id both) other gone) id ≡ some both
    at_both = set_else (set views id both) other id gone (λ q. apart (sym q)) ∙ set_here views id both (at_inside views id v at)

    -- a desk that takes no part in the join is as it was
    at_third : (j : ℕ) (u : View) → j ≢ id → j ≢ other → get_elem? views j ≡ some u → get_elem? (set (set views id both) other gone) j ≡ some u
    at_third j u ne away e = set_else (set views id both) other j gone away ∙ set_else views id j both ne ∙ e

    -- a desk after the join
    who : (F : ℕ → View → Type 0) → F other gone → F id both → ((j : ℕ) (u : View) → j ≢ id → j ≢ other → get_elem? views j ≡ some u → F j u) → (j : ℕ) (u : View) → get_elem? (set (set views id both) other gone) j ≡ some u → F j u
    who F g b third j u e = ⊎_elim
        (λ t. subst (λ (y : ℕ × View). F y.0 y.1) (λ i. (sym t.0 i, t.1 i)) g)
        (λ t. ⊎_elim (λ s. subst (λ (y : ℕ × View). F y.0 y.1) (λ i. (sym s.0 i, s.1 i)) b) (λ s. third j u s.0 t.0 s.1) (at_set views id j both u t.1))
        (at_set (set views id both) other j gone u e)

    -- a desk is joined
    pub hands_join : Hands (set (set views id both) other gone) (λ i. heir id other (stage i))
    hands_join = record {
      holds = who (λ j u. (i : ℕ) (x : Hold) → Holds (hand u) i x → heir id other (stage i) ≡ InHand j x)
          (λ i x h. absurd (newcomer_none i x h))
          (λ i x h. ⊎_elim
          (λ a. ap (heir id other) (law.holds id v at i x a) ∙ heir_of id x (λ q. apart (sym q)))
          (λ a. ap (heir id other) (law.holds other w there i x a) ∙ heir_here x) (from_either i x h))
          (λ j u ne away a i x h. ap (heir id other) (law.holds j u a i x h) ∙ heir_of j x away);
      held = λ i j x e. ⊎_elim
          (λ t. let r = law.held i other x t.1 in (both, ap (get_elem? (set (set views id both) other gone)) t.0 ∙ at_both, from_other i x (subst (λ (u : View). Holds (hand u) i x) (some-injective r.0 w (sym r.1 ∙ there)) r.2)))
          (λ t. let r = law.held i j x t.1 in dite (ℕ_discrete j id)
          (λ q. (both, ap (get_elem? (set (set views id both) other gone)) q ∙ at_both, from_first i x (subst (λ (u : View). Holds (hand u) i x) (some-injective r.0 v (sym r.1 ∙ ap (get_elem? views) q ∙ at)) r.2)))
          (λ ne. (r.0, at_third j r.0 ne t.0 r.1, r.2)))
          (heir_was (stage i) j x e);
      kept = who (λ j u. (i : ℕ) → IsUnlinked (hand u) i → KeepsNumber u.kept i)
          (λ i k. absurd (⊎_elim (λ h. newcomer_none i Fresh h) (λ h. newcomer_none i Placing h) k))
          (λ i k. ⊎_elim
          (λ h. ⊎_elim
          (λ a. let r = law.kept id v at i (inl a) in (r.0, together_left r.0 v.kept w.kept r.1, r.2))
          (λ a. let r = law.kept other w there i (inl a) in (r.0, together_right r.0 v.kept w.kept r.1, r.2)) (has_append i v.fresh w.fresh h))
          (λ h. let r = law.kept id v at i (inr h) in (r.0, together_left r.0 v.kept w.kept r.1, r.2)) k)
          (λ j u ne away a i k. law.kept j u a i k);
      once = who (λ j u. AreDifferent (claimed_numbers u.claims)) tt (law.once id v at) (λ j u ne away a. law.once j u a);
    }
