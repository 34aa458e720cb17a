-- Members are claimed one after another, and given back.
use Rattle.std.proofs.Common.{zero, suc, ◌≡◌, ◌≢◌, inl, inr, ⊎_elim, ℕ, ◌+◌, ◌-◌, ◌<◌, true, false, ◌==◌, ne_eqb, List, [], ◌∷◌, ◌++◌, length, reverse, take, append_assoc, slice_get, slice_index_or, refl, sym, ap, ◌∙◌, subst, arith, Option, Some, None}
use Rattle.std.specs.Prelude.{IfSome}
use Rattle.std.proofs.lemmas.Bool.{eq-eqb}
use Rattle.std.proofs.lemmas.List.{take_all}
use Rattle.std.proofs.lemmas.Option.{slice_get-get_or}
use Rattle.chord_base.specs.Meaning.{Program}
use Rattle.chord_base.specs.Story.{AllBelow}
use Rattle.chord_base.specs.declared.event.What.TheVariants.{Fired}
use Rattle.chord_base.specs.declared.value.Object.{Object}
use Rattle.chord_base.specs.declared.value.Value as value
use Rattle.chord_code.specs.Laws.{ChordsAreRight}
use Rattle.chord_word.specs.declared.cells.Cell.{Cell}
use Rattle.chord_word.specs.declared.cells.Cell.TheVariants as a_cell
use Rattle.chord_word.specs.declared.cells.Word.{Word}
use Rattle.chord_rule.specs.declared.view.Claim.{Claim}
use Rattle.chord_rule.specs.declared.view.Look.{Look}
use Rattle.chord_rule.specs.declared.view.Looked.{Looked}
use Rattle.chord_rule.specs.declared.view.View.{View}
use Rattle.chord_rule.specs.Claims.{HasThe, HasClaimOn, AreClaimed}
use Rattle.chord_rule.specs.Coming.{IsPlace}
use Rattle.chord_rule.specs.Kinds.{saw, saw_count, claimed, unclaimed, drop_claim, was_told, entry, firing_drawn}
use Rattle.chord_rule.specs.Made.{key}
use Rattle.chord_rule.specs.Numbers.{HasNumber}
use Rattle.chord_rule.specs.Tells.{CameNext, IsNewClaim}
use Rattle.chord_rule.specs.Ways.{KnowsBag}
use Rattle.chord_match.specs.declared.claiming.Missed.{Missed}
use Rattle.chord_match.specs.declared.claiming.Missed.TheVariants.{Lost, Spent}
use Rattle.chord_match.specs.Seen.{MayBeClaimed, MayAllBeClaimed, AreSeen}
use Rattle.chord_match.specs.Fires.{messages_and_cells, all_with, AreLastPending, IsLost, IsTurnedAway, IsMissedBy}
use Rattle.chord_match.specs.Claiming.{ClaimAt, Taking, WasClaimed, WereClaimed, IsDrawn, TookInOrder, members_from, WentAndCame, missed_by, looked_by, IsWhy, IsMissed}
use Rattle.chord_match.proofs.Growing.{last_seen_left}
use Rattle.chord_match.proofs.Lists.{all_below_more, has_at, different_at}
use Rattle.chord_match.proofs.InOrder.{newest_of, none_from, first_from, all_from, went_further}

-- a next that is below n where there is one
pub next_is_below : (n : ℕ) (next : Option ℕ) → ((x : ℕ) → next ≡ Some x → x < n) → IfSome next (λ x. x < n)
next_is_below n None f = tt
next_is_below n (Some x) f = f x refl

-- the member of this place is ready
pub ready_at : (n : ℕ) (w : View) (o : Object) (js ms : List ℕ) (xs : List (Option ℕ)) → MayAllBeClaimed n w o js ms xs → (q : ℕ) → q < length ms → MayBeClaimed n w o (slice_index_or js q 0) (slice_index_or ms q 0) (slice_index_or xs q None)
ready_at n w o [] [] [] r q l = absurd (omega (arith, l))
ready_at n w o [] [] (x ∷ xs) r q l = absurd r
ready_at n w o [] (i ∷ is) xs r q l = absurd r
ready_at n w o (j ∷ js) [] xs r q l = absurd r
ready_at n w o (j ∷ js) (i ∷ is) [] r q l = absurd r
ready_at n w o (j ∷ js) (i ∷ is) (x ∷ xs) r zero l = r.0
ready_at n w o (j ∷ js) (i ∷ is) (x ∷ xs) r (suc q) l = ready_at n w o js is xs r.1 q (omega (arith, l))

-- there are as many members and nexts as methods
pub same_lengths : (n : ℕ) (w : View) (o : Object) (js ms : List ℕ) (xs : List (Option ℕ)) → MayAllBeClaimed n w o js ms xs → (length js ≡ length ms) × (length xs ≡ length ms)
same_lengths n w o [] [] [] r = (refl, refl)
same_lengths n w o [] [] (x ∷ xs) r = absurd r
same_lengths n w o [] (i ∷ is) xs r = absurd r
same_lengths n w o (j ∷ js) [] xs r = absurd r
same_lengths n w o (j ∷ js) (i ∷ is) [] r = absurd r
same_lengths n w o (j ∷ js) (i ∷ is) (x ∷ xs) r = let e = same_lengths n w o js is xs r.1 in (ap suc e.0, ap suc e.1)

-- what is ready stays so at a claim
ready_claim : (n : ℕ) (v : View) (c : Claim) (k : ℕ) (z : Word) (o : Object) (js ms : List ℕ) (xs : List (Option ℕ)) → MayAllBeClaimed n v o js ms xs → MayAllBeClaimed n (saw (claimed v c) k z) o js ms xs
ready_claim n v c k z o [] [] [] r = tt
ready_claim n v c k z o [] [] (x ∷ xs) r = absurd r
ready_claim n v c k z o [] (i ∷ is) xs r = absurd r
ready_claim n v c k z o (j ∷ js) [] xs r = absurd r
ready_claim n v c k z o (j ∷ js) (i ∷ is) [] r = absurd r
ready_claim n v c k z o (j ∷ js) (i ∷ is) (x ∷ xs) r =
    (record { seen = (r.0.seen.0, inr r.0.seen.1, r.0.seen.2, r.0.seen.3); known = r.0.known; below = r.0.below; next_below = r.0.next_below }, ready_claim n v c k z o js is xs r.1)

module _ (n : ℕ) (p : Program) (v : View) (o : Object) (chord : ℕ) (ms : List ℕ) (xs : List (Option ℕ)) (at : ℕ) (t : Taking n p v o chord ms xs at) (low : at < length ms) where
  -- the member that is claimed next
  abbrev pub member_at : ℕ
  member_at = slice_index_or ms at 0

  -- its next
  abbrev pub next_at : Option ℕ
  next_at = slice_index_or xs at None

  -- there are as many methods as members
  pub methods_long : length t.seen.methods ≡ length ms
  methods_long = (same_lengths n v o t.seen.methods ms xs t.seen.ready).0

  -- and as many nexts
  pub nexts_long : length xs ≡ length ms
  nexts_long = (same_lengths n v o t.seen.methods ms xs t.seen.ready).1

  -- it is ready
  pub member_ready : MayBeClaimed n v o (slice_index_or t.seen.methods at 0) member_at next_at
  member_ready = ready_at n v o t.seen.methods ms xs t.seen.ready at low

  module _ (right : ChordsAreRight p) (small : o.number < 65536) (c : Claim) (new : IsNewClaim v member_at next_at c) where
    -- the claim is to the object, and to the method of each member that is this message
    pub claim_matches : (q : ℕ) → q < length ms → member_at ≡ slice_index_or ms q 0 → (c.object ≡ o) × (c.method ≡ slice_index_or t.seen.methods q 0)
    claim_matches q l e =
        let j : ℕ = slice_index_or t.seen.methods q 0 in
        let few = right.few o.class chord j t.seen.methods t.seen.is_chord (has_at t.seen.methods q (let m = methods_long in omega (arith, l, m))) in
        new.bagged o j small few t.seen.object (subst (λ (z : ℕ). KnowsBag v z (key o j)) (sym e) (ready_at n v o t.seen.methods ms xs t.seen.ready q l).known)

    -- so no later member is this message: the methods of a chord are different
    pub later_apart : (q : ℕ) → at < q → q < length ms → member_at ≢ slice_index_or ms q 0
    later_apart q g l e =
        different_at t.seen.methods (right.different o.class chord t.seen.methods t.seen.is_chord) at q g (let m = methods_long in omega (arith, l, m))
        (sym (claim_matches at low refl).1 ∙ (claim_matches q l e).1)

    -- one member more is claimed
    pub taking_more : (z : Word) → Taking n p (saw (claimed v c) member_at z) o chord ms xs (at + 1)
    taking_more z = record {
      seen = record { methods = t.seen.methods; is_chord = t.seen.is_chord; ready = ready_claim n v c member_at z o t.seen.methods ms xs t.seen.ready; object = t.seen.object };
      most = omega (arith, low);
      claimed = λ q l. ⊎_elim
          (λ same. subst (λ (y : ℕ). ClaimAt (c ∷ v.claims) o (slice_index_or t.seen.methods y 0) (slice_index_or ms y 0)) (sym same) (let is = claim_matches at low refl in (c, inl refl, new.numbered, is.0, is.1, new.unfired)))
          (λ less. let r = t.claimed q less in (r.0, inr r.1, r.2, r.3, r.4, r.5)) (all_below_more q at l);
      apart = λ q r l m. ⊎_elim
          (λ same e. new.free (let k = t.claimed q (omega (arith, l, same)) in (k.0, k.1, k.2 ∙ e ∙ ap (λ (y : ℕ). slice_index_or ms y 0) same)))
          (λ less. t.apart q r l less) (all_below_more r at m);
      many = let e = t.many in omega (arith, e);
      room = t.room;
    }

-- claims for each method in order are claims for all
pub claimed_all : (cs : List Claim) (o : Object) (js ms : List ℕ) → length js ≡ length ms → ((q : ℕ) → q < length ms → ClaimAt cs o (slice_index_or js q 0) (slice_index_or ms q 0)) → (vs : List value.Value) × AreClaimed cs o js ms vs
claimed_all cs o [] [] e f = ([], refl)
claimed_all cs o [] (i ∷ ms) e f = absurd (omega (arith, e))
claimed_all cs o (j ∷ js) [] e f = absurd (omega (arith, e))
claimed_all cs o (j ∷ js) (i ∷ ms) e f =
    let r = claimed_all cs o js ms (omega (arith, e)) (λ q l. f (suc q) (omega (arith, l))) in let c = f 0 (omega arith) in
    (c.0.values ++ r.0, (c.0, c.1, c.2, c.3, c.4, c.5, (r.0, refl, r.1)))

-- claims stay where none of them is dropped
drop_free : (i : ℕ) (cs : List Claim) → (HasClaimOn i cs → ⊥) → drop_claim i cs ≡ cs
drop_free i [] f = refl
drop_free i (c ∷ cs) f = let e : (c.number == i) ≡ false = ne_eqb c.number i (λ q. f (c, inl refl, q)) in let r = drop_free i cs (λ t. f (t.0, inr t.1, t.2)) in rw (e, r) refl

-- the newest claim is dropped
drop_newest : (i : ℕ) (c : Claim) (cs : List Claim) → c.number ≡ i → (HasClaimOn i cs → ⊥) → drop_claim i (c ∷ cs) ≡ cs
drop_newest i c cs q f = let e : (c.number == i) ≡ true = eq-eqb c.number i q in let r = drop_free i cs f in rw (e, r) refl

-- a number at a place of a list is one of its numbers
number_at : (ms : List ℕ) (q : ℕ) → q < length ms → HasNumber (slice_index_or ms q 0) ms
number_at [] q l = absurd (omega (arith, l))
number_at (i ∷ ms) zero l = inl refl
number_at (i ∷ ms) (suc q) l = inr (number_at ms q (omega (arith, l)))

-- nothing was fired, since the journal is full
pub missed_full : (n : ℕ) (v w : View) (ms : List ℕ) (xs : List (Option ℕ)) (at c : ℕ) → at ≡ length ms → n < c → w ≡ saw_count (was_told v) c → IsMissed n v w ms xs at Spent
missed_full n v w ms xs at c all far is = subst (λ (z : View). IsMissed n v z ms xs at Spent) (sym is) record {
  frame = refl;
  looks = [];
  more = refl;
  why = (c, far, refl, subst (λ (z : List ℕ). WentAndCame z [] []) (sym (ap (λ (k : ℕ). members_from k (length ms) ms) all ∙ none_from ms (length ms))) refl);
  remembered = refl;
  alone = λ a b l. tt;
}

-- the exchange read another cell
pub missed_one : (n : ℕ) (v w : View) (ms : List ℕ) (xs : List (Option ℕ)) (at : ℕ) (c : Cell) (after : Option ℕ) → at < length ms → slice_index_or ms at 0 < n → w ≡ saw v (slice_index_or ms at 0) (record { cell = c; next = after }) → c ≢ a_cell.Pending
    → (v.first ≡ true → v.lent ≡ 0 → AreLastPending v ms xs at → ⊥) → IsMissed n v w ms xs at (Lost (slice_index_or ms at 0))
missed_one n v w ms xs at c after low small is ne alone = let i : ℕ = slice_index_or ms at 0 in subst (λ (z : View). IsMissed n v z ms xs at (Lost i)) (sym is) record {
  frame = refl;
  looks = record { number = i; word = record { cell = c; next = after } } ∷ [];
  more = refl;
  why = record {
    place = at;
    from = omega arith;
    low = low;
    is = refl;
    below = small;
    read = (record { cell = c; next = after }, inl (refl, refl), ne);
    cell = c;
    gone = ne;
    in_order = subst (λ (z : List ℕ). WentAndCame z ((i, c) ∷ []) (record { number = i; word = record { cell = c; next = after } } ∷ [])) (sym (none_from ms at)) refl;
  };
  remembered = refl;
  alone = alone;
}

-- the claim is given back
pub missed_back : (n : ℕ) (v u w : View) (ms : List ℕ) (xs : List (Option ℕ)) (at : ℕ) (c : Claim) (a b : Word) (x : Missed) → at < length ms → a.cell ≡ a_cell.Claimed → b.cell ≡ a_cell.Pending → c.number ≡ slice_index_or ms at 0 → (HasClaimOn (slice_index_or ms at 0) v.claims → ⊥) → ((q : ℕ) → at < q → q < length ms → slice_index_or ms at 0 ≢ slice_index_or ms q 0)
    → IsMissed n (saw (claimed v c) (slice_index_or ms at 0) a) u ms xs (at + 1) x → w ≡ saw (unclaimed u (slice_index_or ms at 0)) (slice_index_or ms at 0) b → IsMissed n v w ms xs at x
missed_back n v u w ms xs at c a b x low written back number free apart m is = record {
  frame = is ∙ ap (λ (z : View). saw (unclaimed z i) i b) m.frame ∙ by x ∙ ap (missed_by v x) (sym (ap (λ (z : View). z.looked) is));
  looks = all;
  more = ap (λ (z : View). z.looked.seen) is ∙ ap (λ (z : List Look). record { number = i; word = b } ∷ z) m.more ∙ joined;
  why = on x m.why;
  remembered = still x m.remembered;
  alone = λ first lent l. m.alone first lent (λ q g h. inr ((λ e. apart q (omega (arith, g)) h (sym e)), l q (omega (arith, g)) h));
}
  where
    i : ℕ
    i = slice_index_or ms at 0

    gone : drop_claim i (c ∷ v.claims) ≡ v.claims
    gone = drop_newest i c v.claims number free

    after : Looked
    after = (saw u i b).looked

    by : (x : Missed) → saw (unclaimed (missed_by (saw (claimed v c) i a) x u.looked) i) i b ≡ missed_by v x after
    by (Lost j) = ap (λ (cs : List Claim). record v { claims = cs; looked = after }) gone
    by Spent = ap (λ (cs : List Claim). record v { claims = cs; looked = after; spent = true }) gone

    -- the looks since the claim, with its own and that of giving it back
    all : List Look
    all = record { number = i; word = b } ∷ (m.looks ++ record { number = i; word = a } ∷ [])

    joined : record { number = i; word = b } ∷ (m.looks ++ record { number = i; word = a } ∷ v.looked.seen) ≡ all ++ v.looked.seen
    joined = ap (λ (z : List Look). record { number = i; word = b } ∷ z) (sym (append_assoc m.looks (record { number = i; word = a } ∷ []) v.looked.seen))

    still : (x : Missed) → u.looked ≡ looked_by x (saw v i a).looked m.looks u.looked.count → w.looked ≡ looked_by x v.looked all w.looked.count
    still (Lost j) e = ap (λ (z : View). z.looked) is ∙ ap (λ (l : Looked). record l { seen = record { number = i; word = b } ∷ l.seen }) e ∙ ap (λ (z : List Look). record v.looked { seen = z }) joined
    still Spent e =
        ap (λ (z : View). z.looked) is ∙ ap (λ (l : Looked). record l { seen = record { number = i; word = b } ∷ l.seen }) e
        ∙ (λ k. record v.looked { seen = joined k; count = sym (ap (λ (z : View). z.looked.count) is) k })

    -- this member was claimed before those behind it, and given back after them
    further : (end : ℕ) → at < end → (rest : List (ℕ × Cell)) → WentAndCame (members_from (at + 1) end ms) rest m.looks → WentAndCame (members_from at end ms) rest all
    further end more rest e = subst (λ (z : List ℕ). WentAndCame z rest all) (sym (first_from ms at end more low)) (went_further i a b m.looks (members_from (at + 1) end ms) rest written back e)

    -- the member that was gone stands behind this one, so it is another
    on : (x : Missed) → IsWhy n ms (at + 1) u.looked m.looks x → IsWhy n ms at w.looked all x
    on (Lost j) y = let behind = y.from in record {
      place = y.place;
      from = omega (arith, behind);
      low = y.low;
      is = y.is;
      below = y.below;
      cell = y.cell;
      gone = y.gone;
      in_order = further y.place (omega (arith, behind)) ((j, y.cell) ∷ []) y.in_order;
      read = (y.read.0, inr ((λ e. apart y.place (omega (arith, behind)) y.low (sym e ∙ y.is)), last_seen_left j y.read.0 m.looks (record { number = i; word = a } ∷ []) y.read.1), y.read.2);
    }
    on Spent y = (y.0, y.1, ap (λ (z : View). z.looked.count) is ∙ y.2, further (length ms) low [] y.3)

-- all are claimed: the firing was drawn
pub taken_all : (n : ℕ) (p : Program) (v w : View) (o : Object) (chord : ℕ) (ms : List ℕ) (xs : List (Option ℕ)) (at f : ℕ) (js : List ℕ) (vs : List value.Value) → Taking n p v o chord ms xs at → at ≡ length ms → slice_get (p.chords o.class) chord ≡ Some js → AreClaimed v.claims o js ms vs
    → AllBelow f v.kept → (w ≡ saw_count (firing_drawn v f chord o ms vs) (f + 1)) × CameNext p (entry f f (Fired chord o ms vs)) × IsPlace p (entry f f (Fired chord o ms vs) ∷ v.kept) → IsDrawn p v w o chord ms f
taken_all n p v w o chord ms xs at f js vs t full is_chord claimed below d = subst (λ (z : View). IsDrawn p v z o chord ms f) (sym d.0) record {
  claims = v.claims;
  methods = js;
  values = vs;
  is_chord = is_chord;
  claimed = claimed;
  many = t.many ∙ full;
  apart = λ q r l m. t.apart q r l (omega (arith, m, full));
  below = below;
  came = d.1;
  place = d.2;
  drawn = refl;
}

-- one claim more was made before
pub taken_back : (p : Program) (v w : View) (o : Object) (chord : ℕ) (ms : List ℕ) (f i : ℕ) (c : Claim) (a : Word) → IsDrawn p (saw (claimed v c) i a) w o chord ms f → IsDrawn p v w o chord ms f
taken_back p v w o chord ms f i c a t = record { claims = t.claims; methods = t.methods; values = t.values; is_chord = t.is_chord; claimed = t.claimed; many = t.many; apart = t.apart; below = t.below; came = t.came; place = t.place; drawn = t.drawn }

-- after a miss the claims are those before
pub still_claims : (n : ℕ) (v w : View) (ms : List ℕ) (xs : List (Option ℕ)) (at : ℕ) (x : Missed) → IsMissed n v w ms xs at x → w.claims ≡ v.claims
still_claims n v w ms xs at x m = ap (λ (z : View). z.claims) m.frame ∙ by x
  where
    by : (x : Missed) → (missed_by v x w.looked).claims ≡ v.claims
    by (Lost i) = refl
    by Spent = refl

-- all claims were made before
pub drawn_from_first : (n : ℕ) (p : Program) (v w : View) (o : Object) (chord : ℕ) (ms : List ℕ) (xs : List (Option ℕ)) (f k : ℕ) (u : View) → WereClaimed n p v o chord ms xs k u → IsDrawn p u w o chord ms f → IsDrawn p v w o chord ms f
drawn_from_first n p v w o chord ms xs f zero u e d = subst (λ (z : View). IsDrawn p z w o chord ms f) e d
drawn_from_first n p v w o chord ms xs f (suc k) u t d = drawn_from_first n p v w o chord ms xs f k t.0 t.1 (taken_back p t.0 w o chord ms f (slice_index_or ms k 0) t.2.claim t.2.word (subst (λ (z : View). IsDrawn p z w o chord ms f) t.2.becomes d))

-- by these looks, the newest first, the first so many members were claimed in order
were_looked : (n : ℕ) (p : Program) (v : View) (o : Object) (chord : ℕ) (ms : List ℕ) (xs : List (Option ℕ)) (k : ℕ) (u : View) → WereClaimed n p v o chord ms xs k u
    → (ls : List Look) × (u.looked ≡ record v.looked { seen = ls ++ v.looked.seen }) × (messages_and_cells ls ≡ all_with a_cell.Claimed (reverse (take k ms)))
were_looked n p v o chord ms xs zero u e = ([], ap (λ (z : View). z.looked) e, refl)
were_looked n p v o chord ms xs (suc k) u t =
    let r = were_looked n p v o chord ms xs k t.0 t.1 in let i : ℕ = slice_index_or ms k 0 in let last : Look = record { number = i; word = t.2.word } in (
      last ∷ r.0,
      ap (λ (z : View). z.looked) t.2.becomes ∙ ap (λ (l : Looked). record l { seen = last ∷ l.seen }) r.1,
      (λ q. (i, t.2.written q) ∷ r.2 q) ∙ ap (all_with a_cell.Claimed) (sym (newest_of ms k t.2.low)),
    )

-- all members were claimed in order, and the firing was drawn
pub took_in_order : (n : ℕ) (p : Program) (v w : View) (o : Object) (chord : ℕ) (ms : List ℕ) (xs : List (Option ℕ)) (f k : ℕ) (u : View) → k ≡ length ms → WereClaimed n p v o chord ms xs k u → w.looked ≡ record u.looked { count = Some (f + 1) } → TookInOrder v w ms f
took_in_order n p v w o chord ms xs f k u full t drawn = let r = were_looked n p v o chord ms xs k u t in record {
  looks = r.0;
  remembered = drawn ∙ ap (λ (l : Looked). record l { count = Some (f + 1) }) r.1;
  in_order = r.2 ∙ ap (λ (z : List ℕ). all_with a_cell.Claimed (reverse z)) (ap (λ (q : ℕ). take q ms) full ∙ take_all (length ms) ms (omega arith));
}

-- the claim that was made last
pub last_claimed : (n : ℕ) (p : Program) (v : View) (o : Object) (chord : ℕ) (ms : List ℕ) (xs : List (Option ℕ)) (q : ℕ) (u : View) → 0 < q → WereClaimed n p v o chord ms xs q u → (b : View) × WereClaimed n p v o chord ms xs (q - 1) b × WasClaimed n p b u o chord ms xs (q - 1)
last_claimed n p v o chord ms xs zero u l t = absurd (omega (arith, l))
last_claimed n p v o chord ms xs (suc k) u l t = let e : k ≡ suc k - 1 = omega arith in subst (λ (q : ℕ). (b : View) × WereClaimed n p v o chord ms xs q b × WasClaimed n p b u o chord ms xs q) e t

module _ (n : ℕ) (p : Program) (right : ChordsAreRight p) (o : Object) (small : o.number < 65536) (chord : ℕ) (ms : List ℕ) (xs : List (Option ℕ)) (k : ℕ) (b u old : View) (t : WasClaimed n p b u o chord ms xs k) (x : Missed) (m : IsMissed n u old ms xs (k + 1) x) where
  -- nothing was fired since it was made
  since : IsMissed n (saw (claimed b t.claim) (slice_index_or ms k 0) t.word) old ms xs (k + 1) x
  since = subst (λ (z : View). IsMissed n z old ms xs (k + 1) x) t.becomes m

  -- so the desk has it
  has_last : HasThe t.claim old.claims
  has_last = subst (λ (z : List Claim). HasThe t.claim z) (sym (still_claims n (saw (claimed b t.claim) (slice_index_or ms k 0) t.word) old ms xs (k + 1) x since)) (inl refl)

  -- and may give it back
  pub may_give_last : (c : Claim) × HasThe c old.claims × (c.number ≡ slice_index_or ms k 0) × (c.firing ≡ None)
  may_give_last = (t.claim, has_last, t.new.numbered, t.new.unfired)

  -- it was given back
  pub missed_last : (new : View) → ((c : Claim) → HasThe c old.claims → c.number ≡ slice_index_or ms k 0 → new ≡ saw (unclaimed old (slice_index_or ms k 0)) (slice_index_or ms k 0) (record { cell = a_cell.Pending; next = c.next })) → IsMissed n b new ms xs k x
  missed_last new given =
      missed_back n b old new ms xs k t.claim t.word (record { cell = a_cell.Pending; next = t.claim.next }) x t.low t.written refl t.new.numbered t.new.free (later_apart n p b o chord ms xs k t.taking t.low right small t.claim t.new) since (given t.claim has_last t.new.numbered)

-- at first nothing is claimed
pub taking_first : (n : ℕ) (p : Program) (v : View) (o : Object) (chord : ℕ) (ms : List ℕ) (xs : List (Option ℕ)) → AreSeen n p v o chord ms xs → v.claims ≡ [] → v.spent ≡ false → Taking n p v o chord ms xs 0
taking_first n p v o chord ms xs seen free room = record { seen = seen; most = omega arith; claimed = λ q l. absurd (omega (arith, l)); apart = λ q r g l. absurd (omega (arith, l)); many = ap length free; room = room }

-- a member was lost, and nothing is claimed
lost_all : (n : ℕ) (v w : View) (ms : List ℕ) (xs : List (Option ℕ)) (i : ℕ) → v.claims ≡ [] → IsMissed n v w ms xs 0 (Lost i) → IsLost n v w ms xs i
lost_all n v w ms xs i free m = record {
  same = m.frame;
  claims = ap (λ (z : View). z.claims) m.frame ∙ free;
  member = subst (λ (z : ℕ). HasNumber z ms) (sym m.why.is) (number_at ms m.why.place m.why.low);
  below = m.why.below;
  looks = m.looks;
  more = m.more;
  read = m.why.read;
  remembered = m.remembered;
  tried = record {
    place = m.why.place;
    here = slice_get-get_or ms m.why.place 0 m.why.low ∙ ap (λ (z : ℕ). Some z) (sym m.why.is);
    cell = m.why.cell;
    gone = m.why.gone;
    in_order = subst (λ (z : List ℕ). WentAndCame z ((i, m.why.cell) ∷ []) m.looks) (all_from ms m.why.place) m.why.in_order;
  };
  alone = m.alone;
}

-- the journal is full, and nothing is claimed
refused_all : (n : ℕ) (v w : View) (ms : List ℕ) (xs : List (Option ℕ)) → v.claims ≡ [] → IsMissed n v w ms xs 0 Spent → IsTurnedAway n v w ms
refused_all n v w ms xs free m = record {
  same = m.frame;
  claims = ap (λ (z : View). z.claims) m.frame ∙ free;
  counter = (m.why.0, m.why.1, m.why.2);
  looks = m.looks;
  remembered = m.remembered;
  in_order = subst (λ (z : List ℕ). WentAndCame z [] m.looks) (all_from ms (length ms) ∙ take_all (length ms) ms (omega arith)) m.why.3;
}

-- why nothing was fired, once all claims were given back
pub missed_all : (n : ℕ) (v w : View) (ms : List ℕ) (xs : List (Option ℕ)) (x : Missed) → v.claims ≡ [] → IsMissed n v w ms xs 0 x → IsMissedBy n v w ms xs x
missed_all n v w ms xs (Lost i) free m = lost_all n v w ms xs i free m
missed_all n v w ms xs Spent free m = refused_all n v w ms xs free m
