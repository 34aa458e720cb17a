-- What a search for a chord answers, from what is known of the bags.
use Rattle.std.proofs.Common.{◌||◌, ne_eqb, zero, suc, map, replicate, ◌≡◌, ◌≢◌, ◌⊎◌, inl, inr, ℕ, ◌<◌, Bool, true, false, ◌==◌, List, [], ◌∷◌, slice_get, slice_index_or, refl, sym, ap, ◌∙◌, subst, Option, Some, None, if◌then◌else◌}
use mathlib.Core.Path.{Path}
use Rattle.std.proofs.lemmas.Bool.{eqb-true, eq-eqb}
use Rattle.std.proofs.lemmas.List.{append_cancel_right}
use Rattle.std.proofs.lemmas.Option.{slice_get_within}
use Rattle.chord_base.specs.Meaning.{Program}
use Rattle.chord_base.specs.Messages.{has}
use Rattle.chord_base.specs.declared.value.Object.{Object}
use Rattle.chord_base.proofs.Pending.{has_more}
use Rattle.chord_code.specs.Laws.{ChordsAreRight}
use Rattle.chord_word.specs.declared.cells.Cell.{Cell}
use Rattle.chord_word.specs.declared.cells.Cell.TheVariants.{Empty, Pending, Claimed, Consumed, Woken, Ready, Started}
use Rattle.chord_word.specs.declared.cells.Word.{Word}
use Rattle.chord_rule.specs.declared.view.Duty.{Duty}
use Rattle.chord_rule.specs.declared.view.View.{View}
use Rattle.chord_rule.specs.declared.view.Way.{Way}
use Rattle.chord_rule.specs.Bags.{IsArmed}
use Rattle.chord_rule.specs.Duties.{HasDuty, MayRest, move_duty}
use Rattle.chord_rule.specs.Kinds.{is_down, looked_cell}
use Rattle.chord_rule.specs.Looks.{HasLook}
use Rattle.chord_rule.specs.Made.{key, bag_keys, IsChord}
use Rattle.chord_rule.specs.Numbers.{HasNumber}
use Rattle.chord_rule.specs.Tells.{IsLook}
use Rattle.chord_rule.specs.Ways.{HasWay, IsAloneDesk, IsSettledCell}
use Rattle.chord_rule.proofs.KeySteps.{same_key}
use Rattle.chord_bag.specs.declared.walk.Sought.{Sought}
use Rattle.chord_bag.specs.declared.walk.Sought.TheVariants as a_sought
use Rattle.chord_bag.specs.Reads.{IsOnlyLooks, after_cell}
use Rattle.chord_bag.specs.Seeking.{IsSoughtAnswer}
use Rattle.chord_bag.proofs.Turning.{still_alone, only_more}
use Rattle.chord_bag.proofs.Walks.{cell_keeps_messages}
use Rattle.chord_match.specs.declared.search.Own.{Own}
use Rattle.chord_match.specs.declared.search.Verdict.{Verdict}
use Rattle.chord_match.specs.declared.search.Verdict.TheVariants as a_verdict
use Rattle.chord_match.specs.Seen.{Answered, AreMatched}
use Rattle.chord_match.specs.Searching.{WasTold, WasToldIf, Searching, IsStuck, NoneIsBare, KnowsBeside, IsThrough}
use Rattle.chord_match.specs.Findings.{AreWithinChords, IsLacking, IsHeldUp, IsMatch, IsLeftAnswer, IsHeldBy, read_so}
use Rattle.chord_match.proofs.Growing.{duty_is_kept, key_cancels, way_has, one_way, only_bare}

-- the own message is the member for its own method
own_member : (v w : View) (o : Object) (m method : ℕ) (next : Option ℕ) (js ms : List ℕ) (xs : List (Option ℕ)) → AreMatched v w o m method next js ms xs → has method js ≡ true → HasNumber m ms
own_member v w o m method next [] ms xs t h = absurd (let z : false ≡ true = h in cc)
own_member v w o m method next (j ∷ js) [] xs t h = absurd t
own_member v w o m method next (j ∷ js) (i ∷ is) [] t h = absurd t
own_member v w o m method next (j ∷ js) (i ∷ is) (x ∷ xs) (inl q, t) h = inl (sym q.1)
own_member v w o m method next (j ∷ js) (i ∷ is) (x ∷ xs) (inr q, t) h = inr (own_member v w o m method next js is xs t (subst (λ (b : Bool). (b || has method js) ≡ true) (ne_eqb method j (λ e. q.0 (sym e))) h))

-- a bag of a chord is that of one of its methods
has_keys : (o : Object) (js : List ℕ) (x : ℕ) → HasNumber x (bag_keys o js) → (j : ℕ) × (has j js ≡ true) × (x ≡ key o j)
has_keys o [] x h = absurd h
has_keys o (j ∷ js) x (inl q) = (j, rw (eq-eqb j j refl) refl, q)
has_keys o (j ∷ js) x (inr h) = let r = has_keys o js x h in (r.0, has_more r.0 j js r.1, r.2)

-- the bag of a method of a chord is one of its bags
key_has : (o : Object) (js : List ℕ) (j : ℕ) → has j js ≡ true → HasNumber (key o j) (bag_keys o js)
key_has o [] j y = absurd (let z : false ≡ true = y in cc)
key_has o (i ∷ js) j y = cases (j == i) refl (key_has o js j)
  where
    cases : (b : Bool) → (j == i) ≡ b → (has j js ≡ true → HasNumber (key o j) (bag_keys o js)) → HasNumber (key o j) (bag_keys o (i ∷ js))
    cases true e k = inl (ap (key o) (eqb-true j i e))
    cases false e k = inr (k (rw e at y))

module _ (n : ℕ) (v w : View) (o : Object) (own : Own) (known : List (Option Sought)) (s : Searching n v w o own known) where
  -- what was told of a bag
  told_at : (j : ℕ) (x : Sought) → slice_index_or known j None ≡ Some x → WasTold n v w (key o j) x
  told_at j x e = subst (λ (z : Option Sought). WasToldIf n v w (key o j) z) e (s.cached j)

  -- a chord that is stuck by a bare bag
  lacking : (js : List ℕ) → IsStuck own js known None → IsLacking v w o own.method js
  lacking js t = (t.0, t.1, t.2.0, (told_at t.0 a_sought.Bare t.2.1).answered)

  -- a chord that is stuck by a message in another hand
  held_up : (js : List ℕ) (i : ℕ) → IsStuck own js known (Some i) → IsHeldUp v w o own.method js i × (i < n) × (IsAloneDesk v → ⊥)
  held_up js i t = let r = told_at t.0 (a_sought.Busy i) t.2.1 in ((t.0, t.1, t.2.0, r.answered), r.below, r.says)

  -- a way by which an answer was given since is one of those that were gone
  gone : (k : ℕ) (x : Sought) (a : Answered v w k x) → HasWay a.0 s.sought.grows.ways
  gone k x a = subst (λ (z : List Way). HasWay a.0 z) (append_cancel_right a.1 s.sought.grows.ways v.looked.ways (sym a.2 ∙ s.sought.grows.more_ways)) a.3

  -- a chord none of whose bags is known to be bare had none that was
  not_lacking : (js : List ℕ) → NoneIsBare js known → IsLacking v w o own.method js → ⊥
  not_lacking js none t =
      let a = t.3 in let here = gone (key o t.0) a_sought.Bare a in
      let r = s.listed a.0.bag (way_has a.0 s.sought.grows.ways here) in
      let same : t.0 ≡ r.0 = key_cancels o t.0 r.0 (sym a.4 ∙ r.2) in
      let is : slice_index_or known t.0 None ≡ Some r.1 = ap (λ (z : ℕ). slice_index_or known z None) same ∙ r.3 in
      let b = (told_at t.0 r.1 is).answered in
      let one : b.0 ≡ a.0 = one_way b.0 a.0 s.sought.grows.ways s.sought.once (gone (key o t.0) r.1 b) here (b.4 ∙ sym a.4) in
      none t.0 t.1 (is ∙ ap (λ (z : Sought). Some z) (only_bare a.0 r.1 a.5 (subst (λ (z : Way). IsSoughtAnswer z r.1) one b.5)))

-- ## The own message

-- a look at m that finds it down marks the duty as off
off_marked : (m : ℕ) (next : Option ℕ) (ds : List Duty) (e : Duty) → HasDuty e (map (move_duty m next) ds) → e.message ≡ m → e.off ≡ true
off_marked m next [] e h q = absurd h
off_marked m next (d ∷ ds) e (inl h) q = ap (λ (z : Duty). z.off) h ∙ (let same : d.message ≡ m = sym (ap (λ (z : Duty). z.message) h) ∙ q in let t : (d.message == m) ≡ true = eq-eqb d.message m same in rw t refl)
off_marked m next (d ∷ ds) e (inr h) q = off_marked m next ds e h q

-- a look changes only looks and walks
look_only : (v : View) (m : ℕ) (c : Word) → IsOnlyLooks v (looked_cell v m c)
look_only v m c = only_more v v (after_cell m c v.duties) (looked_cell v m c).looked (record { frame = refl; duties = refl }) (cell_keeps_messages m c v.duties)

-- the duty that was on m still is
pub duty_stays : (v w : View) (m k : ℕ) → IsOnlyLooks v w → (d : Duty) × HasDuty d v.duties × (d.message ≡ m) × (d.bag ≡ k) → (d : Duty) × HasDuty d w.duties × (d.message ≡ m) × (d.bag ≡ k)
duty_stays v w m k o t = let r = duty_is_kept t.0 v.duties w.duties o.duties t.1 in (r.0, r.1, r.2 ∙ t.2, r.3 ∙ t.3)

-- m is down: its duty may be laid down
pub down_rests : (p : Program) (v w : View) (m k : ℕ) (c : Word) → w ≡ looked_cell v m c → is_down c.cell ≡ true → (d : Duty) × HasDuty d v.duties × (d.message ≡ m) × (d.bag ≡ k)
    → (d : Duty) × HasDuty d w.duties × (d.message ≡ m) × ((e : Duty) → HasDuty e w.duties → e.message ≡ m → e.bag ≡ d.bag → MayRest (IsChord p) e)
down_rests p v w m k c is down t =
    let r = duty_stays v w m k (subst (λ (z : View). IsOnlyLooks v z) (sym is) (look_only v m c)) t in
    (r.0, r.1, r.2, (λ e h q b. inl (off_marked m c.next v.duties e (subst (λ (z : List Duty). HasDuty e z) (ap (λ (z : View). z.duties) is ∙ moved) h) q)))
  where
    moved : (if is_down c.cell then map (move_duty m c.next) v.duties else v.duties) ≡ map (move_duty m c.next) v.duties
    moved = rw down refl

-- of a bag nothing is known
abbrev nothing : Option Sought
nothing = None

-- so of each bag at first
pub all_none : (n q : ℕ) → slice_index_or (replicate n nothing) q nothing ≡ nothing
all_none zero q = refl
all_none (suc n) zero = refl
all_none (suc n) (suc q) = all_none n q

-- so none is known to be bare
pub none_bare : (n q : ℕ) → slice_index_or (replicate n nothing) q nothing ≢ Some a_sought.Bare
none_bare n q e = let z : Path (Option Sought) None (Some a_sought.Bare) = sym (all_none n q) ∙ e in absurd (cc)

-- so none is known that stands beside no own method
pub beside_none : (own : Own) (jss : List (List ℕ)) → KnowsBeside own jss (replicate 16 None)
beside_none own jss q = inl (all_none 16 q)

-- m was read pending, and nothing is known of the bags
pub stands_read : (n : ℕ) (v u : View) (o : Object) (own : Own) → IsLook n v u own.message (record { cell = Pending; next = own.next }) → own.message < n → (d : Duty) × HasDuty d v.duties × (d.message ≡ own.message) × (d.bag ≡ key o own.method) → Searching n u u o own (replicate 16 None)
stands_read n v u o own look low d = record {
  sought = record { grows = record { ways = []; looks = []; more_ways = refl; more_seen = refl; only = record { frame = refl; duties = refl } }; once = tt; along = refl; tidy = λ a x h. absurd h };
  listed = λ k h. let z : false ≡ true = h in absurd (cc);
  read = (record { cell = Pending; next = own.next }, subst (λ (z : View). HasLook own.message (record { cell = Pending; next = own.next }) z.looked.seen) (sym look.looked) (inl (refl, refl)), tt, refl);
  below = low;
  next_below = look.within tt;
  duty = duty_stays v u own.message (key o own.method) (subst (λ (z : View). IsOnlyLooks v z) (sym look.looked) (look_only v own.message (record { cell = Pending; next = own.next }))) d;
  cached = λ q. subst (λ (z : Option Sought). WasToldIf n u u (key o q) z) (sym (all_none 16 q)) tt;
}

-- m was read neither pending nor down, so it is claimed, and by another desk
pub claimed_by_another : (p : Program) (n : ℕ) (v w : View) (m : ℕ) (o : Object) (method : ℕ) (next : Option ℕ) (c : Cell) → m < n → w ≡ read_so v m c next → IsArmed c → (IsAloneDesk v → IsSettledCell c) → c ≢ Pending → c ≢ Consumed → ((q : ℕ) → c ≢ Woken q)
    → IsHeldBy p n v w m o method m
claimed_by_another p n v w m o method next Claimed low is armed alone a b d = record { one = inl (refl, (next, is)); below = low; alone = alone }
claimed_by_another p n v w m o method next Pending low is armed alone a b d = absurd (a refl)
claimed_by_another p n v w m o method next Consumed low is armed alone a b d = absurd (b refl)
claimed_by_another p n v w m o method next (Woken q) low is armed alone a b d = absurd (d q refl)
claimed_by_another p n v w m o method next Empty low is armed alone a b d = absurd armed
claimed_by_another p n v w m o method next Ready low is armed alone a b d = absurd armed
claimed_by_another p n v w m o method next Started low is armed alone a b d = absurd armed

-- ## What the verdict says

module _ (n : ℕ) (p : Program) (v w : View) (o : Object) (own : Own) (ms : List ℕ) (xs : List (Option ℕ)) where
  -- what a verdict says to the caller
  abbrev pub Tells : Verdict → Type 0
  Tells (a_verdict.Match k) = IsMatch p n v w own.message o own.method k ms xs
  Tells (a_verdict.Without None) = IsLeftAnswer p v w own.message o own.method
      × ((d : Duty) × HasDuty d w.duties × (d.message ≡ own.message) × ((e : Duty) → HasDuty e w.duties → e.message ≡ own.message → e.bag ≡ d.bag → MayRest (IsChord p) e))
  Tells (a_verdict.Without (Some i)) = IsHeldBy p n v w own.message o own.method i

module _ (n : ℕ) (p : Program) (v w : View) (o : Object) (own : Own) (known : List (Option Sought)) (ms : List ℕ) (xs : List (Option ℕ)) where
  -- the view after the own message was read pending
  abbrev seen : View
  seen = read_so v own.message Pending own.next

  -- the own message was read pending, and then the chords of its object were gone through
  abbrev WentThrough : Verdict → Type 0
  WentThrough t = IsThrough n seen w o own (p.chords o.class) known ms xs t

  -- where each chord has a bare bag, the duty may be laid down
  may_rest : ChordsAreRight p → o.number < 65536 → own.method < 16 → WentThrough (a_verdict.Without None) → (e : Duty) → HasDuty e w.duties → e.bag ≡ key o own.method → MayRest (IsChord p) e
  may_rest right low few t e h b = inr (λ ks c i.
      let q = has_keys c.0 c.2 e.bag (subst (λ (z : List ℕ). HasNumber e.bag z) c.5 i) in
      let same_one = same_key o c.0 own.method q.0 low few c.4 (right.few c.0.class c.1 q.0 c.2 c.3 q.1) (sym b ∙ q.2) in
      let here = subst (λ (z : Object). slice_get (p.chords z.class) c.1 ≡ Some c.2) (sym same_one.0) c.3 in
      let r = t.verdict c.1 c.2 (slice_get_within (p.chords o.class) c.1 c.2 here) here (subst (λ (z : ℕ). has z c.2 ≡ true) (sym same_one.1) q.1) in
      let a = told_at n seen w o own known t.stands r.0 a_sought.Bare r.2.1 in
      (record { bag = key o r.0; place = None }, a.says e h, subst (λ (z : Object). HasNumber (key z r.0) ks) (sym same_one.0) (subst (λ (z : List ℕ). HasNumber (key c.0 r.0) z) (sym c.5) (key_has c.0 c.2 r.0 r.1)), (λ z. r.2.0 (key_cancels o r.0 own.method (z ∙ b))), refl))

  -- no bag was sought but those of the chords with the own message
  within : (t : Verdict) (g : WentThrough t) → AreWithinChords p o own.method g.stands.sought.grows.ways
  within t g x h = let r = g.stands.listed x.bag (way_has x g.stands.sought.grows.ways h) in elim (g.beside r.0) [
    | inl none ↦ absurd (let z : Path (Option Sought) None (Some r.1) = sym none ∙ r.3 in cc)
    | inr y ↦ (y.0, y.1, (y.2, y.3), (r.0, y.4, y.5, r.2))
  ]

  -- the first chord with all members is a match; where each has a bare bag, nothing is left to do; else the first message in another hand is told
  tells : ChordsAreRight p → o.number < 65536 → own.method < 16 → (t : Verdict) → WentThrough t → Tells n p v w o own ms xs t
  tells right low few (a_verdict.Match k) t = let r = t.verdict in let d = t.stands.duty in record {
    next = own.next;
    sought = t.stands.sought;
    within = within (a_verdict.Match k) t;
    seen = record { methods = r.0; is_chord = r.1; ready = r.4; object = (d.0, own.method, d.1, few, d.3) };
    chord = (r.1, r.2);
    own = own_member seen w o own.message own.method own.next r.0 ms xs r.3 r.2;
    matched = r.3;
  }
  tells right low few (a_verdict.Without None) t = let d = t.stands.duty in (
    record {
      next = own.next;
      sought = t.stands.sought;
      within = within (a_verdict.Without None) t;
      lacking = λ k js c. lacking n seen w o own known t.stands js (t.verdict k js (slice_get_within (p.chords o.class) k js c.0) c.0 c.1);
    },
    (d.0, d.1, d.2, λ e h q b. may_rest right low few t e h (b ∙ d.3)),
  )
  tells right low few (a_verdict.Without (Some i)) t = record {
    one = inr record {
      next = own.next;
      sought = t.stands.sought;
      within = within (a_verdict.Without (Some i)) t;
      each = λ k js c. let r = t.verdict.0 k js c.0 c.1 in either_way js r.0 r.1;
      one = let r = t.verdict.1 in (r.0, r.1, (r.2, r.3), one.0, not_lacking n seen w o own known t.stands r.1 r.5);
    };
    below = one.1;
    alone = λ a. one.2 (still_alone v seen (look_only v own.message (record { cell = Pending; next = own.next })) a);
  }
    where
      one : IsHeldUp seen w o own.method t.verdict.1.1 i × (i < n) × (IsAloneDesk seen → ⊥)
      one = held_up n seen w o own known t.stands t.verdict.1.1 i t.verdict.1.4

      either_way : (js : List ℕ) (b : Option ℕ) → IsStuck own js known b → IsLacking seen w o own.method js ⊎ ((x : ℕ) × IsHeldUp seen w o own.method js x)
      either_way js None s = inl (lacking n seen w o own known t.stands js s)
      either_way js (Some x) s = inr (x, (held_up n seen w o own known t.stands js x s).0)

-- what the verdict says where m was read pending, and from then on the chords of its object were gone through
pub told_through : (n : ℕ) (p : Program) (v u w : View) (o : Object) (m method : ℕ) (c : Word) (jss : List (List ℕ)) (ms : List ℕ) (xs : List (Option ℕ)) (t : Verdict)
    → ChordsAreRight p → o.number < 65536 → method < 16 → jss ≡ p.chords o.class → IsLook n v u m c → c.cell ≡ Pending → m < n → (d : Duty) × HasDuty d v.duties × (d.message ≡ m) × (d.bag ≡ key o method)
    → ((z : View) → Searching n z u o (record { message = m; method = method; next = c.next }) (replicate 16 None) → (known : List (Option Sought)) × IsThrough n z w o (record { message = m; method = method; next = c.next }) jss known ms xs t)
    → Tells n p v w o (record { message = m; method = method; next = c.next }) ms xs t
told_through n p v u w o m method c jss ms xs t right low few same look pending below duty goes =
    let own : Own = record { message = m; method = method; next = c.next } in
    let read = subst (λ (z : Cell). IsLook n v u m (record { cell = z; next = c.next })) pending look in
    let went = goes u (stands_read n v u o own read below duty) in
    tells n p v w o own went.0 ms xs right low few t
    (subst (λ (z : View × List (List ℕ)). IsThrough n z.0 w o own z.1 went.0 ms xs t) (λ i. (read.looked i, same i)) went.1)
