-- What was read and answered stays so while the desk looks on.
use Rattle.std.proofs.Common.{◌≡◌, ◌≢◌, inl, inr, ℕ, ◌<◌, false, true, List, [], ◌∷◌, ◌++◌, append_assoc, refl, sym, ap, ◌∙◌, subst, arith, Option, Some, None, IfSome}
use Rattle.std.proofs.lemmas.Bool.{eq-eqb}
use Rattle.chord_base.specs.Meaning.{Program}
use Rattle.chord_base.specs.Messages.{has, AreDifferent}
use Rattle.chord_base.specs.declared.value.Object.{Object}
use Rattle.chord_base.proofs.Pending.{has_more}
use Rattle.chord_word.specs.declared.cells.Cell.{Cell}
use Rattle.chord_word.specs.declared.cells.Cell.TheVariants.{Pending, Claimed, Consumed}
use Rattle.chord_word.specs.declared.cells.Word.{Word}
use Rattle.chord_rule.specs.declared.view.Duty.{Duty}
use Rattle.chord_rule.specs.declared.view.Look.{Look}
use Rattle.chord_rule.specs.declared.view.View.{View}
use Rattle.chord_rule.specs.declared.view.Way.{Way}
use Rattle.chord_rule.specs.Duties.{HasDuty}
use Rattle.chord_rule.specs.Kinds.{is_down}
use Rattle.chord_rule.specs.Bags.{head_number}
use Rattle.chord_rule.specs.Looks.{HasLook, HasSeen, LastHead}
use Rattle.chord_rule.specs.Made.{key}
use Rattle.chord_rule.specs.Ways.{HasWay, WasRead, KnowsBag, KnowsObject, LastSeen}
use Rattle.chord_bag.specs.declared.walk.Sought.{Sought}
use Rattle.chord_bag.specs.declared.walk.Sought.TheVariants.{Found, Bare, Busy}
use Rattle.chord_bag.specs.Reads.{HasRead, AllRead, with_looks, messages_and_bags}
use Rattle.chord_bag.specs.Seeking.{IsReadUnconsumed, IsBare, IsSoughtAnswer, IsSought, IsTidy, KeepsHeads, newest_looks}
use Rattle.chord_match.specs.Seen.{bags_of, Grows, IsLeftTidy, Answered, MayBeClaimed, MayAllBeClaimed, AreSeen, IsMember}

-- a way that was gone before is still one
pub has_way_right : (x : Way) (us vs : List Way) → HasWay x vs → HasWay x (us ++ vs)
has_way_right x [] vs h = h
has_way_right x (a ∷ us) vs h = inr (has_way_right x us vs h)

-- the bag of a way is among the bags of all
pub way_has : (x : Way) (ws : List Way) → HasWay x ws → has x.bag (bags_of ws) ≡ true
way_has x [] h = absurd h
way_has x (w ∷ ws) (inl e) = rw (eq-eqb x.bag w.bag (ap (λ (z : Way). z.bag) e)) refl
way_has x (w ∷ ws) (inr h) = has_more x.bag w.bag (bags_of ws) (way_has x ws h)

-- where no bag was sought twice, one bag has one way
pub one_way : (x y : Way) (ws : List Way) → AreDifferent (bags_of ws) → HasWay x ws → HasWay y ws → x.bag ≡ y.bag → x ≡ y
one_way x y [] d h g e = absurd h
one_way x y (w ∷ ws) d (inl a) (inl b) e = a ∙ sym b
one_way x y (w ∷ ws) d (inl a) (inr b) e = let z : false ≡ true = sym d.0 ∙ ap (λ (k : ℕ). has k (bags_of ws)) (sym (ap (λ (r : Way). r.bag) a) ∙ e) ∙ way_has y ws b in absurd (cc)
one_way x y (w ∷ ws) d (inr a) (inl b) e = let z : false ≡ true = sym d.0 ∙ ap (λ (k : ℕ). has k (bags_of ws)) (sym (ap (λ (r : Way). r.bag) b) ∙ sym e) ∙ way_has x ws a in absurd (cc)
one_way x y (w ∷ ws) d (inr a) (inr b) e = one_way x y ws d.1 a b e

-- where all that was read was down, nothing was read claimed
none_claimed : (i : ℕ) (ls : List Look) → AllRead is_down ls → HasRead i Claimed ls → ⊥
none_claimed i [] d h = absurd h
none_claimed i (l ∷ ls) d (inl q) = let z : false ≡ true = subst (λ (c : Cell). is_down c ≡ true) q.1 d.0 in absurd (cc)
none_claimed i (l ∷ ls) d (inr h) = none_claimed i ls d.1 h

-- a way that shows its bag bare shows nothing else
pub only_bare : (x : Way) (s : Sought) → IsBare x → IsSoughtAnswer x s → s ≡ Bare
only_bare x Bare b a = refl
only_bare x (Found i next) b a = let t = subst (AllRead is_down) a.1 b.1 in let z : false ≡ true = t.0 in absurd (cc)
only_bare x (Busy i) b (inl a) = let t = subst (AllRead is_down) a.1.1 b.1 in let z : false ≡ true = t.0 in absurd (cc)
only_bare x (Busy i) b (inr a) = absurd (none_claimed i x.looks b.1 a.2)

-- a look that was made before is still one
pub has_look_right : (i : ℕ) (c : Word) (us vs : List Look) → HasLook i c vs → HasLook i c (us ++ vs)
has_look_right i c [] vs h = h
has_look_right i c (a ∷ us) vs h = inr (has_look_right i c us vs h)

-- a newer look is one of all
pub has_look_left : (i : ℕ) (c : Word) (us vs : List Look) → HasLook i c us → HasLook i c (us ++ vs)
has_look_left i c [] vs h = absurd h
has_look_left i c (a ∷ us) vs (inl q) = inl q
has_look_left i c (a ∷ us) vs (inr h) = inr (has_look_left i c us vs h)

-- what a newer look read last, all read last
pub last_seen_left : (i : ℕ) (c : Word) (us vs : List Look) → LastSeen i c us → LastSeen i c (us ++ vs)
last_seen_left i c [] vs h = absurd h
last_seen_left i c (a ∷ us) vs (inl q) = inl q
last_seen_left i c (a ∷ us) vs (inr h) = inr (h.0, last_seen_left i c us vs h.1)

-- a duty has its message and its bag for good
pub duty_is_kept : (d : Duty) (ds es : List Duty) → messages_and_bags es ≡ messages_and_bags ds → HasDuty d ds → (e : Duty) × HasDuty e es × (e.message ≡ d.message) × (e.bag ≡ d.bag)
duty_is_kept d [] es n h = absurd h
duty_is_kept d (x ∷ ds) [] n h = let z : ◌≡◌ {A = List (ℕ × ℕ)} [] ((x.message, x.bag) ∷ messages_and_bags ds) = n in absurd (cc)
duty_is_kept d (x ∷ ds) (y ∷ es) n (inl q) = let p : ◌≡◌ {A = ℕ × ℕ} (y.message, y.bag) (x.message, x.bag) = cc in
    (y, inl refl, ap (λ (z : ℕ × ℕ). z.0) p ∙ sym (ap (λ (z : Duty). z.message) q), ap (λ (z : ℕ × ℕ). z.1) p ∙ sym (ap (λ (z : Duty). z.bag) q))
duty_is_kept d (x ∷ ds) (y ∷ es) n (inr h) = let p : ◌≡◌ {A = List (ℕ × ℕ)} (messages_and_bags es) (messages_and_bags ds) = cc in let r = duty_is_kept d ds es p h in (r.0, inr r.1, r.2, r.3)

-- where nothing was done, nothing is new
pub grows_refl : (v : View) → Grows v v
grows_refl v = record { ways = []; looks = []; more_ways = refl; more_seen = refl; only = record { frame = refl; duties = refl } }

-- what was read and then read on was read
abbrev pub grows_trans : (u v w : View) → Grows u v → Grows v w → Grows u w
grows_trans u v w a b = record {
  ways = b.ways ++ a.ways;
  looks = b.looks ++ a.looks;
  more_ways = b.more_ways ∙ ap (λ (z : List Way). b.ways ++ z) a.more_ways ∙ sym (append_assoc b.ways a.ways u.looked.ways);
  more_seen = b.more_seen ∙ ap (λ (z : List Look). b.looks ++ z) a.more_seen ∙ sym (append_assoc b.looks a.looks u.looked.seen);
  only = record { frame = b.only.frame ∙ ap (λ (z : View). with_looks z w.duties w.looked) a.only.frame; duties = b.only.duties ∙ a.only.duties };
}

-- a seek makes looks and a way alone
abbrev pub sought_grows : (n k : ℕ) (v w : View) (s : Sought) → IsSought n k v w s → Grows v w
sought_grows n k v w s f = record { ways = f.way ∷ []; looks = f.way.looks; more_ways = f.more; more_seen = f.seen; only = f.only }

module _ (v u w : View) (g : Grows u w) where
  -- an answer stays given
  pub answered_on : (k : ℕ) (s : Sought) → Answered v u k s → Answered v w k s
  answered_on k s a = (a.0, g.ways ++ a.1, g.more_ways ∙ ap (λ (z : List Way). g.ways ++ z) a.2 ∙ sym (append_assoc g.ways a.1 v.looked.ways), has_way_right a.0 g.ways a.1 a.3, a.4, a.5)

  -- what was seen was seen
  pub seen_on : (i : ℕ) (next : Option ℕ) → HasSeen u i next → HasSeen w i next
  seen_on i next a = (a.0, subst (λ (z : List Look). HasLook i a.0 z) (sym g.more_seen) (has_look_right i a.0 g.looks u.looked.seen a.1), a.2, a.3)

  -- a duty stays, with its bag
  pub duty_on : (i k : ℕ) → (d : Duty) × HasDuty d u.duties × (d.message ≡ i) × (d.bag ≡ k) → (d : Duty) × HasDuty d w.duties × (d.message ≡ i) × (d.bag ≡ k)
  duty_on i k t = let r = duty_is_kept t.0 u.duties w.duties g.only.duties t.1 in (r.0, r.1, r.2 ∙ t.2, r.3 ∙ t.3)

  -- what bag a message is in stays known
  pub knows_on : (i k : ℕ) → KnowsBag u i k → KnowsBag w i k
  knows_on i k (inl t) = inl (t.0, subst (λ (z : List Way). HasWay t.0 z) (sym g.more_ways) (has_way_right t.0 g.ways u.looked.ways t.1), t.2, t.3)
  knows_on i k (inr t) = inr (duty_on i k t)

  -- a member that may be claimed still may
  pub ready_on : (n : ℕ) (o : Object) (j i : ℕ) (next : Option ℕ) → MayBeClaimed n u o j i next → MayBeClaimed n w o j i next
  ready_on n o j i next r = record { seen = seen_on i next r.seen; known = knows_on i (key o j) r.known; below = r.below; next_below = r.next_below }

  -- and all of them
  pub all_ready_on : (n : ℕ) (o : Object) (js ms : List ℕ) (xs : List (Option ℕ)) → MayAllBeClaimed n u o js ms xs → MayAllBeClaimed n w o js ms xs
  all_ready_on n o [] [] [] r = tt
  all_ready_on n o [] [] (x ∷ xs) r = absurd r
  all_ready_on n o [] (i ∷ is) xs r = absurd r
  all_ready_on n o (j ∷ js) [] xs r = absurd r
  all_ready_on n o (j ∷ js) (i ∷ is) [] r = absurd r
  all_ready_on n o (j ∷ js) (i ∷ is) (x ∷ xs) r = (ready_on n o j i x r.0, all_ready_on n o js is xs r.1)

  -- an object that is known stays so
  pub object_on : (o : Object) → KnowsObject u o → KnowsObject w o
  object_on o t = let r = duty_is_kept t.0 u.duties w.duties g.only.duties t.2 in (r.0, t.1, r.1, t.3, r.3 ∙ t.4)

  -- members of a chord that were seen were seen
  pub members_on : (n : ℕ) (p : Program) (o : Object) (chord : ℕ) (ms : List ℕ) (xs : List (Option ℕ)) → AreSeen n p u o chord ms xs → AreSeen n p w o chord ms xs
  members_on n p o chord ms xs s = record { methods = s.methods; is_chord = s.is_chord; ready = all_ready_on n o s.methods ms xs s.ready; object = object_on o s.object }

  -- a member stays one
  pub member_on : (o : Object) (m method : ℕ) (own : Option ℕ) (j i : ℕ) (next : Option ℕ) → IsMember v u o m method own j i next → IsMember v w o m method own j i next
  member_on o m method own j i next (inl t) = inl t
  member_on o m method own j i next (inr t) = inr (t.0, answered_on (key o j) (Found i next) t.1)

-- two methods of one object have two bags
pub key_cancels : (o : Object) (i j : ℕ) → key o i ≡ key o j → i ≡ j
key_cancels o i j e = omega (arith, e)

-- so they have two heads
pub head_cancels : (o : Object) (i j : ℕ) → i < 16 → j < 16 → head_number (key o i) ≡ head_number (key o j) → i ≡ j
head_cancels o i j a b e = omega (arith, a, b, e)

-- the newest way leaves its bag tidy where the bag is
pub newest_tidy : (n k : ℕ) (v w : View) (s : Sought) → (f : IsSought n k v w s) → IsTidy k w → IsLeftTidy w f.way
newest_tidy n k v w s f t = (t.0, subst (λ (z : ℕ). LastHead (head_number z) t.0 w.looked.heads) (sym f.bag) t.1, read t.0 t.2)
  where
    read : (h : Option ℕ) → IfSome h (IsReadUnconsumed w.looked.ways) → IfSome h (λ i. (c : Cell) × (c ≢ Consumed) × HasRead i c f.way.looks)
    read None r = tt
    read (Some i) r = (r.0, r.1, subst (HasRead i r.0) (ap newest_looks f.more) r.2)

-- a bag that was left tidy stays so where its head does
pub still_left_tidy : (k : ℕ) (u w : View) (x : Way) → KeepsHeads k u w → (head_number x.bag ≡ head_number k → ⊥) → IsLeftTidy u x → IsLeftTidy w x
still_left_tidy k u w x kept ne t = (t.0, kept (head_number x.bag) t.0 ne t.1, t.2)

-- what was found on the newest way was seen, and is known to be in its bag
pub found_ready : (n k : ℕ) (v w : View) (i : ℕ) (next : Option ℕ) → IsSought n k v w (Found i next) → HasSeen w i next × KnowsBag w i k
found_ready n k v w i next s = (
  (
    record { cell = Pending; next = next },
    subst (λ (z : List Look). HasLook i (record { cell = Pending; next = next }) z) (sym s.seen)
        (has_look_left i (record { cell = Pending; next = next }) s.way.looks v.looked.seen (subst (λ (z : List Look). HasLook i (record { cell = Pending; next = next }) z) (sym s.answer.1) (inl (refl, refl)))),
    tt,
    refl,
  ),
  inl (s.way, subst (λ (z : List Way). HasWay s.way z) (sym s.more) (inl refl), s.bag, subst (λ (z : List Look). WasRead i z) (sym s.answer.1) (inl refl)),
)

-- a seek gives an answer
pub answered : (n k : ℕ) (v u w : View) (s : Sought) → Grows v u → IsSought n k u w s → Answered v w k s
answered n k v u w s g f = (f.way, f.way ∷ g.ways, f.more ∙ ap (λ (z : List Way). f.way ∷ z) g.more_ways, inl refl, f.bag, f.answer)
