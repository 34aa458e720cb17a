-- One look after another.
use Rattle.std.proofs.Common.{◌≡◌, ◌≢◌, inl, inr, ℕ, suc, ◌+◌, ◌<◌, ◌≤◌, Bool, true, false, ◌||◌, List, [], ◌∷◌, ◌++◌, length, map, refl, sym, ap, ◌∙◌, subst, arith, Option, Some, None, IfSome, if◌then◌else◌}
use mathlib.Core.Path.{Path}
use Rattle.std.proofs.lemmas.Bool.{eq-eqb}
use Rattle.chord_word.specs.declared.cells.Cell.{Cell}
use Rattle.chord_word.specs.declared.cells.Cell.TheVariants.{Empty, Pending, Claimed, Consumed, Woken, Ready, Started}
use Rattle.chord_word.specs.declared.cells.Word.{Word}
use Rattle.chord_base.specs.declared.event.Entry.{Entry}
use Rattle.chord_base.specs.declared.event.Limits.{Limits}
use Rattle.chord_base.specs.declared.value.Value as value
use Rattle.chord_code.specs.declared.parts.Parts.{Parts}
use Rattle.chord_space.specs.declared.space.Space.{Space}
use Rattle.chord_space.specs.Desks.{space_code, space_limits, program_of}
use Rattle.chord_space.specs.Ruled.{LooksAtHead}
use Rattle.chord_rule.specs.declared.view.Duty.{Duty}
use Rattle.chord_rule.specs.declared.view.HeadLook.{HeadLook}
use Rattle.chord_rule.specs.declared.view.Look.{Look}
use Rattle.chord_rule.specs.declared.view.Looked.{Looked}
use Rattle.chord_rule.specs.declared.view.View.{View}
use Rattle.chord_rule.specs.declared.view.Way.{Way}
use Rattle.chord_rule.specs.Duties.{has_come_to, move_duty}
use Rattle.chord_rule.specs.Kinds.{is_down, looked_head, looked_cell, saw_head}
use Rattle.chord_rule.specs.Bags.{IsArmed, head_number}
use Rattle.chord_rule.specs.Heading.{WasHead}
use Rattle.chord_rule.specs.Looks.{LastHead}
use Rattle.chord_rule.specs.Tells.{IsLook}
use Rattle.chord_rule.specs.Ways.{way_onward, way_begun, gone_on, on_way, IsAt, IsLinkedCell, IsSettledCell, IsAloneDesk, HasWay, IsCutShort, HasLooksLeft, ReadsPast, WentPast}
use Rattle.chord_bag.specs.declared.walk.Sought.{Sought}
use Rattle.chord_bag.specs.declared.walk.Sought.TheVariants.{Found, Bare, Busy}
use Rattle.chord_bag.specs.declared.walk.Turn.{Turn}
use Rattle.chord_bag.specs.declared.walk.Turn.TheVariants.{Over, On, Past}
use Rattle.chord_bag.specs.Reads.{AllAt, AllRead, HasRead, KeepsEnds, IsOnlyLooks, with_looks, is_claimed, is_passed, after_cell, messages_and_bags}
use Rattle.chord_bag.specs.Seeking.{IsSought, IsReadUnconsumed, IsTidy, KeepsHeads, HasFewHeads, BeganAtHead, newest_linked, newest_looks}
use Rattle.chord_bag.specs.Walking.{Going, IsGoing, IsTurn, PassesConsumed, IsAtHead, ComesToTurn, gone_so_far}
use Rattle.chord_bag.proofs.Walks.{all_start, all_move, head_keeps, cell_keeps, keeps_on, head_keeps_messages, cell_keeps_messages}

-- what comes after a look that read this cell
abbrev pub by_cell : ℕ → Option ℕ → Option ℕ → Cell → Turn
by_cell i busy next Pending = Over (Found i next)
by_cell i busy next Empty = Over (Busy i)
by_cell i busy next Claimed = On next (Some i)
by_cell i busy next Consumed = Past next
by_cell i busy next _ = On next busy

-- the answer of a whole way without a pending message
abbrev pub seek_ended : Option ℕ → Sought
seek_ended None = Bare
seek_ended (Some i) = Busy i

-- the newest way has come to i, and goes on
went : (i : ℕ) (c : Word) (vs : List Way) (x : Way) (ws : List Way) → vs ≡ x ∷ ws → x.place ≡ Some i → on_way i c vs ≡ gone_on x i c ∷ ws
went i c vs x ws e a = ap (on_way i c) e ∙ ap (λ (y : Way). y ∷ ws) here
  where
    t : has_come_to i x.place ≡ true
    t = ap (has_come_to i) a ∙ eq-eqb i i refl

    here : (if has_come_to i x.place then gone_on x i c else x) ≡ gone_on x i c
    here = rw t refl

-- looks change only looks and walks
pub only_more : (v u : View) (ds : List Duty) (l : Looked) → IsOnlyLooks v u → messages_and_bags ds ≡ messages_and_bags u.duties → IsOnlyLooks v (with_looks u ds l)
only_more v u ds l o e = record { frame = ap (λ (z : View). with_looks z ds l) o.frame; duties = e ∙ o.duties }

-- a desk that was alone before looks still is
pub still_alone : (v u : View) → IsOnlyLooks v u → IsAloneDesk v → IsAloneDesk u
still_alone v u o a = record { first = ap (λ (z : View). z.first) o.frame ∙ a.first; lent = ap (λ (z : View). z.lent) o.frame ∙ a.lent; claims = ap (λ (z : View). z.claims) o.frame ∙ a.claims; flight = ap (λ (z : View). z.flight) o.frame ∙ a.flight }

module _ (n k : ℕ) (v u : View) (i : ℕ) (busy : Option ℕ) (s : Going n k v u (Some i) busy) where
  -- the way is the newest one
  more : (c : Word) → (looked_cell u i c).looked.ways ≡ gone_on s.way i c ∷ v.looked.ways
  more c = went i c u.looked.ways s.way v.looked.ways s.more s.at

  -- what it read was seen
  seen : (c : Word) → (looked_cell u i c).looked.seen ≡ (gone_on s.way i c).looks ++ v.looked.seen
  seen c = ap (λ (ls : List Look). record { number = i; word = c } ∷ ls) s.seen

  -- the ends of other bags are left
  others : (c : Word) → KeepsEnds k v.duties (looked_cell u i c).duties
  others c = keeps_on k k v.duties u.duties (after_cell i c u.duties) refl s.others (cell_keeps k i c u.duties)

  -- looks and walks alone change
  only : (c : Word) → IsOnlyLooks v (looked_cell u i c)
  only c = only_more v u (after_cell i c u.duties) (looked_cell u i c).looked s.only (cell_keeps_messages i c u.duties)

  -- the heads are left
  heads : (w : View) → w.looked.heads ≡ u.looked.heads → HasFewHeads (suc (length s.way.looks) + 1) v w
  heads w same = let few = s.heads.2 in (s.heads.0, same ∙ s.heads.1, omega (arith, few))

  -- the message to which the walk has come is below n
  pub low : i < n
  low = (s.room s.way v.looked.ways s.more i s.at).0

  -- the walk goes past what is down
  down : (next : Option ℕ) (c : Cell) → is_down c ≡ true → way_onward c next ≡ next → (w : View) → w ≡ looked_cell u i (record { cell = c; next = next }) → w.duties ≡ map (move_duty i next) u.duties → HasLooksLeft n w.looked.ways → Going n k v w next busy
  down next c d e w is moved room = record {
    way = gone_on s.way i word;
    more = ap (λ (z : View). z.looked.ways) is ∙ more word;
    seen = ap (λ (z : View). z.looked.seen) is ∙ seen word;
    bag = s.bag;
    at = e;
    passed = (ap (λ (b : Bool). b || is_claimed c) d, s.passed);
    going = on busy s.going;
    room = room;
    others = subst (λ (z : View). KeepsEnds k v.duties z.duties) (sym is) (others word);
    only = subst (λ (z : View). IsOnlyLooks v z) (sym is) (only word);
    heads = heads w (ap (λ (z : View). z.looked.heads) is);
    alone = s.alone;
  }
    where
      word : Word
      word = record { cell = c; next = next }

      on : (b : Option ℕ) → IsGoing n s.way u.duties b → IsGoing n (gone_on s.way i word) w.duties b
      on None g = ((d, g.0), subst (λ (z : Option ℕ). AllAt s.way.bag z w.duties) (sym e) (subst (λ (z : List Duty). AllAt s.way.bag next z) (sym moved) (all_move s.way.bag i next u.duties (subst (λ (z : Option ℕ). AllAt s.way.bag z u.duties) s.at g.1))))
      on (Some j) g = (inr g.0, g.1)

  -- what comes after a look that read this cell
  pub seek_turned : (next : Option ℕ) (c : Cell) → IsLinkedCell c → (IsArmed c → (x : ℕ) → next ≡ Some x → x < n) → (IsAloneDesk u → IsSettledCell c) → HasLooksLeft n (looked_cell u i (record { cell = c; next = next })).looked.ways
      → ComesToTurn n k v (looked_cell u i (record { cell = c; next = next })) busy (by_cell i busy next c)
  seek_turned next Pending l inside a room = let c : Word = record { cell = Pending; next = next } in
      record { way = gone_on s.way i c; more = more c; seen = seen c; bag = s.bag; answer = (s.way.looks, refl, s.passed); below = (low, inside tt); walked = tt; others = others c; only = only c; heads = heads (looked_cell u i c) refl; alone = λ _. tt }
  seek_turned next Empty l inside a room = let c : Word = record { cell = Empty; next = next } in
      record { way = gone_on s.way i c; more = more c; seen = seen c; bag = s.bag; answer = inl (next, (s.way.looks, refl, s.passed)); below = low; walked = tt; others = others c; only = only c; heads = heads (looked_cell u i c) refl; alone = λ q. a (still_alone v u s.only q) }
  seek_turned next Claimed l inside a room = let c : Word = record { cell = Claimed; next = next } in
      record { way = gone_on s.way i c; more = more c; seen = seen c; bag = s.bag; at = refl; passed = (refl, s.passed); going = (inl (refl, refl), low); room = room; others = others c; only = only c; heads = heads (looked_cell u i c) refl; alone = λ q. absurd (a (still_alone v u s.only q)) }
  seek_turned next Consumed l inside a room = down next Consumed refl refl (looked_cell u i (record { cell = Consumed; next = next })) refl refl room
  seek_turned next (Woken q) l inside a room = down next (Woken q) refl refl (looked_cell u i (record { cell = Woken q; next = next })) refl refl room
  seek_turned next Ready l inside a room = absurd l
  seek_turned next Started l inside a room = absurd l

  -- the way is longer by one look
  pub longer : (c : Word) → gone_so_far (looked_cell u i c).looked.ways ≡ gone_so_far u.looked.ways + 1
  longer c = let e = ap gone_so_far (more c) in let f = ap gone_so_far s.more in omega (arith, e, f)

  -- there is room for the look
  pub room_left : gone_so_far u.looked.ways < n
  room_left = let r = (s.room s.way v.looked.ways s.more i s.at).1 in let f = ap gone_so_far s.more in omega (arith, r, f)

-- a look at a cell leaves what had been linked when the head was read
same_linked : (i : ℕ) (c : Word) (ws : List Way) → newest_linked (on_way i c ws) ≡ newest_linked ws
same_linked i c [] = refl
same_linked i c (w ∷ ws) = cases (has_come_to i w.place)
  where
    cases : (b : Bool) → (if b then gone_on w i c else w).linked ≡ w.linked
    cases true = refl
    cases false = refl

-- a look at the message to which the newest way has come is the newest one on it
one_look_more : (i : ℕ) (c : Word) (ws : List Way) → IsAt i ws → newest_looks (on_way i c ws) ≡ record { number = i; word = c } ∷ newest_looks ws
one_look_more i c [] at = absurd at
one_look_more i c (w ∷ ws) at = let t : has_come_to i w.place ≡ true = ap (has_come_to i) at ∙ eq-eqb i i refl in ap (λ (b : Bool). (if b then gone_on w i c else w).looks) t

-- what comes after a consumed cell is the step past it
passes_consumed : (i : ℕ) (busy next : Option ℕ) (c : Cell) → PassesConsumed (by_cell i busy next c) c
passes_consumed i busy next Pending = λ e. cc
passes_consumed i busy next Empty = λ e. cc
passes_consumed i busy next Claimed = λ e. cc
passes_consumed i busy next Consumed = tt
passes_consumed i busy next (Woken q) = λ e. cc
passes_consumed i busy next Ready = λ e. cc
passes_consumed i busy next Started = λ e. cc

-- past a consumed message
consumed_past : (i : ℕ) (busy : Option ℕ) (word : Word) (next : Option ℕ) (u : View) → IsAt i u.looked.ways → (c : Cell) → by_cell i busy word.next c ≡ Past next → word.cell ≡ c → WentPast (looked_cell u i word) i next
consumed_past i busy word next u at Consumed e is = newest u.looked.ways at
  where
    next_is : word.next ≡ next
    next_is = cc

    newest : (ws : List Way) → IsAt i ws → (w : Way) × HasWay w (on_way i word ws) × (w.place ≡ next) × ReadsPast i w.looks
    newest [] t = absurd t
    newest (w ∷ ws) t = let t' : has_come_to i w.place ≡ true = ap (has_come_to i) t ∙ eq-eqb i i refl in
        (gone_on w i word, inl (sym (ap (λ (b : Bool). if b then gone_on w i word else w) t')), ap (λ (z : Cell). way_onward z word.next) is ∙ next_is, (is, inl refl))
consumed_past i busy word next u at Pending e is = absurd (let z : Over (Found i word.next) ≡ Past next = e in cc)
consumed_past i busy word next u at Empty e is = absurd (let z : Over (Busy i) ≡ Past next = e in cc)
consumed_past i busy word next u at Claimed e is = absurd (let z : On word.next (Some i) ≡ Past next = e in cc)
consumed_past i busy word next u at (Woken q) e is = absurd (let z : On word.next busy ≡ Past next = e in cc)
consumed_past i busy word next u at Ready e is = absurd (let z : On word.next busy ≡ Past next = e in cc)
consumed_past i busy word next u at Started e is = absurd (let z : On word.next busy ≡ Past next = e in cc)

-- a look that read this cell, whatever walk had come there
pub one_turn : (n i : ℕ) (busy : Option ℕ) (word : Word) (u w : View) (c : Cell) → IsLook n u w i word → word.cell ≡ c → IsTurn n u w i busy (by_cell i busy word.next c)
one_turn n i busy word u w c look is = subst (λ (z : View). IsTurn n u z i busy (by_cell i busy word.next c)) (sym look.looked) (subst (λ (z : Cell). IsTurn n u (looked_cell u i word) i busy (by_cell i busy word.next z)) is record {
  comes = λ k v s. let at : IsAt i u.looked.ways = subst (λ (ws : List Way). IsAt i ws) (sym s.more) s.at in
      seek_turned n k v u i busy s word.next word.cell (look.linked at) look.within (λ a. look.alone a (inl at)) (subst (λ (z : View). HasLooksLeft n z.looked.ways) look.looked look.room);
  longer = λ k v s. longer n k v u i busy s word;
  linked = same_linked i word u.looked.ways;
  heads = refl;
  read = λ at. (word, one_look_more i word u.looked.ways at, passes_consumed i busy word.next word.cell);
  past = λ next e at. consumed_past i busy word next u at word.cell e refl;
})

-- past a cell that is neither pending, unarmed, claimed nor consumed the walk goes on
pub goes_past : (i : ℕ) (busy next : Option ℕ) (c : Cell) → c ≢ Pending → c ≢ Empty → c ≢ Claimed → c ≢ Consumed → by_cell i busy next c ≡ On next busy
goes_past i busy next Pending a b d e = absurd (a refl)
goes_past i busy next Empty a b d e = absurd (b refl)
goes_past i busy next Claimed a b d e = absurd (d refl)
goes_past i busy next Consumed a b d e = absurd (e refl)
goes_past i busy next (Woken q) a b d e = refl
goes_past i busy next Ready a b d e = refl
goes_past i busy next Started a b d e = refl

-- a look at a head begins a way
pub seek_starts : (n k : ℕ) (v w : View) (linked : List ℕ) (head : Option ℕ) → w ≡ looked_head v k linked head → HasLooksLeft n w.looked.ways → Going n k v w head None
seek_starts n k v w linked head is room = subst (λ (z : View). Going n k v z head None) (sym is) record {
  way = way_begun k linked head;
  more = refl;
  seen = refl;
  bag = refl;
  at = refl;
  passed = tt;
  going = (tt, all_start k head v.duties);
  room = subst (λ (z : View). HasLooksLeft n z.looked.ways) is room;
  others = head_keeps k head v.duties;
  only = record { frame = refl; duties = head_keeps_messages k head v.duties };
  heads = (record { head = head_number k; message = head } ∷ [], refl, one);
  alone = λ _. refl;
}
  where
    one : 1 ≤ 0 + 1
    one = omega arith

-- where each look read a cell that is passed, the way was not cut short
passed_whole : (ls : List Look) → AllRead is_passed ls → IsCutShort ls → ⊥
passed_whole [] a s = s
passed_whole (l ∷ ls) a s = let z : true ≡ false = sym a.0 ∙ ap is_passed s in absurd (cc)

-- the message to which a walk has come is a number of the table
pub place_below : (n k : ℕ) (v u : View) (place busy : Option ℕ) → Going n k v u place busy → IfSome place (λ x. x < n)
place_below n k v u place busy s = below place s.at
  where
    below : (p : Option ℕ) → s.way.place ≡ p → IfSome p (λ x. x < n)
    below None e = tt
    below (Some x) e = (s.room s.way v.looked.ways s.more x e).0

-- a walk has come to the message at its place
pub walk_at : (n k : ℕ) (v u : View) (i : ℕ) (busy : Option ℕ) → Going n k v u (Some i) busy → IsAt i u.looked.ways
walk_at n k v u i busy s = subst (λ (ws : List Way). IsAt i ws) (sym s.more) s.at

-- behind a look a head may be read or written
pub head_left : (n k : ℕ) (v u w : View) (i : ℕ) (place busy : Option ℕ) (s : Going n k v u (Some i) busy) (t : Going n k v w place busy) → w.looked.heads ≡ u.looked.heads → gone_so_far w.looked.ways ≡ gone_so_far u.looked.ways + 1 → HasFewHeads (length t.way.looks) v w
head_left n k v u w i place busy s t same longer =
    let few = s.heads.2 in
    let before : gone_so_far u.looked.ways ≡ length s.way.looks = ap gone_so_far s.more in
    let after : gone_so_far w.looked.ways ≡ length t.way.looks = ap gone_so_far t.more in
    (s.heads.0, same ∙ s.heads.1, omega (arith, few, before, after, longer))

-- what is read of a head leaves a walk as it is
pub head_read : (n k : ℕ) (v u : View) (place busy : Option ℕ) (head : ℕ) (h : Option ℕ) (s : Going n k v u place busy) → HasFewHeads (length s.way.looks) v u → Going n k v (saw_head u head h) place busy
head_read n k v u place busy head h s few = record {
  way = s.way;
  more = s.more;
  seen = s.seen;
  bag = s.bag;
  at = s.at;
  passed = s.passed;
  going = going busy s.going;
  room = s.room;
  others = s.others;
  only = only_more v u u.duties (saw_head u head h).looked s.only refl;
  heads = (record { head = head; message = h } ∷ few.0, ap (λ (hs : List HeadLook). record { head = head; message = h } ∷ hs) few.1, one_more);
  alone = s.alone;
}
  where
    one_more : suc (length few.0) ≤ length s.way.looks + 1
    one_more = let fits = few.2 in omega (arith, fits)

    going : (b : Option ℕ) → IsGoing n s.way u.duties b → IsGoing n s.way (saw_head u head h).duties b
    going None g = g
    going (Some i) g = g

-- what was read, and not consumed, stays so with one look more
still_unconsumed : (ws xs : List Way) (l : Look) (i : ℕ) → newest_looks xs ≡ l ∷ newest_looks ws → IsReadUnconsumed ws i → IsReadUnconsumed xs i
still_unconsumed ws xs l i more m = (m.0, m.1, subst (HasRead i m.0) (sym more) (inr m.2))

-- a tidy bag stays so with looks at its cells
pub still_tidy : (k : ℕ) (u w : View) (l : Look) → w.looked.heads ≡ u.looked.heads → newest_looks w.looked.ways ≡ l ∷ newest_looks u.looked.ways → IsTidy k u → IsTidy k w
still_tidy k u w l heads more t = (t.0, subst (LastHead (head_number k) t.0) (sym heads) t.1, kept t.0 t.2)
  where
    kept : (h : Option ℕ) → IfSome h (IsReadUnconsumed u.looked.ways) → IfSome h (IsReadUnconsumed w.looked.ways)
    kept None s = tt
    kept (Some i) s = still_unconsumed u.looked.ways w.looked.ways l i more s

-- a bag whose head leads to a message that was just read, and not consumed, is tidy
tidy_here : (k i : ℕ) (u w : View) (word : Word) → w.looked.heads ≡ u.looked.heads → newest_looks w.looked.ways ≡ record { number = i; word = word } ∷ newest_looks u.looked.ways → word.cell ≢ Consumed
    → (place : Option ℕ) → place ≡ Some i → LastHead (head_number k) place u.looked.heads → IsTidy k w
tidy_here k i u w word heads more unconsumed place is last = (
  Some i,
  subst (LastHead (head_number k) (Some i)) (sym heads) (subst (λ (x : Option ℕ). LastHead (head_number k) x u.looked.heads) is last),
  (word.cell, unconsumed, subst (HasRead i word.cell) (sym more) (inl (refl, refl))),
)

-- a walk behind a message that was read, and not consumed, leaves a tidy bag
pub tidy_behind : (k n i : ℕ) (busy place : Option ℕ) (at_head : Bool) (u w : View) (t : Turn) → IsTurn n u w i busy t → IsAt i u.looked.ways → place ≡ Some i → ((word : Word) → PassesConsumed t word.cell → word.cell ≢ Consumed)
    → IsAtHead k u place at_head → IsTidy k w
tidy_behind k n i busy place true u w t turn at is unconsumed last = let r = turn.read at in tidy_here k i u w r.0 turn.heads r.1 (unconsumed r.0 r.2) place is last
tidy_behind k n i busy place false u w t turn at is unconsumed tidy = let r = turn.read at in still_tidy k u w (record { number = i; word = r.0 }) turn.heads r.1 tidy

-- a bag whose head leads nowhere is tidy
pub tidy_at_end : (k : ℕ) (v : View) (at_head : Bool) (place : Option ℕ) → place ≡ None → IsAtHead k v place at_head → IsTidy k v
tidy_at_end k v true place is last = (None, subst (λ (x : Option ℕ). LastHead (head_number k) x v.looked.heads) is last, tt)
tidy_at_end k v false place is tidy = tidy

-- a look at the head of the bag leaves the other heads
pub begun_keeps_heads : (k : ℕ) (v w : View) (linked : List ℕ) (head : Option ℕ) → w ≡ looked_head v k linked head → KeepsHeads k v w
begun_keeps_heads k v w linked head is = λ q h ne last. subst (λ (z : View). LastHead q h z.looked.heads) (sym is) (inr (ne, last))

-- so do looks at cells
pub still_keeps_heads : (k : ℕ) (v u w : View) → w.looked.heads ≡ u.looked.heads → KeepsHeads k v u → KeepsHeads k v w
still_keeps_heads k v u w heads kept = λ q h ne last. subst (LastHead q h) (sym heads) (kept q h ne last)

-- and what is read or written of the bag's own head
pub own_keeps_heads : (k : ℕ) (v u w : View) (head : Option ℕ) → w ≡ saw_head u (head_number k) head → KeepsHeads k v u → KeepsHeads k v w
own_keeps_heads k v u w head is kept = λ q h ne last. subst (λ (z : View). LastHead q h z.looked.heads) (sym is) (inr (ne, kept q h ne last))

-- a walk that has come to its end
pub walk_ended : (n k : ℕ) (v w : View) (busy : Option ℕ) → Going n k v w None busy → IsSought n k v w (seek_ended busy)
walk_ended n k v w None s = record { way = s.way; more = s.more; seen = s.seen; bag = s.bag; answer = ((s.at, passed_whole s.way.looks s.passed), s.going.0); below = tt; walked = subst (λ (z : ℕ). AllAt z None w.duties) s.bag (subst (λ (z : Option ℕ). AllAt s.way.bag z w.duties) s.at s.going.1); others = s.others; only = s.only; heads = s.heads; alone = λ _. tt }
walk_ended n k v w (Some i) s = record { way = s.way; more = s.more; seen = s.seen; bag = s.bag; answer = inr ((s.at, passed_whole s.way.looks s.passed), s.passed, s.going.0); below = s.going.1; walked = tt; others = s.others; only = s.only; heads = s.heads; alone = λ a. let e : Path (Option ℕ) (Some i) None = s.alone a in absurd (cc) }

module _ {P : Type 0} (entries : P → List Entry) (arguments : P → List value.Value) (keeps_to : P → Parts → Limits → Type 0) (space : Space P) where
  -- a look at a head begins the newest way
  pub head_began : (v w : View) (k : ℕ) (h : Option ℕ) → LooksAtHead entries arguments keeps_to (space_code space) (space_limits space) v w k h → BeganAtHead entries arguments keeps_to space v w k
  head_began v w k h l = subst (λ (z : View). BeganAtHead entries arguments keeps_to space v z k) (sym l.is) (h, l.moment)

  -- looks at cells leave how it began
  pub still_began : (v u w : View) (k : ℕ) → newest_linked w.looked.ways ≡ newest_linked u.looked.ways → BeganAtHead entries arguments keeps_to space v u k → BeganAtHead entries arguments keeps_to space v w k
  still_began v u w k same b = (b.0, subst (WasHead entries arguments (λ q. keeps_to q (space_code space) (space_limits space)) (program_of space) (space_limits space).events v (head_number k) b.0) (sym same) b.1)
