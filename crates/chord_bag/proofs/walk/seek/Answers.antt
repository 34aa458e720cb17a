use Rattle.std.proofs.Common.{inl, Bool, Some, None, ℕ, Option, refl, sym, ap, ◌∙◌, subst, arith}
use Rattle.chord_rule.specs.declared.view.View.{View}
use Rattle.chord_rule.specs.Bags.{head_number}
use Rattle.chord_rule.specs.Looks.{LastHead}
use Rattle.chord_rule.specs.Made.{key}
use Rattle.chord_space.specs.Desks.{view}
use Rattle.chord_bag.specs.declared.walk.Turn.{Turn}
use Rattle.chord_bag.specs.Seeking.{newest_linked}
use Rattle.chord_bag.specs.Walking.{Going, ComesToTurn, IsAtHead, PassesConsumed, gone_so_far}
use Rattle.chord_bag.proofs.Turning.{seek_starts, room_left, low, walk_ended, head_began, still_began, place_below, walk_at, head_left, head_read, still_alone, still_tidy, tidy_behind, tidy_at_end, begun_keeps_heads, still_keeps_heads, own_keeps_heads}
use Rattle.chord_bag.proofs.walk.seek.Goals as goal

pub loop-place-init : goal.loop-place-init
loop-place-init g c =
    let e = c.look_head-place.ensures in (
      e.desk.0 ∙ c.requires.desk,
      e.desk,
      seek_starts c.args.space.now.events (key c.args.object c.args.method) (view c.args.desk.now) (view c.look_head-place.new.desk) e.looked.linked c.look_head-place.result e.looked.is e.room,
      head_began g.P.Carry.entries g.P.Carry.arguments g.P.Carry.keeps_to c.args.space.now (view c.args.desk.now) (view c.look_head-place.new.desk) (key c.args.object c.args.method) c.look_head-place.result e.looked,
      (λ _. subst (λ (z : View). LastHead (head_number (key c.args.object c.args.method)) c.look_head-place.result z.looked.heads) (sym e.looked.is) (inl (refl, refl))),
      begun_keeps_heads (key c.args.object c.args.method) (view c.args.desk.now) (view c.look_head-place.new.desk) e.looked.linked c.look_head-place.result e.looked.is,
    )

pub look_on-requires-clause-bounds : goal.look_on-requires-clause-bounds
look_on-requires-clause-bounds g c =
    let k = key c.args.object c.args.method in let v = view c.args.desk.now in let u = view c.loop-place.desk in
    low c.args.space.now.events k v u c.in-Some.i c.loop-place.busy (subst (λ (x : Option ℕ). Going c.args.space.now.events k v u x c.loop-place.busy) c.in-Some.is c.loop-place.invariant.2)

pub loop-place-smaller-in-On : goal.loop-place-smaller-in-On
loop-place-smaller-in-On g c =
    let n = c.args.space.now.events in let k = key c.args.object c.args.method in let v = view c.args.desk.now in let u = view c.loop-place.desk in
    let s = subst (λ (x : Option ℕ). Going n k v u x c.loop-place.busy) c.in-Some.is c.loop-place.invariant.2 in
    let r = room_left n k v u c.in-Some.i c.loop-place.busy s in
    let l = c.look_on.ensures.turned.longer k v s in
    omega (arith, r, l)

pub loop-place-smaller : goal.loop-place-smaller
loop-place-smaller g c =
    let n = c.args.space.now.events in let k = key c.args.object c.args.method in let v = view c.args.desk.now in let u = view c.loop-place.desk in
    let s = subst (λ (x : Option ℕ). Going n k v u x c.loop-place.busy) c.in-Some.is c.loop-place.invariant.2 in
    let r = room_left n k v u c.in-Some.i c.loop-place.busy s in
    let l = c.look_on.ensures.turned.longer k v s in
    omega (arith, r, l)

pub loop-place-smaller-then-at_head : goal.loop-place-smaller-then-at_head
loop-place-smaller-then-at_head g c =
    let n = c.args.space.now.events in let k = key c.args.object c.args.method in let v = view c.args.desk.now in let u = view c.loop-place.desk in
    let s = subst (λ (x : Option ℕ). Going n k v u x c.loop-place.busy) c.in-Some.is c.loop-place.invariant.2 in
    let r = room_left n k v u c.in-Some.i c.loop-place.busy s in
    let l = c.look_on.ensures.turned.longer k v s in
    let same = ap (λ (z : View). gone_so_far z.looked.ways) c.tidy-at_head.ensures.looked.1 in
    omega (arith, r, l, same)

pub loop-place-preserved-in-On : goal.loop-place-preserved-in-On
loop-place-preserved-in-On g c =
    let n = c.args.space.now.events in let k = key c.args.object c.args.method in let v = view c.args.desk.now in let u = view c.loop-place.desk in
    let s = subst (λ (x : Option ℕ). Going n k v u x c.loop-place.busy) c.in-Some.is c.loop-place.invariant.2 in
    let i = c.loop-place.invariant in let e = c.look_on.ensures in (
      e.desk.0 ∙ i.0,
      (e.desk.0 ∙ i.1.0, e.desk.1 ∙ i.1.1),
      subst (λ (t : Turn). ComesToTurn n k v (view c.look_on.new.desk) c.loop-place.busy t) c.in-On.is (e.turned.comes k v s),
      still_began g.P.Carry.entries g.P.Carry.arguments g.P.Carry.keeps_to c.args.space.now v u (view c.look_on.new.desk) k e.turned.linked i.3,
      (λ a. tidy_behind k n c.in-Some.i c.loop-place.busy c.loop-place.place c.loop-place.at_head u (view c.look_on.new.desk) c.look_on.result e.turned (walk_at n k v u c.in-Some.i c.loop-place.busy s) c.in-Some.is
          (λ word past. subst (λ (t : Turn). PassesConsumed t word.cell) c.in-On.is past) (i.4 a)),
      still_keeps_heads k v u (view c.look_on.new.desk) e.turned.heads i.5,
    )

pub loop-place-preserved : goal.loop-place-preserved
loop-place-preserved g c =
    let n = c.args.space.now.events in let k = key c.args.object c.args.method in let v = view c.args.desk.now in let u = view c.loop-place.desk in
    let s = subst (λ (x : Option ℕ). Going n k v u x c.loop-place.busy) c.in-Some.is c.loop-place.invariant.2 in
    let i = c.loop-place.invariant in let e = c.look_on.ensures in (
      e.desk.0 ∙ i.0,
      (e.desk.0 ∙ i.1.0, e.desk.1 ∙ i.1.1),
      subst (λ (t : Turn). ComesToTurn n k v (view c.look_on.new.desk) c.loop-place.busy t) c.in-Past.is (e.turned.comes k v s),
      still_began g.P.Carry.entries g.P.Carry.arguments g.P.Carry.keeps_to c.args.space.now v u (view c.look_on.new.desk) k e.turned.linked i.3,
      (λ a. let r = e.turned.read (walk_at n k v u c.in-Some.i c.loop-place.busy s) in
          subst (IsAtHead k (view c.look_on.new.desk) c.in-Past.next) (sym c.if-at_head.false) (still_tidy k u (view c.look_on.new.desk) (record { number = c.in-Some.i; word = r.0 }) e.turned.heads r.1 (subst (IsAtHead k u c.loop-place.place) c.if-at_head.false (i.4 a)))),
      still_keeps_heads k v u (view c.look_on.new.desk) e.turned.heads i.5,
    )

pub tidy-at_head-requires-clause-bounds : goal.tidy-at_head-requires-clause-bounds
tidy-at_head-requires-clause-bounds g c =
    let n = c.args.space.now.events in let k = key c.args.object c.args.method in let v = view c.args.desk.now in let u = view c.loop-place.desk in
    let s = subst (λ (x : Option ℕ). Going n k v u x c.loop-place.busy) c.in-Some.is c.loop-place.invariant.2 in
    let after = subst (λ (t : Turn). ComesToTurn n k v (view c.look_on.new.desk) c.loop-place.busy t) c.in-Past.is (c.look_on.ensures.turned.comes k v s) in
    let bounds = c.requires.bounds in (bounds.0, bounds.1, bounds.2, low n k v u c.in-Some.i c.loop-place.busy s, place_below n k v (view c.look_on.new.desk) c.in-Past.next c.loop-place.busy after)

pub tidy-at_head-requires-clause-past : goal.tidy-at_head-requires-clause-past
tidy-at_head-requires-clause-past g c =
    let n = c.args.space.now.events in let k = key c.args.object c.args.method in let v = view c.args.desk.now in let u = view c.loop-place.desk in
    let s = subst (λ (x : Option ℕ). Going n k v u x c.loop-place.busy) c.in-Some.is c.loop-place.invariant.2 in
    c.look_on.ensures.turned.past c.in-Past.next c.in-Past.is (walk_at n k v u c.in-Some.i c.loop-place.busy s)

pub loop-place-preserved-then-at_head : goal.loop-place-preserved-then-at_head
loop-place-preserved-then-at_head g c =
    let n = c.args.space.now.events in let k = key c.args.object c.args.method in let v = view c.args.desk.now in let u = view c.loop-place.desk in
    let s = subst (λ (x : Option ℕ). Going n k v u x c.loop-place.busy) c.in-Some.is c.loop-place.invariant.2 in
    let i = c.loop-place.invariant in let e = c.look_on.ensures in let t = c.tidy-at_head.ensures in
    let after = subst (λ (t : Turn). ComesToTurn n k v (view c.look_on.new.desk) c.loop-place.busy t) c.in-Past.is (e.turned.comes k v s) in (
      t.desk.0 ∙ e.desk.0 ∙ i.0,
      (t.desk.0 ∙ e.desk.0 ∙ i.1.0, t.desk.1 ∙ e.desk.1 ∙ i.1.1),
      subst (λ (z : View). Going n k v z c.in-Past.next c.loop-place.busy) (sym t.looked.1) (head_read n k v (view c.look_on.new.desk) c.in-Past.next c.loop-place.busy (head_number k) t.looked.0 after (head_left n k v u (view c.look_on.new.desk) c.in-Some.i c.in-Past.next c.loop-place.busy s after e.turned.heads (e.turned.longer k v s))),
      still_began g.P.Carry.entries g.P.Carry.arguments g.P.Carry.keeps_to c.args.space.now v u (view c.tidy-at_head.new.desk) k (ap (λ (z : View). newest_linked z.looked.ways) t.looked.1 ∙ e.turned.linked) i.3,
      (λ a. let last = subst (λ (z : Bool × Option ℕ). IsAtHead k u z.1 z.0) (λ j. (c.if-at_head.true j, c.in-Some.is j)) (i.4 a) in
          let moved = t.alone (still_alone v (view c.look_on.new.desk) after.only a) (subst (LastHead (head_number k) (Some c.in-Some.i)) (sym e.turned.heads) last) in
          subst (IsAtHead k (view c.tidy-at_head.new.desk) c.in-Past.next) (sym moved.0) moved.1),
      own_keeps_heads k v (view c.look_on.new.desk) (view c.tidy-at_head.new.desk) t.looked.0 t.looked.1 (still_keeps_heads k v u (view c.look_on.new.desk) e.turned.heads i.5),
    )

pub returns-in-Over-clause-sought : goal.returns-in-Over-clause-sought
returns-in-Over-clause-sought g c =
    let n = c.args.space.now.events in let k = key c.args.object c.args.method in let v = view c.args.desk.now in let u = view c.loop-place.desk in
    let s = subst (λ (x : Option ℕ). Going n k v u x c.loop-place.busy) c.in-Some.is c.loop-place.invariant.2 in
    subst (λ (t : Turn). ComesToTurn n k v (view c.look_on.new.desk) c.loop-place.busy t) c.in-Over.is (c.look_on.ensures.turned.comes k v s)

pub returns-in-None-clause-sought : goal.returns-in-None-clause-sought
returns-in-None-clause-sought g c =
    let n = c.args.space.now.events in let k = key c.args.object c.args.method in let v = view c.args.desk.now in let u = view c.loop-place.desk in
    walk_ended n k v u None (subst (λ (z : Option ℕ × Option ℕ). Going n k v u z.0 z.1) (λ j. (c.in_default.is j, c.in-None.is j)) c.loop-place.invariant.2)

pub returns-in-Over-clause-began : goal.returns-in-Over-clause-began
returns-in-Over-clause-began g c = still_began g.P.Carry.entries g.P.Carry.arguments g.P.Carry.keeps_to c.args.space.now (view c.args.desk.now) (view c.loop-place.desk) (view c.look_on.new.desk) (key c.args.object c.args.method) c.look_on.ensures.turned.linked c.loop-place.invariant.3

pub returns-in-Some-busy-clause-sought : goal.returns-in-Some-busy-clause-sought
returns-in-Some-busy-clause-sought g c =
    let n = c.args.space.now.events in let k = key c.args.object c.args.method in let v = view c.args.desk.now in let u = view c.loop-place.desk in
    walk_ended n k v u (Some c.in-Some-busy.i) (subst (λ (z : Option ℕ × Option ℕ). Going n k v u z.0 z.1) (λ j. (c.in_default.is j, c.in-Some-busy.is j)) c.loop-place.invariant.2)

pub returns-in-Over-clause-tidy : goal.returns-in-Over-clause-tidy
returns-in-Over-clause-tidy g c = λ a.
    let n = c.args.space.now.events in let k = key c.args.object c.args.method in let v = view c.args.desk.now in let u = view c.loop-place.desk in
    let s = subst (λ (x : Option ℕ). Going n k v u x c.loop-place.busy) c.in-Some.is c.loop-place.invariant.2 in
    tidy_behind k n c.in-Some.i c.loop-place.busy c.loop-place.place c.loop-place.at_head u (view c.look_on.new.desk) c.look_on.result c.look_on.ensures.turned (walk_at n k v u c.in-Some.i c.loop-place.busy s) c.in-Some.is
    (λ word past. subst (λ (t : Turn). PassesConsumed t word.cell) c.in-Over.is past) (c.loop-place.invariant.4 a)

pub returns-in-None-clause-tidy : goal.returns-in-None-clause-tidy
returns-in-None-clause-tidy g c = λ a. tidy_at_end (key c.args.object c.args.method) (view c.loop-place.desk) c.loop-place.at_head c.loop-place.place c.in_default.is (c.loop-place.invariant.4 a)

pub returns-in-Some-busy-clause-tidy : goal.returns-in-Some-busy-clause-tidy
returns-in-Some-busy-clause-tidy g c = λ a. tidy_at_end (key c.args.object c.args.method) (view c.loop-place.desk) c.loop-place.at_head c.loop-place.place c.in_default.is (c.loop-place.invariant.4 a)

pub returns-in-Over-clause-other_heads : goal.returns-in-Over-clause-other_heads
returns-in-Over-clause-other_heads g c = still_keeps_heads (key c.args.object c.args.method) (view c.args.desk.now) (view c.loop-place.desk) (view c.look_on.new.desk) c.look_on.ensures.turned.heads c.loop-place.invariant.5

pub returns-in-None-clause-other_heads : goal.returns-in-None-clause-other_heads
returns-in-None-clause-other_heads g c = c.loop-place.invariant.5

pub returns-in-Some-busy-clause-other_heads : goal.returns-in-Some-busy-clause-other_heads
returns-in-Some-busy-clause-other_heads g c = c.loop-place.invariant.5
