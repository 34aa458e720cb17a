-- What the first worker knows of the cells that it looked at, and when it may close.
use Rattle.std.proofs.Common.{◌≡◌, ◌≢◌, ◌⊎◌, inl, inr, ⊎_elim, ℕ, ◌+◌, ◌<◌, ◌≤◌, true, false, List, [], ◌∷◌, ◌++◌, length-append, append_assoc, Option, Some, None, is_some, min, refl, sym, ap, ◌∙◌, subst, arith}
use Rattle.std.proofs.lemmas.Option.{none-some}
use mathlib.Core.Logic.{dite}
use mathlib.Core.Path.{Path}
use native.Mathlib.Decide.{ℕ_discrete}
use Rattle.chord_rule.specs.declared.view.Look.{Look}
use Rattle.chord_rule.specs.declared.view.View.{View}
use Rattle.chord_rule.specs.Closing.{IsAsleep, MayClose, AreQuiet}
use Rattle.chord_rule.specs.Kinds.{saw}
use Rattle.chord_rule.specs.Numbers.{HasNumber}
use Rattle.chord_rule.specs.Tells.{a_word}
use Rattle.chord_rule.specs.Ways.{LastSeen}
use Rattle.chord_base.specs.declared.event.Limits.{Limits}
use Rattle.chord_code.specs.declared.parts.Parts.{Parts}
use Rattle.chord_code.specs.Meaning.{code_program}
use Rattle.chord_space.specs.declared.space.Desk.{Desk}
use Rattle.chord_space.specs.declared.space.Space.{Space}
use Rattle.chord_space.specs.Desks.{view, events, space_code, space_limits}
use Rattle.chord_task.specs.declared.task.Task.{Task}
use Rattle.chord_task.specs.declared.parcel.Opened.{Opened as Parcel}
use Rattle.chord_word.specs.declared.cells.Cell.{Cell}
use Rattle.chord_word.specs.declared.cells.Cell.TheVariants.{Ready, Woken}
use Rattle.chord_word.specs.declared.cells.Word.{Word}
use Rattle.chord_worker.specs.declared.worker.Worker.{Worker}
use Rattle.chord_worker.specs.Resting.{IsSameRole, IsSeen, beside_task}
use Rattle.chord_pool.specs.declared.ending.Alone.{Alone}
use Rattle.chord_pool.specs.Players.{AreAmong, IsFit, IsSettled, IsUnready, IsCrew, LookedOnce, LookedThrough}
use Rattle.chord_pool.specs.Ending.{AreAwake, HasComeTo, IsAloneWorker, IsLast, IsRunOver, IsStirred, SawAsleep, SawLimit, HasLookedAlone}
use Rattle.chord_pool.proofs.Looking.{last_stays, among_more, each_of_more, plays_since, not_ready, count_ready-append, through_once, through_from}

-- the role of a desk stays over two steps
pub role_stays : (u v w : View) → IsSameRole u v → IsSameRole v w → IsSameRole u w
role_stays u v w a b = record { first = b.first ∙ a.first; lent = b.lent ∙ a.lent; splits = b.splits ∙ a.splits; drawn = λ d. b.drawn (a.drawn d) }

-- a number that the counter said is that number
same_count : (k c : ℕ) → ◌≡◌ {A = Option ℕ} (Some k) (Some c) → k ≡ c
same_count k c same = cc

-- where fewer numbers than the limit were given, as the counter said last, the limit was not seen
pub unlimited : (n k count : ℕ) (v : View) → v.looked.count ≡ Some k → count ≡ min k n → count ≢ n → SawLimit n v → ⊥
unlimited n k count v told is_count below (c, saw, full) = below (is_count ∙ ap (λ (x : ℕ). min x n) (same_count k c (sym told ∙ saw)) ∙ full)

-- one more cell was looked at, and need not be looked after
pub awake_more : (from i : ℕ) (v w : View) (x : Word) → AreAwake from i v.looked.seen → IsSeen v w i x → (IsAsleep x.cell → ⊥) → AreAwake from (i + 1) w.looked.seen
awake_more from i v w x was look awake k above low = dite (ℕ_discrete k i)
    (λ e. (x, subst (LastSeen k x) (sym look.seen) (inl (e, refl)), awake))
    (λ ne. let r = was k above (omega (arith, low, ne)) in (r.0, subst (LastSeen k r.0) (sym look.seen) (inr (ne, r.1)), r.2))

-- what nobody has to look after is not ready
awake_unready : (c : Cell) → (IsAsleep c → ⊥) → c ≢ Ready
awake_unready c awake ready = awake (subst IsAsleep (sym ready) tt)

-- one look at a cell that need not be looked after
pub through_awake : (v w : View) (i : ℕ) (x : Word) → IsSeen v w i x → (IsAsleep x.cell → ⊥) → LookedThrough i (i + 1) v w
through_awake v w i x look awake = through_once v w i x (awake_unready x.cell awake) look.seen

-- what is known of no cell
awake_none : (i : ℕ) (looks : List Look) → AreAwake i i looks
awake_none i looks k above low = absurd (omega (arith, above, low))

-- a look at a cell that somebody has to look after
pub come_by_look : (v w : View) (i : ℕ) (x : Word) → IsSeen v w i x → IsAsleep x.cell → x.cell ≢ Ready → HasComeTo i i v w
come_by_look v w i x look asleep unready = record {
  onward = omega arith;
  looks = record { number = i; word = x } ∷ [];
  seen = look.seen;
  among = (omega arith, omega arith, tt);
  each = λ k above low. inl (omega (arith, above, low));
  asleep = inl (refl, asleep);
  before = awake_none i w.looked.seen;
  unready_looks = let none = not_ready x.cell unready in rw none (omega arith);
  ready = let none = not_ready x.cell unready in rw none (omega arith);
}

-- a look at a firing that was ready, and one more at it, of its start
pub come_by_start : (v u w : View) (i : ℕ) (x : Word) → IsSeen v u i x → x.cell ≡ Ready → LookedOnce i u w → HasComeTo i i v w
come_by_start v u w i x look ready again = record {
  onward = omega arith;
  looks = record { number = i; word = again.word } ∷ record { number = i; word = x } ∷ [];
  seen = again.seen ∙ ap (λ (l : List Look). record { number = i; word = again.word } ∷ l) look.seen;
  among = (omega arith, omega arith, (omega arith, omega arith, tt));
  each = λ k above low. inl (omega (arith, above, low));
  asleep = inr (inl (refl, subst IsAsleep (sym ready) tt));
  before = awake_none i w.looked.seen;
  unready_looks = rw (not_ready again.word.cell again.unready, ready) (omega arith);
  ready = rw (not_ready again.word.cell again.unready, ready) (omega arith);
}

-- cells that need not be looked after stay so, after looks at later ones alone
awake_stay : (from i below : ℕ) (looks seen : List Look) → AreAmong i below looks → AreAwake from i seen → AreAwake from i (looks ++ seen)
awake_stay from i below looks seen among was k above low = let r = was k above low in (r.0, last_stays k r.0 i below looks seen low among r.1, r.2)

-- a cell that somebody has to look after, behind others that need not be
pub come_on : (from i : ℕ) (u v w : View) → from ≤ i → AreAwake from i v.looked.seen → LookedThrough from i u v → HasComeTo i i v w → HasComeTo from i u w
come_on from i u v w low awake was come = record {
  onward = low;
  looks = come.looks ++ was.looks;
  seen = come.seen ∙ ap (λ (l : List Look). come.looks ++ l) was.seen ∙ sym (append_assoc come.looks was.looks u.looked.seen);
  among = among_more from i come.looks was.looks low come.among was.among;
  each = each_of_more from i come.looks was.looks come.each was.each;
  asleep = saw_more i come.looks was.looks come.asleep;
  before = subst (AreAwake from i) (sym come.seen) (awake_stay from i (i + 1) come.looks v.looked.seen come.among awake);
  unready_looks = let long = length-append come.looks was.looks in let ready = count_ready-append come.looks was.looks in let a = come.unready_looks in let b = was.unready_looks in omega (arith, low, long, ready, a, b);
  ready = let ready = count_ready-append come.looks was.looks in let a = come.ready in let b = was.ready in omega (arith, low, ready, a, b);
}
  where
    saw_more : (i : ℕ) (xs ys : List Look) → SawAsleep i xs → SawAsleep i (xs ++ ys)
    saw_more i [] ys none = absurd none
    saw_more i (x ∷ xs) ys (inl here) = inl here
    saw_more i (x ∷ xs) ys (inr there) = inr (saw_more i xs ys there)

-- after something that was no look at a cell
pub come_since : (from to : ℕ) (u v w : View) → v.looked.seen ≡ u.looked.seen → HasComeTo from to v w → HasComeTo from to u w
come_since from to u v w same come = record {
  onward = come.onward;
  looks = come.looks;
  seen = come.seen ∙ ap (λ (l : List Look). come.looks ++ l) same;
  among = come.among;
  each = come.each;
  asleep = come.asleep;
  before = come.before;
  unready_looks = come.unready_looks;
  ready = come.ready;
}

-- a look at a cell in which no firing is ready
pub unready_by_look : (v w : View) (i : ℕ) (x : Word) → IsSeen v w i x → x.cell ≢ Ready → IsUnready i w.looked.seen
unready_by_look v w i x look unready = (x, subst (LastSeen i x) (sym look.seen) (inl (refl, refl)), unready)

-- a firing that was ready no longer, as its cell told
pub unready_told : (u w : View) (i : ℕ) (c : Cell) (next : Option ℕ) → c ≢ Ready → w ≡ saw u i (a_word c next) → IsUnready i w.looked.seen
unready_told u w i c next unready told = (a_word c next, subst (λ (z : View). LastSeen i (a_word c next) z.looked.seen) (sym told) (inl (refl, refl)), unready)

-- a woken cell is not ready
pub woken_unready : (c : Cell) (q : ℕ) → c ≡ Woken q → c ≢ Ready
woken_unready c q woken ready = absurd (cc)

-- who was told that a task is there has one
pub task_started : (x : Option Task) → is_some x ≡ true → x ≢ None
task_started None e h = let z : false ≡ true = e in absurd (cc)
task_started (Some t) e h = none-some _ (sym h)

-- and which it is
pub task_there : (x : Option Task) → is_some x ≡ true → (t : Task) × (x ≡ Some t)
task_there None e = let z : false ≡ true = e in absurd (cc)
task_there (Some t) e = (t, refl)

-- a worker without a task that is stirred after looks, in which its desk kept what it kept
pub stirred_since : (knows : ℕ → Type 0) (i : ℕ) (u v w : Worker) → u.task ≡ None → (view v.desk).kept ≡ (view u.desk).kept → IsStirred knows i v w → IsStirred knows i u w
stirred_since knows i u v w none same = ⊎_elim (λ plays. inl (plays_since knows u v w i none same plays)) (λ still. inr ((still.0.0, still.0.1 ∙ same), still.1))

-- a turn of the first worker alone that looked, after it looked at the counter
pub looked_since : (knows : ℕ → Type 0) (s : Space Parcel) (x y z : Alone) → x.worker.task ≡ None → y.place ≡ x.place → (view y.worker.desk).kept ≡ (view x.worker.desk).kept → (view y.worker.desk).looked.seen ≡ (view x.worker.desk).looked.seen → HasLookedAlone knows s y z → HasLookedAlone knows s x z
looked_since knows s x y z none place kept seen = ⊎_elim
    (λ on. inl (
      subst (λ (n : ℕ). HasComeTo n z.place (view x.worker.desk) (view z.worker.desk)) place (come_since y.place z.place (view x.worker.desk) (view y.worker.desk) (view z.worker.desk) seen on.0),
      stirred_since knows z.place x.worker y.worker z.worker none kept on.1,
    ))
    (λ back. inr (record {
      count = back.count;
      counted = back.counted;
      behind = subst (λ (n : ℕ). 0 < n) place back.behind;
      place = back.place;
      still = (back.still.0, back.still.1 ∙ kept);
      awake = subst (λ (n : ℕ). AreAwake n (min back.count (events s)) (view z.worker.desk).looked.seen) place back.awake;
      through = subst (λ (n : ℕ). LookedThrough n (min back.count (events s)) (view x.worker.desk) (view z.worker.desk)) place (through_from (view x.worker.desk) (view y.worker.desk) (view z.worker.desk) y.place (min back.count (events s)) seen back.through);
    }))

-- the first worker, alone, with nothing to play
pub last_is_alone : (s : Space Parcel) (w : Worker) → IsLast s w → IsAloneWorker s w
last_is_alone s w last = record { settled = record { rest = last.rest; over = λ _. last.task }; first = last.first; drawn = last.drawn; lent = last.lent }

-- the first worker that has hired nobody is alone
pub crew_is_alone : (s : Space Parcel) (w : Worker) → IsCrew s w [] → IsAloneWorker s w
crew_is_alone s w crew = record { settled = crew.settled; first = crew.first; drawn = crew.drawn; lent = crew.lent }

-- it is so still, in the role that it had
pub stays_alone : (s : Space Parcel) (v w : Worker) → IsAloneWorker s v → IsSettled s w → IsSameRole (view v.desk) (view w.desk) → IsAloneWorker s w
stays_alone s v w was settled role = record { settled = settled; first = role.first ∙ was.first; drawn = role.drawn was.drawn; lent = role.lent ∙ was.lent }

-- the first worker, alone and with nothing to play, may close where it looked at the counter, which is below the limit, and at each cell below
pub may_close : (s : Space Parcel) (w : Worker) (n c count : ℕ) → IsFit s w → (view w.desk).first ≡ true → (view w.desk).drawn ≡ true → (view w.desk).lent ≡ 0
    → (view w.desk).looked.count ≡ Some c → count ≡ min c n → count ≢ n → AreAwake 0 count (view w.desk).looked.seen → MayClose (view w.desk)
may_close s w n c count fit first drawn lent counted least below awake = record {
  done = record {
    first = first;
    begun = drawn;
    lent = lent;
    duties = fit.rest.duties fit.room;
    claims = fit.rest.free.claims;
    armed = λ i. ⊎_elim (λ h. subst (HasNumber i) fit.rest.free.fresh h) (⊎_elim (λ h. not_some i (sym w.desk.settled.3 ∙ h)) (λ h. not_some i (sym fit.rest.free.flight ∙ h)));
  };
  count = c;
  counted = counted;
  seen = λ i l. awake i (omega arith) (omega (arith, l, least, below));
}
  where
    not_some : (i : ℕ) → Path (Option ℕ) None (Some i) → ⊥
    not_some i e = cc

-- once the run is over and closed, its journal is complete, or has as many entries as are allowed
pub ended_as : (s : Space Parcel) (w : Worker) (desk : Desk Parcel) (code : Parts) (limits : Limits) (count : ℕ) (Whole : Type 0) → IsRunOver s w → desk ≡ w.desk → space_code s ≡ code → space_limits s ≡ limits
    → (MayClose (view desk) → AreQuiet (code_program code limits) (view desk).kept → Whole) → ((view desk).spent ≡ true → count ≡ limits.events) → ((c : ℕ) → (view desk).looked.count ≡ Some c → count ≡ min c limits.events)
    → Whole ⊎ (count ≡ limits.events)
ended_as s w desk code limits count Whole over same code_is limits_are whole full counted =
    let n : events s ≡ limits.events = sym s.sized.0 ∙ ap (λ (l : Limits). l.events) limits_are in
    ⊎_elim
    (λ told. inr (full (ap (λ (d : Desk Parcel). (view d).spent) same ∙ told)))
    (⊎_elim
    (λ saw. inr (counted saw.0 (ap (λ (d : Desk Parcel). (view d).looked.count) same ∙ saw.1) ∙ (let z = saw.2 in omega (arith, z, n))))
    (λ done. inl (whole (subst (λ (d : Desk Parcel). MayClose (view d)) (sym same) done.1) (quiet done.0))))
    over.why
  where
    quiet : (view w.desk).spent ≡ false → AreQuiet (code_program code limits) (view desk).kept
    quiet room =
        subst (λ (d : Desk Parcel). AreQuiet (code_program code limits) (view d).kept) (sym same)
        (subst (λ (l : Limits). AreQuiet (code_program code l) (view w.desk).kept) limits_are
        (subst (λ (x : Parts). AreQuiet (code_program x (space_limits s)) (view w.desk).kept) code_is
        (subst (λ (t : Option Task). AreQuiet (code_program (space_code s) (space_limits s)) (beside_task t (view w.desk).kept)) over.last.task (over.last.rest.memory.quiet room))))
