-- What a worker that looks for a firing has seen.
use Rattle.std.proofs.Common.{◌≡◌, ◌≢◌, ℕ, zero, suc, ◌+◌, ◌-◌, ◌<◌, ◌≤◌, min, max, Bool, true, false, if◌then◌else◌, Option, Some, None, is_some, List, [], ◌∷◌, ◌++◌, length-append, append_assoc, refl, sym, ap, ◌∙◌, subst, ⊎_elim, inl, inr, arith}
use Rattle.std.proofs.lemmas.Option.{same_Some}
use mathlib.Core.Logic.{dite}
use native.Mathlib.Decide.{ℕ_discrete}
use Rattle.chord_base.specs.Story.{IsIn}
use Rattle.chord_rule.specs.declared.view.Look.{Look}
use Rattle.chord_rule.specs.declared.view.Looked.{Looked}
use Rattle.chord_rule.specs.declared.view.View.{View}
use Rattle.chord_rule.specs.Kinds.{saw}
use Rattle.chord_rule.specs.Tells.{a_word}
use Rattle.chord_rule.specs.Ways.{LastSeen}
use Rattle.chord_roll.specs.declared.card.Card.{Card}
use Rattle.chord_roll.specs.Cards.{counts, ended, last_read, reads}
use Rattle.chord_roll.specs.Roll.{counted_as}
use Rattle.chord_space.specs.declared.space.Space.{Space}
use Rattle.chord_space.specs.Desks.{view}
use Rattle.chord_task.specs.declared.parcel.Opened.{Opened as Parcel}
use Rattle.chord_task.specs.declared.task.Task.{Task}
use Rattle.chord_word.specs.declared.cells.Cell.{Cell}
use Rattle.chord_word.specs.declared.cells.Cell.TheVariants.{Empty, Pending, Claimed, Consumed, Woken, Ready, Started}
use Rattle.chord_word.specs.declared.cells.Word.{Word}
use Rattle.chord_worker.specs.declared.worker.Worker.{Worker}
use Rattle.chord_worker.specs.Resting.{IsSeen}
use Rattle.chord_worker.specs.Stepping.{PlaysFiring}
use Rattle.chord_pool.specs.declared.player.Player.{Player}
use Rattle.chord_pool.specs.Players.{is_ready, count_ready, AreAmong, IsLookedAt, AreLookedAt, AreUnready, FoundNoneBelow, LookedAmong, LookedOnce, LookedThrough, BeganForEach, began, SawUnready, FoundNone, KnowsCount, HasStarted, BeginsLook, LookedInVain, LookedAgain, HasGone, HasFound, HasFoundNone, HasLooked}

-- a look at a cell that is not ready
pub seen_once : (v w : View) (i : ℕ) (x : Word) → IsSeen v w i x → x.cell ≢ Ready → SawUnready v w i
seen_once v w i x look unready = record {
  kept = look.kept;
  word = x;
  last = subst (LastSeen i x) (sym look.seen) (inl (refl, refl));
  unready = unready;
  count = look.count;
  others = λ k y apart was. subst (LastSeen k y) (sym look.seen) (inr (apart, was));
}

-- a firing that was ready no longer, as its cell told
pub refused_once : (v w : View) (i : ℕ) (c : Cell) (next : Option ℕ) → w ≡ saw v i (a_word c next) → c ≢ Ready → SawUnready v w i
refused_once v w i c next told unready = record {
  kept = ap (λ (z : View). z.kept) told;
  word = a_word c next;
  last = subst (λ (z : View). LastSeen i (a_word c next) z.looked.seen) (sym told) (inl (refl, refl));
  unready = unready;
  count = ap (λ (z : View). z.looked.count) told;
  others = λ k y apart was. subst (λ (z : View). LastSeen k y z.looked.seen) (sym told) (inr (apart, was));
}

-- a look at a cell, and one more at which it was not ready
pub seen_twice : (v u w : View) (i : ℕ) (x : Word) → IsSeen v u i x → SawUnready u w i → SawUnready v w i
seen_twice v u w i x look again = record {
  kept = again.kept ∙ look.kept;
  word = again.word;
  last = again.last;
  unready = again.unready;
  count = again.count ∙ look.count;
  others = λ k y apart was. again.others k y apart (subst (LastSeen k y) (sym look.seen) (inr (apart, was)));
}

-- a cell in which no firing is ready
pub not_ready : (c : Cell) → c ≢ Ready → is_ready c ≡ false
not_ready Empty not = refl
not_ready Pending not = refl
not_ready Claimed not = refl
not_ready Consumed not = refl
not_ready (Woken q) not = refl
not_ready Ready not = absurd (not refl)
not_ready Started not = refl

-- a look at a firing that was refused, as its cell told
pub looked_refused : (v w : View) (i : ℕ) (c : Cell) (next : Option ℕ) → w ≡ saw v i (a_word c next) → c ≢ Ready → LookedOnce i v w
looked_refused v w i c next told unready = record { word = a_word c next; unready = unready; seen = ap (λ (z : View). z.looked.seen) told }

-- no number was looked at
pub through_none : (from : ℕ) (v : View) → LookedThrough from from v v
through_none from v = record { looks = []; seen = refl; among = tt; each = λ k above low. absurd (omega (arith, above, low)); unready_looks = omega arith; ready = omega arith }

-- one look at one number, in which no firing was ready
pub through_once : (v w : View) (i : ℕ) (x : Word) → x.cell ≢ Ready → w.looked.seen ≡ record { number = i; word = x } ∷ v.looked.seen → LookedThrough i (i + 1) v w
through_once v w i x unready seen = record {
  looks = record { number = i; word = x } ∷ [];
  seen = seen;
  among = (omega arith, omega arith, tt);
  each = λ k above low. inl (omega (arith, above, low));
  unready_looks = let none = not_ready x.cell unready in rw none (omega arith);
  ready = let none = not_ready x.cell unready in rw none (omega arith);
}

-- one look at a firing that was ready, and one at which it was no longer
pub through_twice : (v u w : View) (i : ℕ) (x : Word) → x.cell ≡ Ready → u.looked.seen ≡ record { number = i; word = x } ∷ v.looked.seen → LookedOnce i u w → LookedThrough i (i + 1) v w
through_twice v u w i x ready seen again = record {
  looks = record { number = i; word = again.word } ∷ record { number = i; word = x } ∷ [];
  seen = again.seen ∙ ap (λ l. record { number = i; word = again.word } ∷ l) seen;
  among = (omega arith, omega arith, (omega arith, omega arith, tt));
  each = λ k above low. inl (omega (arith, above, low));
  unready_looks = rw (not_ready again.word.cell again.unready, ready) (omega arith);
  ready = rw (not_ready again.word.cell again.unready, ready) (omega arith);
}

-- a look of a start, which read its cell started, or refused
pub looked_started : (b : Bool) (v w : View) (i : ℕ) → (b ≡ false → LookedOnce i v w) → (x : Word) → (b ≡ true → x.cell ≡ Started) → w.looked ≡ (saw v i x).looked → LookedOnce i v w
looked_started true v w i refused x started seen = record {
  word = x;
  unready = λ e. let z : Started ≡ Ready = sym (started refl) ∙ e in absurd (cc);
  seen = ap (λ (l : Looked). l.seen) seen;
}
looked_started false v w i refused x started seen = refused refl

-- how many looks in two lists read that a firing is ready
pub count_ready-append : (xs ys : List Look) → count_ready (xs ++ ys) ≡ count_ready xs + count_ready ys
count_ready-append [] ys = omega arith
count_ready-append (x ∷ xs) ys = let rest = count_ready-append xs ys in rw rest (omega arith)

-- looks at numbers among some, and then at others, are looks at numbers among all of these
pub among_more : (from i : ℕ) (xs ys : List Look) → from ≤ i → AreAmong i (i + 1) xs → AreAmong from i ys → AreAmong from (i + 1) (xs ++ ys)
among_more from i [] [] low one was = tt
among_more from i [] (y ∷ ys) low one was = (was.0, (let below = was.1 in omega (arith, below)), among_more from i [] ys low one was.2)
among_more from i (x ∷ xs) ys low one was = ((let above = one.0 in omega (arith, low, above)), one.1, among_more from i xs ys low one.2 was)

-- a look among others is one among these and more
looked_at_first : (i : ℕ) (xs ys : List Look) → IsLookedAt i xs → IsLookedAt i (xs ++ ys)
looked_at_first i [] ys at = absurd at
looked_at_first i (x ∷ xs) ys (inl here) = inl here
looked_at_first i (x ∷ xs) ys (inr there) = inr (looked_at_first i xs ys there)

-- wherever these stand
looked_at_behind : (i : ℕ) (xs ys : List Look) → IsLookedAt i ys → IsLookedAt i (xs ++ ys)
looked_at_behind i [] ys at = at
looked_at_behind i (x ∷ xs) ys at = inr (looked_at_behind i xs ys at)

-- looks at each number of some, and then at the next one
pub each_of_more : (from i : ℕ) (xs ys : List Look) → AreLookedAt i (i + 1) xs → AreLookedAt from i ys → AreLookedAt from (i + 1) (xs ++ ys)
each_of_more from i xs ys one was k above low = dite (ℕ_discrete k i)
    (λ e. looked_at_first k xs ys (one k (omega (arith, e)) low))
    (λ ne. looked_at_behind k xs ys (was k above (omega (arith, low, ne))))

-- looks at numbers in a row, of which there may be none
among_all : (from i below : ℕ) (looks : List Look) → i ≤ max from below → AreAmong from i looks → AreAmong from below looks
among_all from i below [] within was = tt
among_all from i below (l ∷ ls) within was = (was.0, (let above = was.0 in let under = was.1 in omega (arith, within, above, under)), among_all from i below ls within was.2)

-- what was last seen in a cell stays so, where no look was at it
pub last_stays : (k : ℕ) (x : Word) (from below : ℕ) (looks seen : List Look) → k < from → AreAmong from below looks → LastSeen k x seen → LastSeen k x (looks ++ seen)
last_stays k x from below [] seen low among was = was
last_stays k x from below (l ∷ ls) seen low among was = inr ((λ e. let above = among.0 in omega (arith, low, above, e)), last_stays k x from below ls seen low among.2 was)

-- cells that were last not ready are so still, after looks at later ones alone
pub unready_stay : (from i below : ℕ) (v w : View) → AreUnready from i v.looked.seen → LookedAmong i below v w → AreUnready from i w.looked.seen
unready_stay from i below v w was later k above low = let r = was k above low in (r.0, subst (LastSeen k r.0) (sym later.seen) (last_stays k r.0 i below later.looks v.looked.seen low later.among r.1), r.2)

-- a look at one cell
pub among_once : (v w : View) (i : ℕ) (x : Word) → w.looked.seen ≡ record { number = i; word = x } ∷ v.looked.seen → LookedAmong i (i + 1) v w
among_once v w i x seen = record { looks = record { number = i; word = x } ∷ []; seen = seen; among = (omega arith, omega arith, tt) }

-- looks at numbers among some, and then others among them
among_both : (from below : ℕ) (xs ys : List Look) → AreAmong from below xs → AreAmong from below ys → AreAmong from below (xs ++ ys)
among_both from below [] ys now was = was
among_both from below (x ∷ xs) ys now was = (now.0, now.1, among_both from below xs ys now.2 was)

-- and then more looks at it
pub among_twice : (u v w : View) (i : ℕ) → LookedAmong i (i + 1) u v → LookedAmong i (i + 1) v w → LookedAmong i (i + 1) u w
among_twice u v w i was now = record {
  looks = now.looks ++ was.looks;
  seen = now.seen ∙ ap (λ l. now.looks ++ l) was.seen ∙ sym (append_assoc now.looks was.looks u.looked.seen);
  among = among_both i (i + 1) now.looks was.looks now.among was.among;
}

-- numbers were looked at after something that was no look at a cell
pub through_from : (u v w : View) (from below : ℕ) → v.looked.seen ≡ u.looked.seen → LookedThrough from below v w → LookedThrough from below u w
through_from u v w from below same was = record { looks = was.looks; seen = was.seen ∙ ap (λ l. was.looks ++ l) same; among = was.among; each = was.each; unready_looks = was.unready_looks; ready = was.ready }

-- nothing was looked at, on the same card
pub began_none : (v : View) (c : Card) → BeganForEach v v c c
began_none v c = record { looks = []; seen = refl; began_is = as_often (counts c) (began c) }
  where
    as_often : (b : Bool) (n : ℕ) → n ≡ n + (if b then 0 else 0)
    as_often true n = omega arith
    as_often false n = omega arith

-- one look, in which no firing was ready, on the same card
pub began_unready : (v w : View) (i : ℕ) (x : Word) (c : Card) → x.cell ≢ Ready → w.looked.seen ≡ record { number = i; word = x } ∷ v.looked.seen → BeganForEach v w c c
began_unready v w i x c unready seen = record {
  looks = record { number = i; word = x } ∷ [];
  seen = seen;
  began_is = rw (not_ready x.cell unready) (as_often (counts c) (began c));
}
  where
    as_often : (b : Bool) (n : ℕ) → n ≡ n + (if b then 0 else 0)
    as_often true n = omega arith
    as_often false n = omega arith

-- a look at a firing that was ready, and one of its start, where the worker began to count if it did not
pub began_ready : (v u w : View) (i : ℕ) (x : Word) (c d : Card) → x.cell ≡ Ready → u.looked.seen ≡ record { number = i; word = x } ∷ v.looked.seen → LookedOnce i u w
    → began d ≡ began c + (if counts c then 0 else 1) → BeganForEach v w c d
began_ready v u w i x c d ready seen again once = record {
  looks = record { number = i; word = again.word } ∷ record { number = i; word = x } ∷ [];
  seen = again.seen ∙ ap (λ l. record { number = i; word = again.word } ∷ l) seen;
  began_is = rw (not_ready again.word.cell again.unready, ready) once;
}

-- a worker that counted, and was then counted off
pub ended_once : (c d e : Card) → counts d ≡ true → ended d ≡ ended c → ended e ≡ ended d + counted_as (counts d) → ended e ≡ ended c + 1
ended_once c d e now as_often once = counted (counts d) (ended c) (ended d) (ended e) now as_often once
  where
    counted : (b : Bool) (m n k : ℕ) → b ≡ true → n ≡ m → k ≡ n + counted_as b → k ≡ m + 1
    counted b m n k now same once = rw (now, same) at once

-- a worker that counts now and was not counted off
pub began_once : (c d : Card) → counts d ≡ true → ended d ≡ ended c → began d ≡ began c + (if counts c then 0 else 1)
began_once c d now as_often = counted (counts c) (counts d) (ended c) (ended d) now as_often
  where
    counted : (a b : Bool) (m n : ℕ) → b ≡ true → n ≡ m → n + counted_as b ≡ m + counted_as a + (if a then 0 else 1)
    counted true b m n now same = rw (now, same) (omega arith)
    counted false b m n now same = rw (now, same) (omega arith)

-- one that did not count, began to, and was counted off
pub began_and_ended : (c d : Card) → counts c ≡ false → counts d ≡ false → ended d ≡ ended c + 1 → began d ≡ began c + (if counts c then 0 else 1)
began_and_ended c d not now once = counted (counts c) (counts d) (ended c) (ended d) not now once
  where
    counted : (a b : Bool) (m n : ℕ) → a ≡ false → b ≡ false → n ≡ m + 1 → n + counted_as b ≡ m + counted_as a + (if a then 0 else 1)
    counted a b m n not now once = rw (not, now, once) (omega arith)

-- a worker that counts as before, and was not counted off in between
pub began_as : (c d : Card) → counts d ≡ counts c → ended d ≡ ended c → began d ≡ began c
began_as c d same as_often = counted (counts c) (counts d) (ended c) (ended d) same as_often
  where
    counted : (a b : Bool) (m n : ℕ) → b ≡ a → n ≡ m → n + counted_as b ≡ m + counted_as a
    counted a b m n same as_often = rw (same, as_often) refl

-- one that is counted off began no more
pub began_off : (c d : Card) → counts d ≡ false → ended d ≡ ended c + counted_as (counts c) → began d ≡ began c
began_off c d not once = counted (counts c) (counts d) (ended c) (ended d) not once
  where
    counted : (a b : Bool) (m n : ℕ) → b ≡ false → n ≡ m + counted_as a → n + counted_as b ≡ m + counted_as a
    counted a b m n not once = rw (not, once) (omega arith)

-- looks, and then more of them by a worker that counts if it counted
pub began_more : (u v w : View) (c d e : Card) → counts d ≡ counts c → BeganForEach u v c d → BeganForEach v w d e → BeganForEach u w c e
began_more u v w c d e same was now = record {
  looks = now.looks ++ was.looks;
  seen = now.seen ∙ ap (λ l. now.looks ++ l) was.seen ∙ sym (append_assoc now.looks was.looks u.looked.seen);
  began_is = rw (count_ready-append now.looks was.looks) (both (counts c) (counts d) (began c) (began d) (began e) (count_ready was.looks) (count_ready now.looks) same was.began_is now.began_is);
}
  where
    both : (a b : Bool) (x y z m n : ℕ) → b ≡ a → y ≡ x + (if a then 0 else m) → z ≡ y + (if b then 0 else n) → z ≡ x + (if a then 0 else n + m)
    both true b x y z m n same first later = let again = rw same at later in omega (arith, first, again)
    both false b x y z m n same first later = let again = rw same at later in omega (arith, first, again)

-- looks behind something that was no look at a cell, and on other cards, which say the same of when their workers counted
pub began_from : (u v w x : View) (c d e f : Card) → v.looked.seen ≡ u.looked.seen → x.looked.seen ≡ w.looked.seen → counts d ≡ counts c → began d ≡ began c → began f ≡ began e
    → BeganForEach v w d e → BeganForEach u x c f
began_from u v w x c d e f same_before same_after same as_often so_often was = record {
  looks = was.looks;
  seen = same_after ∙ was.seen ∙ ap (λ l. was.looks ++ l) same_before;
  began_is = so_often ∙ moved (counts c) (counts d) (began c) (began d) (began e) (count_ready was.looks) same as_often was.began_is;
}
  where
    moved : (a b : Bool) (x y z n : ℕ) → b ≡ a → y ≡ x → z ≡ y + (if b then 0 else n) → z ≡ x + (if a then 0 else n)
    moved a b x y z n same as_often later = rw (same, as_often) at later

-- looks of a player that read before how many are at work: b is the player as it began to look, and d its card since it read
pub began_since : (x b : Player) (d : Card) (w z : View) (e f : Card) → b.worker ≡ x.worker → b.card ≡ d → counts d ≡ counts x.card → ended d ≡ ended x.card
    → z.looked.seen ≡ w.looked.seen → began f ≡ began e → BeganForEach (view b.worker.desk) w b.card e → BeganForEach (view x.worker.desk) z x.card f
began_since x b d w z e f worker card counted as_often same_after so_often was =
    let same = ap counts card ∙ counted in
    began_from (view x.worker.desk) (view b.worker.desk) w z x.card b.card e f (ap (λ (y : Worker). (view y.desk).looked.seen) worker) same_after same (began_as x.card b.card same (ap ended card ∙ as_often)) so_often was

-- nothing was looked at after looks, and the worker began no more
pub began_on : (u v w : View) (c d e : Card) → w.looked.seen ≡ v.looked.seen → began e ≡ began d → BeganForEach u v c d → BeganForEach u w c e
began_on u v w c d e same as_often was = record { looks = was.looks; seen = same ∙ was.seen; began_is = as_often ∙ was.began_is }

-- numbers in a row were looked at, and then one more
pub through_more : (u v w : View) (from i : ℕ) → from ≤ i → LookedThrough from i u v → LookedThrough i (i + 1) v w → LookedThrough from (i + 1) u w
through_more u v w from i low was one = record {
  looks = one.looks ++ was.looks;
  seen = one.seen ∙ ap (λ l. one.looks ++ l) was.seen ∙ sym (append_assoc one.looks was.looks u.looked.seen);
  among = among_more from i one.looks was.looks low one.among was.among;
  each = each_of_more from i one.looks was.looks one.each was.each;
  unready_looks = let long = length-append one.looks was.looks in let ready = count_ready-append one.looks was.looks in let a = one.unready_looks in let b = was.unready_looks in omega (arith, low, long, ready, a, b);
  ready = let ready = count_ready-append one.looks was.looks in let a = one.ready in let b = was.ready in omega (arith, low, ready, a, b);
}

-- where numbers in a row came to their end, or there are none, all were looked at
pub through_all : (v w : View) (from i below : ℕ) → below ≤ i → i ≤ max from below → LookedThrough from i v w → LookedThrough from below v w
through_all v w from i below end within was = record {
  looks = was.looks;
  seen = was.seen;
  among = among_all from i below was.looks within was.among;
  each = λ k above low. was.each k above (omega (arith, low, end));
  unready_looks = let long = was.unready_looks in omega (arith, long, end, within);
  ready = let few = was.ready in omega (arith, few, end, within);
}

-- one more cell that was not ready
pub unready_more : (from i : ℕ) (v w : View) → AreUnready from i v.looked.seen → SawUnready v w i → AreUnready from (i + 1) w.looked.seen
unready_more from i v w was saw_it k above low = dite (ℕ_discrete k i)
    (λ e. (saw_it.word, subst (λ (n : ℕ). LastSeen n saw_it.word w.looked.seen) (sym e) saw_it.last, saw_it.unready))
    (λ ne. let r = was k above (omega (arith, low, ne)) in (r.0, saw_it.others k r.0 ne r.1, r.2))

-- no cell was looked at yet
pub unready_none : (n : ℕ) (v : View) → AreUnready n n v.looked.seen
unready_none n v k above low = absurd (omega (arith, above, low))

-- a worker without a task has none
pub none_there : (x : Option Task) → is_some x ≡ false → x ≡ None
none_there None e = refl
none_there (Some t) e = let z : true ≡ false = e in absurd (cc)

-- a firing that was started after looks, by a worker without a task whose desk kept what it kept
pub plays_since : (knows : ℕ → Type 0) (u v w : Worker) (i : ℕ) → u.task ≡ None → (view v.desk).kept ≡ (view u.desk).kept → PlaysFiring knows (view v.desk).kept v.task w i → PlaysFiring knows (view u.desk).kept u.task w i
plays_since knows u v w i none same plays = record {
  idle = none;
  known = plays.known;
  on_top = plays.on_top;
  fired = plays.fired;
  numbered = plays.numbered;
  there = plays.there;
  stay = λ e before. plays.stay e (subst (IsIn e) (sym same) before);
}

-- whichever it is
pub started_since : (knows : ℕ → Type 0) (u v w : Worker) → u.task ≡ None → (view v.desk).kept ≡ (view u.desk).kept → HasStarted knows v w → HasStarted knows u w
started_since knows u v w none same started = (started.0, plays_since knows u v w started.0 none same started.1)

-- a player that looked and found a firing, where b is the player as it began to look, and l as it was after it
pub found_first : (knows : ℕ → Type 0) (s : Space Parcel) (x b l y : Player) → b.worker ≡ x.worker → b.known ≡ x.known → BeginsLook x b.place b.misses
    → PlaysFiring knows (view b.worker.desk).kept b.worker.task l.worker l.place → b.place ≤ l.place → AreUnready b.place l.place (view l.worker.desk).looked.seen
    → LookedThrough b.place (l.place + 1) (view b.worker.desk) (view l.worker.desk) → (counts x.card ≡ false → last_read y.card ≢ Some 0 → l.place < b.known) → y.worker ≡ l.worker → y.place ≡ l.place → y.misses ≡ 0 → (counts x.card ≡ true → ended y.card ≡ ended x.card) → HasFound knows s x y
found_first knows s x b l y worker known begins plays onward before through fresh same_worker same_place missed throughout = record {
  from = b.place;
  onward = subst (λ (n : ℕ). b.place ≤ n) (sym same_place) onward;
  before = rw (same_worker, same_place) before;
  through = (view b.worker.desk, inl (b.misses, begins, ap (λ (w : Worker). (view w.desk).looked.seen) worker), rw (same_worker, same_place) through);
  fresh = λ not unread. let low = fresh not unread in omega (arith, low, same_place, known);
  plays = rw (same_worker, same_place, sym worker) plays;
  misses = missed;
  throughout = throughout;
}

-- a player that did not count looked from where its look begins, among all numbers, and found none: it was b before that look, and l after it
pub in_vain_near : (s : Space Parcel) (x b l : Player) (all : Bool) → all ≡ true → b.worker ≡ x.worker → BeginsLook x b.place b.misses → counts x.card ≡ false → KnowsCount s l
    → LookedThrough b.place (if all then l.known else min b.known l.known) (view b.worker.desk) (view l.worker.desk) → FoundNone s b.place (view l.worker.desk) → LookedInVain s x b.place (view l.worker.desk)
in_vain_near s x b l all among_all worker begins not knows looked none =
    let through = subst (λ (a : Bool). LookedThrough b.place (if a then l.known else min b.known l.known) (view b.worker.desk) (view l.worker.desk)) among_all looked in
    let known : l.known ≡ min none.count s.events = knows.2 ∙ ap (λ (n : ℕ). min n s.events) (same_Some knows.0 none.count (sym knows.1 ∙ none.counted)) in
    let after = through_from (view x.worker.desk) (view b.worker.desk) (view l.worker.desk) b.place l.known (ap (λ (w : Worker). (view w.desk).looked.seen) worker) through in record {
      uncounted = not;
      misses = b.misses;
      begins = begins;
      count = none.count;
      counted = none.counted;
      through = subst (λ (n : ℕ). LookedThrough b.place n (view x.worker.desk) (view l.worker.desk)) known after;
      unready = λ i above low. none.unready i above (omega (arith, low));
    }

-- a look behind one in vain, which leaves the worker alone where that one began at the first number, found a firing: so it did not
pub behind : (from : ℕ) (v w : Worker) → (from ≡ 0 → w ≡ v) → v.task ≡ None → w.task ≢ None → 0 < from
behind zero v w stays none some = absurd (some (ap (λ (u : Worker). u.task) (stays refl) ∙ none))
behind (suc n) v w stays none some = omega arith

-- or it found none
pub looked_again : (s : Space Parcel) (from : ℕ) (l z : Player) → (from ≡ 0 → z.worker ≡ l.worker) → (0 < from → LookedThrough 0 z.known (view l.worker.desk) (view z.worker.desk)) → (0 < from → KnowsCount s z)
    → LookedAgain s from (view l.worker.desk) (view z.worker.desk)
looked_again s zero l z stays through knows = inl (refl, ap (λ (w : Worker). (view w.desk).looked.seen) (stays refl))
looked_again s (suc n) l z stays through knows =
    let count = knows (omega arith) in
    inr (omega arith, (count.0, count.1, subst (λ (n : ℕ). LookedThrough 0 n (view l.worker.desk) (view z.worker.desk)) count.2 (through (omega arith))))

-- a player that did not count, read that nobody is at work, looked in vain and then looked from the first number on, and found a firing: it was l before that look, and z after it
pub found_far : (knows : ℕ → Type 0) (s : Space Parcel) (near : ℕ) (x l z y : Player) → LookedInVain s x near (view l.worker.desk) → 0 < near
    → LookedThrough 0 (z.place + 1) (view l.worker.desk) (view z.worker.desk) → x.worker.task ≡ None → (view l.worker.desk).kept ≡ (view x.worker.desk).kept
    → PlaysFiring knows (view l.worker.desk).kept l.worker.task z.worker z.place → AreUnready 0 z.place (view z.worker.desk).looked.seen → last_read y.card ≡ Some 0
    → y.worker ≡ z.worker → y.place ≡ z.place → y.misses ≡ 0 → HasFound knows s x y
found_far knows s near x l z y vain after through none kept plays before read same_worker same_place missed = record {
  from = 0;
  onward = omega arith;
  before = rw (same_worker, same_place) before;
  through = (view l.worker.desk, inr (refl, read, near, after, vain), rw (same_worker, same_place) through);
  fresh = λ not unread. absurd (unread read);
  plays = rw (same_worker, same_place) (plays_since knows x.worker l.worker z.worker z.place none kept plays);
  misses = missed;
  throughout = λ yes. let z : true ≡ false = sym yes ∙ vain.uncounted in absurd (cc);
}

-- a player that looked and found none, where b is the player as it began to look, and l as it was after it
pub found_none : (s : Space Parcel) (x b l y : Player) (all : Bool) → b.worker ≡ x.worker → b.known ≡ x.known → BeginsLook x b.place b.misses → all ≡ counts x.card
    → l.worker.task ≡ None → (view l.worker.desk).kept ≡ (view b.worker.desk).kept → LookedThrough b.place (if all then l.known else min b.known l.known) (view b.worker.desk) (view l.worker.desk)
    → l.place ≡ (if all then l.known else min b.known l.known) - 256 → FoundNoneBelow s b.place b.known (view l.worker.desk) → KnowsCount s l → x.worker.task ≡ None
    → y.worker ≡ l.worker → y.place ≡ l.place → y.known ≡ l.known → (counts x.card ≡ false → b.misses < 32 → y.misses ≡ b.misses + 1) → (counts x.card ≡ true → y.misses ≡ b.misses)
    → counts y.card ≡ false → (counts x.card ≡ false → last_read y.card ≢ Some 0) → HasFoundNone s x y
found_none s x b l y all worker known begins as_counted none kept through next unready count idle same_worker same_place same_known missed uncounted off others = record {
  from = b.place;
  misses = b.misses;
  below = if all then l.known else min b.known l.known;
  begins = begins;
  below_is = rw (as_counted, known, same_known) refl;
  through = rw (same_worker, sym worker) through;
  none = rw (same_worker, sym known) unready;
  place = same_place ∙ next;
  missed = missed;
  uncounted = uncounted;
  off = off;
  still = rw same_worker (none ∙ sym idle, kept ∙ ap (λ (w : Worker). (view w.desk).kept) worker);
  knows_count = (count.0, rw same_worker count.1, same_known ∙ count.2);
  others = others;
}

-- a look in vain of a player with another card, which counted where this one does
in_vain_by : (s : Space Parcel) (x : Player) (k : Card) (from : ℕ) (v : View) → counts k ≡ counts x.card → LookedInVain s (record x { card = k }) from v → LookedInVain s x from v
in_vain_by s x k from v same was = record {
  uncounted = sym same ∙ was.uncounted;
  misses = was.misses;
  begins = record { near = was.begins.near; far = was.begins.far };
  count = was.count;
  counted = was.counted;
  through = was.through;
  unready = was.unready;
}

-- and then it went
pub gone_by : (s : Space Parcel) (x y : Player) (k : Card) → counts k ≡ counts x.card → reads k ≡ reads x.card → HasGone s (record x { card = k }) y → HasGone s x y
gone_by s x y k same as_often = ⊎_elim (λ spent. inl spent) (λ far. inr (far.0 ∙ ap (λ (n : ℕ). n + 1) as_often, far.1, far.2, far.3, in_vain_by s x k far.2 far.3 same far.4, far.5))

-- a look of a player with another card, which counted where this one does, and was counted off as often
pub looked_by : (knows : ℕ → Type 0) (s : Space Parcel) (x y : Player) (k : Card) → counts k ≡ counts x.card → ended k ≡ ended x.card → HasLooked knows s (record x { card = k }) y → HasLooked knows s x y
looked_by knows s x y k same as_often (inl found) = inl (record {
  from = found.from;
  onward = found.onward;
  before = found.before;
  through = (
    found.through.0,
    ⊎_elim (λ near. inl (near.0, record { near = near.1.near; far = near.1.far }, near.2)) (λ far. inr (far.0, far.1, far.2, far.3, in_vain_by s x k far.2 found.through.0 same far.4)) found.through.1,
    found.through.2,
  );
  fresh = λ not. found.fresh (same ∙ not);
  plays = found.plays;
  misses = found.misses;
  throughout = λ yes. found.throughout (same ∙ yes) ∙ as_often;
})
looked_by knows s x y k same as_often (inr none) = inr (record {
  from = none.from;
  misses = none.misses;
  below = none.below;
  begins = record { near = none.begins.near; far = none.begins.far };
  below_is = none.below_is ∙ rw same refl;
  through = none.through;
  none = none.none;
  place = none.place;
  missed = λ not. none.missed (same ∙ not);
  uncounted = λ yes. none.uncounted (same ∙ yes);
  off = none.off;
  still = none.still;
  knows_count = none.knows_count;
  others = λ not. none.others (same ∙ not);
})
