-- A task that came to its ask, which is with its caller.
use Rattle.std.proofs.Common.{◌≡◌, ◌≢◌, List, Some, None, refl, sym, ap, ◌∙◌, subst, Box, Global, reverse}
use Rattle.chord_base.specs.declared.event.Entry.{Entry}
use Rattle.chord_base.specs.declared.event.Limits.{Limits}
use Rattle.chord_base.specs.declared.event.What.{What}
use Rattle.chord_base.specs.declared.event.What.TheVariants.{Begun, Made, Sent, Called, Printed, Fired, Ended}
use Rattle.chord_code.specs.declared.parts.Parts.{Parts}
use Rattle.chord_code.specs.Meaning.{Point, code_program, stands}
use Rattle.chord_vm.specs.declared.frames.Frames.{Frames}
use Rattle.chord_vm.specs.declared.ask.Ask.{Ask}
use Rattle.chord_vm.specs.Frames.{machine_of, what_of_ask, Advanced}
use Rattle.chord_task.specs.declared.body.Next.{Next}
use Rattle.chord_task.specs.declared.body.Next.TheVariants as nexts
use Rattle.chord_task.specs.declared.body.Body.{Body}
use Rattle.chord_task.specs.declared.task.Task.{Task}
use Rattle.chord_task.specs.Stacks.{IsNext}
use Rattle.chord_task.specs.Standing.{body_number, view_of, given_of, given_by, GivenBy, NextIs, IsTop, IsTaskOf}
use Rattle.chord_task.specs.Turning.{RunsOn, IsKept, HasCome}
use Rattle.chord_task.proofs.Asking.{given_is, given_next}
use Rattle.chord_task.proofs.Notes.{stack_view}
use Rattle.chord_task.proofs.Tasks.{stack_at}
use Rattle.chord_task.proofs.Turning.{with_body, with_frames, with_next, is_asked_for, asked_next}

-- what a body keeps where its code stands is an ask
kept_at : (code : Parts) (limits : Limits) (n : Next) (f : Frames) (point : Point) → NextIs code limits n f point → given_of n ≢ None → IsKept n
kept_at code limits nexts.Runs f point is some = absurd (some refl)
kept_at code limits (nexts.Gave Begun) f point is some = is
kept_at code limits (nexts.Gave (Made c)) f point is some = tt
kept_at code limits (nexts.Gave (Sent o j vs)) f point is some = tt
kept_at code limits (nexts.Gave (Called o j vs)) f point is some = tt
kept_at code limits (nexts.Gave (Printed t)) f point is some = tt
kept_at code limits (nexts.Gave (Fired k o ms vs)) f point is some = is
kept_at code limits (nexts.Gave (Ended e)) f point is some = is
kept_at code limits (nexts.Ends x y) f point is some = is.2
kept_at code limits (nexts.Fails t) f point is some = absurd (some refl)
kept_at code limits (nexts.Waits q) f point is some = absurd (some refl)

-- what the body on top keeps is an ask
kept_by : (code : Parts) (limits : Limits) (h : List Entry) (b : Body) (n : Next) → b.next ≡ n → IsTop code limits h n b → given_of n ≢ None → IsKept n
kept_by code limits h b nexts.Runs e up some = absurd (some refl)
kept_by code limits h b (nexts.Gave w) e up some = kept_at code limits (nexts.Gave w) b.frames.value (stands code limits up.start up.depth up.answers) (subst (λ (n : Next). NextIs code limits n b.frames.value (stands code limits up.start up.depth up.answers)) e up.next) some
kept_by code limits h b (nexts.Ends x y) e up some = kept_at code limits (nexts.Ends x y) b.frames.value (stands code limits up.start up.depth up.answers) (subst (λ (n : Next). NextIs code limits n b.frames.value (stands code limits up.start up.depth up.answers)) e up.next) some
kept_by code limits h b (nexts.Fails t) e up some = absurd (some refl)
kept_by code limits h b (nexts.Waits q) e up some = absurd (some refl)

-- what a task keeps is an ask
pub keeps_ask : (code : Parts) (limits : Limits) (t : Task) (b : Body) → IsTaskOf code limits t → t.top ≡ Some b → given_by t.top ≢ None → IsKept b.next
keeps_ask code limits t b k top some = kept_by code limits (view_of t).past b b.next refl (stack_at code limits t b k top).0 (λ none. some (ap given_by top ∙ none))

-- a task with this body on top is seen so
seen_so : (t : Task) (b : Body) → t.top ≡ Some b → stack_view (reverse t.past) (Some b.number) ≡ view_of t
seen_so t b top = ap (stack_view (reverse t.past)) (sym (ap body_number top))

-- the frames of a body that runs came to the ask
pub came_run : (code : Parts) (limits : Limits) (t : Task) (b : Body) (f : Box Frames Global) (a : Ask) → IsTaskOf code limits t → RunsOn t.top → t.top ≡ Some b → Advanced code (machine_of b.frames.value) a f.value → HasCome code limits t (with_body t (with_frames b f)) (what_of_ask a)
came_run code limits t b f a k r top adv =
    record {
      asked = is_asked_for code limits t b f a k r top adv;
      next = asked_next code limits t b f a k r top adv;
      view = seen_so t b top;
      past = refl;
      limited = k.limited;
    }

-- the body on top, whose frames have come to the ask where they stand
pub came_so : (code : Parts) (limits : Limits) (t : Task) (b : Body) (a : Ask) → IsTaskOf code limits t → RunsOn t.top → t.top ≡ Some b → Advanced code (machine_of b.frames.value) a b.frames.value → HasCome code limits t t (what_of_ask a)
came_so code limits t b a k r top adv =
    let so : with_body t b ≡ t = ap (λ o. record { past = t.past; top = o; below = t.below; spare = t.spare; ended = t.ended; values = t.values; limits = t.limits; enclosed = t.enclosed }) (sym top) in
    subst (λ s. HasCome code limits t s (what_of_ask a)) so (came_run code limits t b b.frames a k r top adv)

-- the ask that a task kept was taken out
pub came_kept : (code : Parts) (limits : Limits) (t t' : Task) (b : Body) (n : Next) (w : What) → n ≡ nexts.Runs → IsTaskOf code limits t' → view_of t' ≡ view_of t → t'.past ≡ t.past → t'.top ≡ Some b → GivenBy w b.next → HasCome code limits t (with_body t' (with_next b n)) w
came_kept code limits t t' b n w runs k view past top given =
    record {
      asked =
          record {
            body = with_next b n;
            asked = b;
            on_top = refl;
            runs = runs;
            number = refl;
            frames = refl;
            given = given;
            task =
                subst (λ l. IsTaskOf code l (with_body t' b)) (sym k.limited)
                (subst (λ o. IsTaskOf code limits (record { past = t'.past; top = o; below = t'.below; spare = t'.spare; ended = t'.ended; values = t'.values; limits = t'.limits; enclosed = t'.enclosed })) top k);
          };
      next = subst (λ v. IsNext (code_program code limits) v w) view (given_next code limits t' w k (ap given_by top ∙ given_is w b.next given));
      view = seen_so t' b top ∙ view;
      past = past;
      limited = k.limited;
    }
