-- A worker whose message was sent off minds it.
use Rattle.std.proofs.Common.{◌≡◌, ◌≢◌, ℕ, Bool, false, not, List, [], ◌∷◌, Option, Some, None, refl, sym, ap, ◌∙◌, subst}
use Rattle.std.proofs.lemmas.Bool.{eq-eqb}
use mathlib.Core.Path.{Path}
use Rattle.chord_base.specs.declared.event.What.{What}
use Rattle.chord_base.specs.declared.event.What.TheVariants.{Sent, Called}
use Rattle.chord_base.specs.declared.event.Entry.{Entry}
use Rattle.chord_base.specs.declared.event.Limits.{Limits}
use Rattle.chord_base.specs.declared.value.Object.{Object}
use Rattle.chord_base.specs.declared.value.Value as value
use Rattle.chord_bag.specs.Reads.{messages_and_bags}
use Rattle.chord_code.specs.declared.parts.Parts.{Parts}
use Rattle.chord_rule.specs.declared.view.Duty.{Duty}
use Rattle.chord_rule.specs.declared.view.View.{View}
use Rattle.chord_rule.specs.Duties.{duty_on}
use Rattle.chord_rule.specs.Kinds.{is_among, entry, left_by, without, fresh_after}
use Rattle.chord_space.specs.declared.space.Space.{Space}
use Rattle.chord_space.specs.Desks.{view, space_code, space_limits, program_of, IsSameDesk}
use Rattle.chord_space.specs.Gives.{MayLink}
use Rattle.chord_task.specs.declared.parcel.Opened.{Opened as Parcel}
use Rattle.chord_task.specs.declared.task.Task.{Task}
use Rattle.chord_task.specs.Standing.{view_of}
use Rattle.chord_worker.specs.declared.worker.Worker.{Worker}
use Rattle.chord_worker.specs.Playing.{DrawsOne, IsNotedAs}
use Rattle.chord_worker.specs.Resting.{IsInMemory, MayContinue, IsStock, IsStockTask, IsAtRest, IsSameRole}
use Rattle.chord_worker.specs.Sending.{IsSentOff, Minds}
use Rattle.chord_worker.proofs.Attending.{role_on}
use Rattle.chord_worker.proofs.Listed.{lists_same, one_more_listed}
use Rattle.chord_worker.proofs.Parked.{letter_links, call_links}
use Rattle.chord_worker.proofs.Parts.{all_kept, kept_rises}

-- a task in stock that is there
pub in_stock : (code : Parts) (limits : Limits) (x : Option Task) → IsStock code limits x → x ≢ None → (t : Task) × (x ≡ Some t) × IsStockTask code limits t
in_stock code limits None s ne = absurd (ne refl)
in_stock code limits (Some t) s ne = (t, refl, s)

-- a number is not among what is left without it
pub alone_gone : (n : ℕ) → without n (n ∷ []) ≡ []
alone_gone n = rw (eq-eqb n n refl) refl

-- where a task's past has gone, the rest is in memory
pub task_gone : (code : Parts) (limits : Limits) (es : List Entry) (spent : Bool) (t : Task) → IsInMemory code limits es spent (Some t) → IsInMemory code limits (left_by (view_of t).past es) spent None
task_gone code limits es spent t m = record {
  rises = kept_rises (λ n. not (is_among (view_of t).past n)) es m.rises;
  told = m.played.1.stays;
  played = tt;
  quiet = m.quiet;
}

module _ (s : Space Parcel) (w : Worker) (t : Task) (r : IsAtRest s (record w { task = Some t })) (t' : Task) (n : ℕ) (v : View) where
  module _ (o : Object) (j : ℕ) (vs : List value.Value) (noted : IsNotedAs (space_code s) (space_limits s) (view w.desk) v t t' n (Sent o j vs)) where
    -- the message may be linked with a letter
    pub letter_may : MayLink (program_of s) v n o j [] vs
    letter_may = subst (λ (z : View). MayLink (program_of s) z n o j [] vs) (sym noted.drawn)
        (letter_links (program_of s) (view w.desk) r.free n noted.body noted.below o j vs (noted.memory (view w.desk).spent r.memory).told)

    -- what is in memory once it was sent
    pub letter_memory : (u : View) (k : ℕ) → IsSentOff v u n k [] → IsInMemory (space_code s) (space_limits s) u.kept (view w.desk).spent (Some t')
    letter_memory u k sent = subst (λ (es : List Entry). IsInMemory (space_code s) (space_limits s) es (view w.desk).spent (Some t'))
        (sym (sent.kept ∙ all_kept v.kept ∙ ap (λ (z : View). z.kept) noted.drawn)) (noted.memory (view w.desk).spent r.memory)

  module _ (o : Object) (j : ℕ) (vs : List value.Value) (noted : IsNotedAs (space_code s) (space_limits s) (view w.desk) v t t' n (Called o j vs)) where
    -- the call may be linked with its task
    pub task_may : MayLink (program_of s) v n o j (view_of t').past vs
    task_may = subst (λ (z : View). MayLink (program_of s) z n o j (view_of t').past vs) (sym noted.drawn)
        (call_links (program_of s) (view w.desk) r.free n noted.body noted.below o j vs (view_of t') noted.task.task noted.task.is_defined (view_of t).past noted.past (noted.top refl) noted.asks
        (noted.memory (view w.desk).spent r.memory).played.1)

    -- a body of the task is left
    pub task_left : (view_of t').top ≢ None
    task_left e = let z : Path (Option ℕ) None (Some noted.body) = sym e ∙ noted.top refl in cc

    -- what is in memory once it was sent
    pub task_memory : (u : View) (k : ℕ) → IsSentOff v u n k (view_of t').past → IsInMemory (space_code s) (space_limits s) u.kept (view w.desk).spent None
    task_memory u k sent = subst (λ (es : List Entry). IsInMemory (space_code s) (space_limits s) es (view w.desk).spent None)
        (sym (sent.kept ∙ ap (λ (z : View). left_by (view_of t').past z.kept) noted.drawn))
        (task_gone (space_code s) (space_limits s) (entry n noted.body (Called o j vs) ∷ (view w.desk).kept) (view w.desk).spent t' (noted.memory (view w.desk).spent r.memory))

  module _ (what : What) (noted : IsNotedAs (space_code s) (space_limits s) (view w.desk) v t t' n what) (message : fresh_after n what [] ≡ n ∷ []) (room : (view w.desk).spent ≡ false) (stock : w.spare ≢ None)
      (w' : Worker) (k : ℕ) (es : List Entry) (sent : IsSentOff v (view w'.desk) n k es) (same : IsSameDesk w.desk w'.desk) (spare : w'.spare ≡ w.spare) (spent : w'.spent ≡ w.spent) where
    -- the worker minds the message
    pub now_minds : IsInMemory (space_code s) (space_limits s) (view w'.desk).kept (view w.desk).spent w'.task → MayContinue w'.task → DrawsOne (view w.desk).draws v.draws w.draws.items w'.draws.items → w'.taken.items ≡ w.taken.items → Minds s w' n k
    now_minds memory goes_on one taken = let x = in_stock (space_code s) (space_limits s) w.spare r.stock stock in record {
      desk = same.0 ∙ r.desk;
      untold = spent ∙ r.told ∙ room;
      room = sent.spent ∙ ap (λ (z : View). z.spent) noted.drawn ∙ room;
      free = record {
        claims = sent.claims ∙ ap (λ (z : View). z.claims) noted.drawn ∙ r.free.claims;
        flight = sent.flight;
        fresh = sent.fresh ∙ ap (λ (z : View). without n z.fresh) noted.drawn ∙ ap (λ (xs : List ℕ). without n (fresh_after n what xs)) r.free.fresh ∙ ap (without n) message ∙ alone_gone n;
      };
      duty = ap messages_and_bags (sent.duties ∙ ap (λ (z : View). duty_on n k ∷ z.duties) noted.drawn ∙ ap (λ (ds : List Duty). duty_on n k ∷ ds) (r.duties room));
      memory = subst (λ (b : Bool). IsInMemory (space_code s) (space_limits s) (view w'.desk).kept b w'.task) room memory;
      goes_on = goes_on;
      stock = x.0;
      spare = spare ∙ x.1;
      is_stock = x.2;
      listed = lists_same w'.draws.items w'.draws.items w'.taken.items w'.taken.items v.draws (view w'.desk).draws refl refl sent.draws (one_more_listed w.draws.items w'.draws.items w.taken.items w'.taken.items (view w.desk).draws v.draws one taken r.listed);
    }

    -- and has its role still
    pub minds_role : IsSameRole (view w.desk) (view w'.desk)
    minds_role = role_on (view w.desk) v (view w'.desk) record {
      first = ap (λ (z : View). z.first) noted.drawn;
      lent = ap (λ (z : View). z.lent) noted.drawn;
      splits = ap (λ (z : View). z.splits) noted.drawn;
      drawn = λ e. ap (λ (z : View). z.drawn) noted.drawn;
    } sent.role
