use Rattle.std.proofs.Common.{◌≡◌, ℕ, List, [], Some, refl, sym, ap, ◌∙◌}
use Rattle.std.proofs.lemmas.Option.{slice_get_past, slice_get-get_or}
use Rattle.chord_base.specs.declared.value.Object.{Object}
use Rattle.chord_base.specs.declared.value.Value as value
use Rattle.chord_base.specs.declared.event.What.{What}
use Rattle.chord_base.specs.declared.event.What.TheVariants.{Begun, Made, Sent, Called, Printed, Fired, Ended}
use Rattle.chord_base.specs.Messages.{members_of}
use Rattle.chord_base.proofs.journal.has_caller.Goals as goal

not_fired : (w : What) → ((k : ℕ) (o : Object) (ms : List ℕ) (vs : List value.Value) → w ≡ Fired k o ms vs → ⊥) → members_of w ≡ []
not_fired (Fired k o ms vs) f = absurd (f k o ms vs refl)
not_fired Begun f = refl
not_fired (Made c) f = refl
not_fired (Sent o j vs) f = refl
not_fired (Called o j vs) f = refl
not_fired (Printed t) f = refl
not_fired (Ended x) f = refl

pub returns-in-None : goal.returns-in-None
returns-in-None c = let x = c.in-None.ensures in rw (slice_get_past c.args.entries.now c.args.body x.lookup.3) refl

pub returns-in_default : goal.returns-in_default
returns-in_default c =
    let x = c.in-Some.ensures.lookup in
    let e = slice_get-get_or c.args.entries.now c.args.body c.in-Some.entry.now x.3.0 ∙ ap Some (sym x.1) in
    rw (e, not_fired c.in-Some.entry.now.what c.in_default.not-Fired) refl

pub returns-in-Fired : goal.returns-in-Fired
returns-in-Fired c =
    let x = c.in-Some.ensures.lookup in
    let e = slice_get-get_or c.args.entries.now c.args.body c.in-Some.entry.now x.3.0 ∙ ap Some (sym x.1) in
    rw (e, c.in-Fired.is, ← c.items.ensures.numbers) c.has_call.ensures
