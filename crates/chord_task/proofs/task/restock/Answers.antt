use Rattle.std.proofs.Common.{◌≡◌, ◌∙◌, refl, Option, Some, None, IsSomeAnd, Box, Global}
use Rattle.std.proofs.lemmas.Bool.{iff_false}
use Rattle.chord_vm.specs.declared.frames.Frames.{Frames}
use Rattle.chord_vm.specs.Frames.{AreBlank}
use Rattle.chord_task.specs.Standing.{IsSpareOf}
use Rattle.chord_task.proofs.Tasks.{on_ok_follows}
use Rattle.chord_task.proofs.task.restock.Goals as goal

what_is_there : {T : Type 0} {P : T → Type 0} (o : Option T) → IsSomeAnd o P → (x : T) × (o ≡ Some x) × P x
what_is_there None may = absurd may
what_is_there (Some x) may = (x, refl, may)

pub returns-then-may_serve-clause-some : goal.returns-then-may_serve-clause-some
returns-then-may_serve-clause-some c = let found = what_is_there c.args.ended.now (c.if-may_serve.ensures.0 refl) in (found.0, c.swap.ensures.x_after ∙ found.1, found.2)

pub returns-then-may_serve-clause-served : goal.returns-then-may_serve-clause-served
returns-then-may_serve-clause-served c = λ may. (c.swap.ensures.x_after, c.swap.ensures.y_after ∙ c.requires, refl)

pub returns-clause-served : goal.returns-clause-served
returns-clause-served c = λ may. absurd (iff_false c.if-may_serve.ensures refl may)

pub returns-then-may_serve-clause-lean : goal.returns-then-may_serve-clause-lean
returns-then-may_serve-clause-lean c = λ none. absurd (none (c.if-may_serve.ensures.0 refl))

pub returns-clause-lean : goal.returns-clause-lean
returns-clause-lean c =
    on_ok_follows (IsSomeAnd c.put_new.new.spare (λ (f : Box Frames Global). AreBlank c.args.code.now f.value))
    ((IsSomeAnd c.args.ended.now (λ (f : Box Frames Global). IsSpareOf c.args.code.now c.args.limits.now f.value) → ⊥) → IsSomeAnd c.put_new.new.spare (λ (f : Box Frames Global). AreBlank c.args.code.now f.value))
    c.put_new.result (λ blank _. blank) c.put_new.ensures.lean
