use Rattle.std.proofs.Common.{subst, IsSomeAnd, Box, Global}
use Rattle.chord_vm.specs.declared.frames.Frames.{Frames}
use Rattle.chord_vm.specs.Frames.{AreBlank}
use Rattle.chord_task.specs.Standing.{HasRoomFor, IsSpareOf, IsStocked}
use Rattle.chord_task.proofs.Tasks.{on_ok_follows}
use Rattle.chord_task.proofs.task.reserve_spare.Goals as goal

pub returns-in-Some-clause-some : goal.returns-in-Some-clause-some
returns-in-Some-clause-some c = (c.in-Some.field-0, c.in-Some.is, subst (HasRoomFor c.args.code.now c.args.limits.now) c.in-Some.is c.requires)

pub returns-in-None-clause-stocked : goal.returns-in-None-clause-stocked
returns-in-None-clause-stocked c =
    on_ok_follows ((IsSomeAnd c.args.ended.now (λ (f : Box Frames Global). IsSpareOf c.args.code.now c.args.limits.now f.value) → ⊥) → IsSomeAnd c.restock.new.spare (λ (f : Box Frames Global). AreBlank c.args.code.now f.value))
    (IsStocked c.args.code.now c.args.limits.now c.args.spare.now c.args.ended.now c.restock.new.spare c.restock.new.ended)
    c.restock.result
    (λ blank. record { stays = λ some. absurd (some c.in-None.is); again = λ _ may. let s = c.restock.ensures.served may in (s.0, s.1); fresh = λ _ none. blank none })
    c.restock.ensures.lean
