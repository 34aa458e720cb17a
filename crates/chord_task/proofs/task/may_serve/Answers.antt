use Rattle.std.proofs.Common.{IsSomeAnd, subst, sym}
use Rattle.std.proofs.lemmas.Bool.{true_from_ne_false}
use Rattle.chord_task.specs.Standing.{IsSpareOf}
use Rattle.chord_task.proofs.task.may_serve.Goals as goal

pub returns-in-Some : goal.returns-in-Some
returns-in-Some c =
    let fit = IsSpareOf c.args.code.now c.args.limits.now in (
      λ yes.
          let there = subst fit c.deref.ensures (record { room = c.can_begin.ensures.room yes; limited = c.can_begin.ensures.limits yes }) in
          subst (λ o. IsSomeAnd o (λ f. fit f.value)) (sym c.in-Some.is) there,
      λ may.
          let there = subst fit (sym c.deref.ensures) (subst (λ o. IsSomeAnd o (λ f. fit f.value)) c.in-Some.is may) in
          true_from_ne_false c.can_begin.result (λ no. c.can_begin.ensures.none no there.room there.limited),
    )
