-- The numbers so far, and then the next.
use Rattle.std.proofs.Common.{◌≡◌, ◌∙◌, sym, arith, length-append, ◌∷◌, [], ◌-◌}
use Rattle.std.proofs.lemmas.Result.{err_from_is_err_and}
use Rattle.chord_journal.specs.Reading.{next_number_at, numbers_at}
use Rattle.chord_journal.proofs.Many.{with_prefix_nothing, numbers_next, numbers_wrong, numbers_end}
use Rattle.chord_journal.proofs.Faults.{Fails-whole}
use Rattle.chord_journal.proofs.values.read_members.Goals as goal

pub loop-init : goal.loop-init
loop-init c =
    let all : c.args.count - 0 ≡ c.args.count = omega arith in
    rw (c.new-members.ensures, all) (record { counted = omega arith; read = with_prefix_nothing _ })

pub returns-in_err-number-clause-read : goal.returns-in_err-number-clause-read
returns-in_err-number-clause-read c =
    let failed = err_from_is_err_and c.from_residual.result c.from_residual.ensures.1 in
    rw (failed.1, failed.2)
    (Fails-whole _ (next_number_at c.loop.rest.now) (numbers_at c.args.count c.args.bytes.now)
    (λ wrong. sym c.loop.invariant.read ∙ numbers_wrong c.args.count _ _ (omega (arith, c.loop.invariant.counted, c.loop-test.true)) wrong) c.in_err-number.ensures.read)

pub loop-preserved : goal.loop-preserved
loop-preserved c =
    rw c.push.ensures
    (record {
      counted = omega (arith, c.loop.invariant.counted, length-append c.loop.members (c.in_ok-number.number ∷ []));
      read = numbers_next c.args.count _ _ _ _ (omega (arith, c.loop.invariant.counted, c.loop-test.true)) c.in_ok-number.ensures.read ∙ c.loop.invariant.read;
    })

pub returns-clause-read : goal.returns-clause-read
returns-clause-read c = sym c.loop.invariant.read ∙ numbers_end c.args.count _ _ (omega (arith, c.loop.invariant.counted, c.loop-test.false, c.loop.auto.counter-end))
