-- Digits so far that stand for too much stand for too much with those behind them.
use Rattle.std.proofs.Common.{◌+◌, arith}
use Rattle.std.proofs.lemmas.Str.Parse.{digits_value-take-le}
use Rattle.chord_journal.proofs.Digits.{value_next, value_if_above}
use Rattle.chord_journal.proofs.parts.value_below.Goals as goal

pub returns-then-value-bound-clause-read : goal.returns-then-value-bound-clause-read
returns-then-value-bound-clause-read c =
    let i = c.loop-digit.digit-index in
    let next = value_next c.args.digits.now i c.loop-digit-test.true (c.requires.digits i c.loop-digit-test.true) in
    let front = digits_value-take-le 10 c.args.digits.now (i + 1) (omega arith) in
    value_if_above c.args.bound c.args.digits.now (omega (arith, next, front, c.loop-digit.invariant.value, c.if-value-bound.true, c.from.ensures, c.from-bound.ensures))

pub loop-digit-preserved : goal.loop-digit-preserved
loop-digit-preserved c =
    let i = c.loop-digit.digit-index in
    let next = value_next c.args.digits.now i c.loop-digit-test.true (c.requires.digits i c.loop-digit-test.true) in
    record { value = omega (arith, next, c.loop-digit.invariant.value, c.from.ensures); below = omega arith }
