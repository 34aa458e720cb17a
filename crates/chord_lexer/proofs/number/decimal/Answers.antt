use Rattle.std.proofs.Common.{◌≡◌, ◌+◌, false, drop, get_or, arith, sym, ◌∙◌}
use Rattle.chord_lexer.specs.Letters.{is_digit, first_passes}
use Rattle.chord_lexer.proofs.Runs.{all_pass_more, first_passes_at, first_passes_past}
use Rattle.chord_lexer.proofs.Numbering.{digit_range, value_step, value_large}
use Rattle.chord_lexer.proofs.number.decimal.Goals.{then-loop-at-test+else-is_ascii_digit, else-loop-at-test}
use Rattle.chord_lexer.proofs.number.decimal.Goals as goal

pub overflow_sub-value : goal.overflow_sub-value
overflow_sub-value c = (digit_range _ (sym c.if-is_ascii_digit.ensures.value)).0

pub overflow_cast-value : goal.overflow_cast-value
overflow_cast-value c = let r = digit_range (get_or c.args.text.now c.loop-at.at 0) (sym c.if-is_ascii_digit.ensures.value) in omega arith

pub overflow_add-value : goal.overflow_add-value
overflow_add-value c =
    let r = digit_range (get_or c.args.text.now c.loop-at.at 0) (sym c.if-is_ascii_digit.ensures.value) in
    let m = c.loop-at.invariant.1 in
    omega arith

pub returns-then-value-gt-MAX_NUMBER-clause-none : goal.returns-then-value-gt-MAX_NUMBER-clause-none
returns-then-value-gt-MAX_NUMBER-clause-none c = record {
  size = c.loop-at.at + 1;
  digits = all_pass_more is_digit _ _ c.loop-at-test.true c.loop-at.invariant.2 (sym c.if-is_ascii_digit.ensures.value);
  large = value_large _ _ _ c.loop-at-test.true c.loop-at.invariant.3 c.if-value-gt-MAX_NUMBER.true;
}

pub loop-at-preserved : goal.loop-at-preserved
loop-at-preserved c = (let l = c.loop-at-test.true in omega arith, c.if-value-gt-MAX_NUMBER.false, all_pass_more is_digit _ _ c.loop-at-test.true c.loop-at.invariant.2 (sym c.if-is_ascii_digit.ensures.value), value_step _ _ _ c.loop-at-test.true c.loop-at.invariant.3)

pub returns-clause-some : goal.returns-clause-some
returns-clause-some c =
    let ends : first_passes is_digit (drop c.loop-at.at c.args.text.now) ≡ false = elim c.loop-at-test.branch [
      | then-loop-at-test+else-is_ascii_digit w ↦ first_passes_at is_digit _ _ w.loop-at-test.true ∙ sym w.if-is_ascii_digit.ensures.value
      | else-loop-at-test w ↦ first_passes_past is_digit _ _ w.loop-at-test.false
    ] in
    record { within = c.loop-at.invariant.0; run = (c.loop-at.invariant.2, ends); is = c.loop-at.invariant.3; small = c.loop-at.invariant.1 }
