-- The bytes so far, and then the next.
use Rattle.std.proofs.Common.{◌∙◌, sym, ap, arith, List, ℕ, Some, length}
use Rattle.std.proofs.lemmas.Result.{err_from_is_err_and}
use Rattle.chord_journal.specs.Reading.{begins_digit, byte_at, text_at}
use Rattle.chord_journal.proofs.Many.{with_prefix_nothing, many_next, many_wrong, many_full, many_end}
use Rattle.chord_journal.proofs.Faults.{Fails-whole}
use Rattle.chord_journal.proofs.parts.read_text.Goals as goal

pub loop-text-init : goal.loop-text-init
loop-text-init c = rw c.new-text.ensures (with_prefix_nothing _)

pub returns-in_err-byte-clause-read : goal.returns-in_err-byte-clause-read
returns-in_err-byte-clause-read c =
    let failed = err_from_is_err_and c.from_residual.result c.from_residual.ensures.1 in
    let begun = sym c.begins_digit.ensures ∙ c.loop-text-test.true in
    rw (failed.1, failed.2)
    (Fails-whole _ (byte_at c.loop-text.rest.now) (text_at c.args.bytes.now) (λ wrong. sym c.loop-text.invariant ∙ many_wrong begins_digit byte_at _ _ _ begun wrong) c.in_err-byte.ensures.read)

pub returns-then-remaining_capacity-eq0-clause-read : goal.returns-then-remaining_capacity-eq0-clause-read
returns-then-remaining_capacity-eq0-clause-read c =
    let begun = sym c.begins_digit.ensures ∙ c.loop-text-test.true in
    sym c.loop-text.invariant ∙ many_full begins_digit byte_at 1024 _ _ begun (omega (arith, c.remaining_capacity.ensures))

pub loop-text-preserved : goal.loop-text-preserved
loop-text-preserved c =
    let begun = sym c.begins_digit.ensures ∙ c.loop-text-test.true in
    rw c.push.ensures.items (many_next begins_digit byte_at 1024 _ _ _ _ (omega (arith, c.remaining_capacity.ensures)) begun c.in_ok-byte.ensures.read ∙ c.loop-text.invariant)

pub returns-in-Ok-clause-read : goal.returns-in-Ok-clause-read
returns-in-Ok-clause-read c =
    let ended = sym c.begins_digit.ensures ∙ c.loop-text-test.false in
    sym c.loop-text.invariant ∙ many_end begins_digit byte_at _ _ _ ended ∙ ap (λ (x : List ℕ). Some (x, c.loop-text.rest.now))
    (sym c.as_slice.ensures.value ∙ sym c.in-Ok.ensures.made)

pub returns-in-Err-clause-memory : goal.returns-in-Err-clause-memory
returns-in-Err-clause-memory c = λ memory.
    let ended = sym c.begins_digit.ensures ∙ c.loop-text-test.false in (
      c.loop-text.text.items,
      c.loop-text.rest.now,
      sym c.loop-text.invariant ∙ many_end begins_digit byte_at _ _ _ ended,
      grind (arith, ap length c.as_slice.ensures.value, c.in-Err.ensures.short),
    )
