-- The values so far, and then the next.
use Rattle.std.proofs.Common.{◌≡◌, ◌<◌, ◌∙◌, sym, length, arith, length-append, ◌∷◌, []}
use Rattle.std.proofs.lemmas.Result.{err_from_is_err_and}
use Rattle.chord_journal.specs.Reading.{begins_blank, next_value_at, values_at}
use Rattle.chord_journal.proofs.Many.{many_next, many_wrong, many_full, many_end}
use Rattle.chord_journal.proofs.Faults.{Fails-whole}
use Rattle.chord_journal.proofs.values.read_values.Goals as goal

pub returns-then-len-most : goal.returns-then-len-most
returns-then-len-most c =
    let begun = sym c.begins_blank.ensures ∙ c.loop-alloc-test.true in
    let full : length c.loop-alloc.values.items ≡ c.args.most =
    omega (arith, c.len.ensures, c.if-len-most.true, c.loop-alloc.invariant.few, c.loop-alloc.values.ok.0) in
    sym c.loop-alloc.invariant.read ∙ many_full begins_blank next_value_at c.args.most _ _ begun full

pub returns-in_err-value : goal.returns-in_err-value
returns-in_err-value c =
    let failed = err_from_is_err_and c.from_residual.result c.from_residual.ensures.1 in
    let begun = sym c.begins_blank.ensures ∙ c.loop-alloc-test.true in
    rw (failed.1, failed.2)
    (Fails-whole _ (next_value_at c.loop-alloc.rest.now) (values_at c.args.most c.args.bytes.now)
    (λ wrong. sym c.loop-alloc.invariant.read ∙ many_wrong begins_blank next_value_at _ _ _ begun wrong) c.in_err-value.ensures)

pub loop-alloc-preserved : goal.loop-alloc-preserved
loop-alloc-preserved c =
    let begun = sym c.begins_blank.ensures ∙ c.loop-alloc-test.true in
    let less : length c.loop-alloc.values.items < c.args.most = omega (arith, c.len.ensures, c.if-len-most.false, c.loop-alloc.values.ok.0) in
    rw c.in_ok-push.ensures.items
    (record {
      few = omega (arith, less, length-append c.loop-alloc.values.items (c.in_ok-value.value ∷ []));
      read = many_next begins_blank next_value_at c.args.most _ _ _ _ less begun c.in_ok-value.ensures ∙ c.loop-alloc.invariant.read;
    })

pub returns : goal.returns
returns c =
    let ended = sym c.begins_blank.ensures ∙ c.loop-alloc-test.false in
    rw c.of_items.ensures (sym c.loop-alloc.invariant.read ∙ many_end begins_blank next_value_at _ _ _ ended)
