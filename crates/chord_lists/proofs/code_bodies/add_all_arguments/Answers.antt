use Rattle.std.proofs.Common.{◌∙◌, ◌<◌, ◌++◌, length, take, get_or, arith, sym, ap}
use Rattle.std.proofs.lemmas.List.{take_more}
use Rattle.chord_lists.specs.CodeStands.{message_at, sent_arguments}
use Rattle.chord_lists.proofs.Laying.{values_more, message_there, few_laid}
use Rattle.chord_lists.proofs.code_bodies.add_all_arguments.Goals as goal

pub add_arguments-requires-clause-there : goal.add_arguments-requires-clause-there
add_arguments-requires-clause-there c =
    let ms = c.args.members.now in
    let k = c.loop-number.number-index in
    let lt : k < length ms = omega (arith, c.loop-number-test.true) in
    rw c.from.ensures (message_there c.args.entries.now ms k lt c.requires.there)

pub add_arguments-requires-clause-few : goal.add_arguments-requires-clause-few
add_arguments-requires-clause-few c =
    let ms = c.args.members.now in
    let k = c.loop-number.number-index in
    let lt : k < length ms = omega (arith, c.loop-number-test.true) in
    let laid = ap length c.loop-number.invariant in
    let few = few_laid c.args.entries.now ms k lt in
    rw c.from.ensures (omega (arith, laid, few, c.requires.few))

pub loop-number-preserved : goal.loop-number-preserved
loop-number-preserved c =
    let ms = c.args.members.now in
    let k = c.loop-number.number-index in
    let lt : k < length ms = omega (arith, c.loop-number-test.true) in
    let added = rw c.from.ensures at c.in_ok-add_arguments.ensures in
    rw (take_more ms k 0 lt)
    (added ∙ ap (λ l. l ++ sent_arguments (message_at c.args.entries.now (get_or ms k 0))) c.loop-number.invariant ∙ sym (values_more c.args.entries.now (take k ms) (get_or ms k 0)))
