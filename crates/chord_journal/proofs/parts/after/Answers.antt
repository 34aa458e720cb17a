-- What `strip_prefix` found is what stands behind the text.
use Rattle.std.proofs.Common.{◌∙◌, ap, sym, List, ℕ, Some}
use Rattle.chord_journal.proofs.Fronts.{after_front, after_none}
use Rattle.chord_journal.proofs.parts.after.Goals as goal

pub returns-in-Some-clause-read : goal.returns-in-Some-clause-read
returns-in-Some-clause-read c =
    let (same, rest, long) = c.in-Some.ensures.cases in
    after_front c.args.text.now c.args.bytes.now same ∙ ap (λ (x : List ℕ). Some x) (sym rest)

pub returns-in-None-clause-read : goal.returns-in-None-clause-read
returns-in-None-clause-read c = after_none c.args.text.now c.args.bytes.now c.in-None.ensures.cases

pub returns-in-None-clause-wrong : goal.returns-in-None-clause-wrong
returns-in-None-clause-wrong c = after_none c.args.text.now c.args.bytes.now c.in-None.ensures.cases
