use Rattle.std.proofs.Common.{◌≡◌, List, ℕ, Some, length, map, get_or, true, sym, ◌∙◌, subst, arith}
use Rattle.std.proofs.lemmas.List.{length-map}
use Rattle.std.proofs.lemmas.Option.{slice_get_within}
use Rattle.chord_base.specs.Messages.{has}
use Rattle.chord_code.specs.Meaning.{methods_of}
use Rattle.chord_code.proofs.Headers.{lack_more, methods_at}
use Rattle.chord_code.proofs.parts.line_with.Goals as goal

pub loop-at-init : goal.loop-at-init
loop-at-init c = (omega arith, λ k js low lt e. absurd (omega (arith, low, lt)))

pub loop-at-preserved : goal.loop-at-preserved
loop-at-preserved c =
    let here = methods_at c.args.lines.now c.loop-at.at c.index-lines-at.result c.loop-at-test.true in
    let before = c.loop-at.invariant in let from = before.0 in
    (omega (arith, from), lack_more c.args.method (map methods_of c.args.lines.now) c.args.from c.loop-at.at _ here (sym c.has.ensures ∙ c.if-has.false) before.1)

pub returns-then-has-clause-here : goal.returns-then-has-clause-here
returns-then-has-clause-here c js e =
    let line = get_or c.args.lines.now c.loop-at.at c.index-lines-at.result in
    let here = methods_at c.args.lines.now c.loop-at.at c.index-lines-at.result c.loop-at-test.true in
    let z : Some (methods_of line) ≡ Some js = sym here ∙ e in let y : methods_of line ≡ js = cc in
    subst (λ (x : List ℕ). has c.args.method x ≡ true) y (sym c.has.ensures ∙ c.if-has.true)

pub returns-then-has-clause-skipped : goal.returns-then-has-clause-skipped
returns-then-has-clause-skipped c = c.loop-at.invariant.1

pub returns-clause-skipped : goal.returns-clause-skipped
returns-clause-skipped c k js low lt e = let all = c.loop-at-test.false in c.loop-at.invariant.1 k js low (omega (arith, lt, all)) e

pub returns-clause-here : goal.returns-clause-here
returns-clause-here c js e =
    let within = slice_get_within (map methods_of c.args.lines.now) (length c.args.lines.now) js e in
    let long = length-map c.args.lines.now methods_of in
    absurd (omega (arith, within, long))
