use Rattle.std.proofs.Common.{◌≡◌, List, drop, ap, ◌∙◌, arith}
use Rattle.chord_code.specs.declared.parts.ClassLine.{ClassLine}
use Rattle.chord_code.specs.declared.parts.Parts.{Parts}
use Rattle.chord_space.specs.Widest.{most_methods}
use Rattle.chord_space.proofs.Widths.{at_least, most_below}
use Rattle.chord_space.proofs.space.heads_of.Goals as goal

pub returns-clause-few : goal.returns-clause-few
returns-clause-few c =
    let items = c.items-class-items.result.now in let classes : List ClassLine = c.args.code.now.classes in
    let same : items ≡ classes = c.items-class-items.ensures ∙ ap (λ (p : Parts). p.classes) c.parts.ensures.parts in
    let whole = c.loop-class.invariant ∙ ap (most_methods 0) same in let more = at_least c.loop-class.most (drop c.loop-class.class-index items) in
    let low = most_below 16 0 classes (omega arith) (λ i d e. (c.parts.ensures.valid.classes i d e).few_methods) in omega (arith, whole, more, low)
