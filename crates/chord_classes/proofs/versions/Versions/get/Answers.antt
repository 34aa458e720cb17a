use Rattle.std.proofs.Common.{ap, sym, arith, ◌∙◌, ◌-◌, ◌/◌}
use Rattle.chord_classes.specs.Forks.{under, side}
use Rattle.chord_classes.specs.declared.versions.Fork.{Fork}
use Rattle.chord_classes.proofs.SharedForks.{under_side}
use Rattle.chord_classes.proofs.versions.Versions.get.Goals as goal

pub loop-rest-preserved : goal.loop-rest-preserved
loop-rest-preserved c =
    let forks = c.args.self.now in
    ap (λ z. under forks z ((c.loop-rest.rest - 1) / 2)) (c.side-at.ensures ∙ ap (λ (n : Fork). side n c.loop-rest.rest) c.fork.ensures.fork)
    ∙ sym (under_side forks c.loop-rest.at c.loop-rest.rest (omega (arith, c.loop-rest-test.true)))
    ∙ c.loop-rest.invariant
