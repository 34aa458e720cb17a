use Rattle.std.proofs.Common.{ℕ, ◌<◌, List, length, sym, subst}
use Rattle.chord_code.proofs.Headers.{added_with, added_past}
use Rattle.chord_code.proofs.parts.MethodNumbers.push.Goals as goal

pub invariant_of-self : goal.invariant_of-self
invariant_of-self c =
    let few = subst (λ (ns : List ℕ). length ns < 8) (sym c.self.view_is) c.requires in
    added_with c.args.number c.self.inside.count c.self.inside.numbers c.self.inside.flags c.self.told.0 c.self.invariant.0 few c.if-number-lt-FLAGS.true c.self.invariant.1

pub invariant_of-self-else-number-lt-FLAGS : goal.invariant_of-self-else-number-lt-FLAGS
invariant_of-self-else-number-lt-FLAGS c =
    let few = subst (λ (ns : List ℕ). length ns < 8) (sym c.self.view_is) c.requires in
    added_past c.args.number c.self.inside.count c.self.inside.numbers c.self.inside.flags c.self.told.0 c.self.invariant.0 few c.if-number-lt-FLAGS.false c.self.invariant.1
