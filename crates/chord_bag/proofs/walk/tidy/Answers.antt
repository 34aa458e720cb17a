use Rattle.std.proofs.Common.{inl, refl, sym, subst}
use Rattle.chord_rule.specs.declared.view.View.{View}
use Rattle.chord_rule.specs.Bags.{head_number}
use Rattle.chord_rule.specs.Looks.{LastHead}
use Rattle.chord_rule.specs.Made.{key}
use Rattle.chord_bag.proofs.walk.tidy.Goals as goal

pub returns-clause-alone : goal.returns-clause-alone
returns-clause-alone g c alone last =
    let moved = c.bypass.ensures.alone alone.first alone.lent last in
    (moved, subst (λ (z : View). LastHead (head_number (key c.args.object c.args.method)) c.args.next z.looked.heads) (sym (c.bypass.ensures.moved moved)) (inl (refl, refl)))
