use Rattle.std.proofs.Common.{inl, inr, refl, sym, subst}
use Rattle.chord_rule.specs.Claims.{HasThe}
use Rattle.chord_space.specs.Desks.{view}
use Rattle.chord_tests.proofs.Bypassing.{may_consume_y}
use Rattle.chord_tests.proofs.bypasses.consume_both.Goals as goal

pub consume-requires-2-clause-fired : goal.consume-requires-2-clause-fired
consume-requires-2-clause-fired c =
    let h = c.requires.desk.1 in
    may_consume_y (view c.args.desk.now) (view c.consume.new.desk) 4 c.consume.result.past.items h (c.consume.ensures.taken h.x (subst (HasThe h.x) (sym h.claims) (inr (inl refl))) h.is_x.numbered)
