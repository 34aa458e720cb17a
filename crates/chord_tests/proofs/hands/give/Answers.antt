use Rattle.std.proofs.Common.{refl}
use Rattle.chord_rule.specs.Kinds.{unclaimed}
use Rattle.chord_space.specs.Desks.{view}
use Rattle.chord_tests.proofs.ByHand.{may_give, gives_claim, seen_by_saw, duties_by_saw}
use Rattle.chord_tests.proofs.hands.give.Goals as goal

pub give_back-requires-clause-claimed : goal.give_back-requires-clause-claimed
give_back-requires-clause-claimed c = may_give (view c.args.desk.now) c.requires.claim.0 c.args.i c.requires.claim.1

pub returns-clause-same : goal.returns-clause-same
returns-clause-same c =
    let v = view c.args.desk.now in let t = may_give v c.requires.claim.0 c.args.i c.requires.claim.1 in let e = c.give_back.ensures.given t.0 t.1 t.2 in
    (duties_by_saw v (unclaimed v c.args.i) (view c.give_back.new.desk) c.args.i _ refl e, seen_by_saw v (unclaimed v c.args.i) (view c.give_back.new.desk) c.args.i _ refl e)

pub returns-clause-given : goal.returns-clause-given
returns-clause-given c = gives_claim (view c.args.desk.now) (view c.give_back.new.desk) c.args.i c.give_back.ensures.given
