use Rattle.std.proofs.Common.{[], None}
use Rattle.chord_rule.specs.Made.{key}
use Rattle.chord_space.specs.Desks.{view}
use Rattle.chord_tests.specs.Pairs.{first_object, sent_both}
use Rattle.chord_tests.proofs.Bypassing.{claimed_both}
use Rattle.chord_tests.proofs.bypasses.claim_both.Goals as goal

pub returns-clause-claimed : goal.returns-clause-claimed
returns-clause-claimed c =
    let h = c.requires.desk.1 in let a = c.in_ok-see.ensures.same in let b = c.in_ok-see-2.ensures.same in
    let x = c.in_ok-claim_known.ensures.claimed in let y = c.in_ok-claim_known-2.ensures.claimed in
    claimed_both (view c.see-2.new.desk) (view c.claim_known.new.desk) (view c.claim_known-2.new.desk) x.0 y.0 _ _ (b.0 sent_both [] None [] (a.0 sent_both [] None [] h.hand))
    (b.1 2 (key first_object 0) (a.1 2 (key first_object 0) h.x)) (b.1 3 (key first_object 1) (a.1 3 (key first_object 1) h.y)) x.1 x.2 y.1 y.2
