use Rattle.std.proofs.Common.{[], None}
use Rattle.chord_tests.specs.Pairs.{sent_both}
use Rattle.chord_tests.proofs.hands.contend.Goals as goal

pub give-requires-clause-claim : goal.give-requires-clause-claim
give-requires-clause-claim c = (sent_both, c.in_ok-claim_for_good.ensures.claimed sent_both c.requires.first.1)

pub returns-clause-first : goal.returns-clause-first
returns-clause-first c = (
  c.find_busy_x.ensures.same sent_both [] None [] (c.give.ensures.given sent_both (c.in_ok-claim_for_good.ensures.claimed sent_both c.requires.first.1)),
  c.in_ok-find_busy_x.ensures.duty,
)

pub returns-clause-other : goal.returns-clause-other
returns-clause-other c =
    let h = c.find_no_y.ensures.same.0 [] [] None [] (c.in_ok-claim_in_vain.ensures.refused [] [] None [] c.requires.other.1) in
    let s = c.find_no_y.ensures.same.1 2 None (c.claim_in_vain.ensures.same.1 2 None c.requires.other.2) in
    (c.give-2.ensures.given [] (c.in_ok-claim_for_good-2.ensures.claimed [] h), c.give-2.ensures.same.1 2 None (c.claim_for_good-2.ensures.same.1 2 None s))
