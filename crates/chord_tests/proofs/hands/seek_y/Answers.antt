use Rattle.chord_rule.specs.Made.{key}
use Rattle.chord_space.specs.Desks.{view}
use Rattle.chord_tests.specs.Pairs.{first_object}
use Rattle.chord_tests.proofs.ByHand.{same_by_seek, seen_by_seek, seen_by_found}
use Rattle.chord_tests.proofs.hands.seek_y.Goals as goal

pub returns-clause-same : goal.returns-clause-same
returns-clause-same c = let n = c.args.space.now.events in let v = view c.args.desk.now in let w = view c.seek.new.desk in let f = c.seek.ensures.sought in (same_by_seek n (key first_object 1) v w c.seek.result f, seen_by_seek n (key first_object 1) v w c.seek.result f)

pub returns-clause-found : goal.returns-clause-found
returns-clause-found c = seen_by_found c.args.space.now.events (key first_object 1) (view c.args.desk.now) (view c.seek.new.desk) c.seek.result c.seek.ensures.sought
