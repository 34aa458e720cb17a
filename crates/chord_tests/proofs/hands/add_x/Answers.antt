use Rattle.std.proofs.Common.{[], None}
use Rattle.chord_rule.specs.Made.{key}
use Rattle.chord_space.specs.Desks.{view}
use Rattle.chord_tests.specs.Pairs.{first_object, sent_x}
use Rattle.chord_tests.proofs.ByHand.{holds_lent}
use Rattle.chord_tests.proofs.hands.add_x.Goals as goal

pub returns-clause-added : goal.returns-clause-added
returns-clause-added c = holds_lent (view c.put_x.new.desk) (view c.split.new.desk) sent_x [] None [] 2 (key first_object 0) c.put_x.ensures.added.0 c.put_x.ensures.added.1 c.split.ensures.desk.1
