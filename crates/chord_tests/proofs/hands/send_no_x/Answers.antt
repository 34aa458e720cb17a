use Rattle.std.proofs.Common.{false, inl, ◌∙◌}
use Rattle.chord_space.specs.Desks.{view, space_code, space_limits}
use Rattle.chord_tests.specs.Pairs.{first_object, made_one}
use Rattle.chord_tests.proofs.ByHand.{asks_x, may_send}
use Rattle.chord_tests.proofs.hands.send_no_x.Goals as goal

pub draw-requires-clause-next : goal.draw-requires-clause-next
draw-requires-clause-next c = let s = c.args.space.now in inl (tt, may_send false s.events (space_code s) (space_limits s) made_one (view c.begun.new.desk).kept first_object 0 c.of_items.result c.requires.table.0 c.requires.table.1 c.in_ok-begun.ensures.begun.0.kept (c.of_items.ensures ∙ c.new.ensures.items) (asks_x s.events))
