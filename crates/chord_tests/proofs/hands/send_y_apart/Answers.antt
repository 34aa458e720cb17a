use Rattle.std.proofs.Common.{true, inl, ◌∙◌}
use Rattle.chord_space.specs.Desks.{view, space_code, space_limits}
use Rattle.chord_tests.specs.Pairs.{second_object, sent_x_apart}
use Rattle.chord_tests.proofs.ByHand.{asks_y_apart, may_send}
use Rattle.chord_tests.proofs.hands.send_y_apart.Goals as goal

pub draw-requires-clause-next : goal.draw-requires-clause-next
draw-requires-clause-next c = let s = c.args.space.now in inl (tt, may_send true s.events (space_code s) (space_limits s) sent_x_apart (view c.args.desk.now).kept second_object 1 c.of_items.result c.requires.table.0 c.requires.table.1 c.requires.desk.1.kept (c.of_items.ensures ∙ c.new.ensures.items) (asks_y_apart s.events))
