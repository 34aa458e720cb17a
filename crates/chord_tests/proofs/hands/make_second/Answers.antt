use Rattle.std.proofs.Common.{true, inl, subst, sym, List}
use Rattle.chord_base.specs.declared.event.Entry.{Entry}
use Rattle.chord_base.specs.declared.event.What.TheVariants.{Made}
use Rattle.chord_base.specs.Bodies.{Asks}
use Rattle.chord_base.specs.Meaning.{Program}
use Rattle.chord_space.specs.Desks.{view, space_code, space_limits}
use Rattle.chord_tests.specs.Pairs.{pair_program}
use Rattle.chord_tests.proofs.ByHand.{of_table, asks_second}
use Rattle.chord_tests.proofs.hands.make_second.Goals as goal

pub draw-requires-clause-next : goal.draw-requires-clause-next
draw-requires-clause-next c = let s = c.args.space.now in inl (tt, of_table (λ (p : Program). Asks p (view c.args.desk.now).kept 0 (Made 0)) true s.events (space_code s) (space_limits s) c.requires.table.0 c.requires.table.1 (subst (λ (z : List Entry). Asks (pair_program true s.events) z 0 (Made 0)) (sym c.requires.desk.1.kept) (asks_second s.events)))
