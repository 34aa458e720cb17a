use Rattle.std.proofs.Common.{sym, ◌∙◌}
use Rattle.chord_tree.specs.View.{see_header}
use Rattle.chord_classes.specs.Table.{inherited}
use Rattle.chord_classes.proofs.GrownMethods.{grown_one}
use Rattle.chord_rules.proofs.Counted.{counted_one, counted_same}
use Rattle.chord_rules.proofs.own_methods.with_header.Goals as goal

pub returns-then-adds_none-clause-counted : goal.returns-then-adds_none-clause-counted
returns-then-adds_none-clause-counted c = counted_same (sym c.adds_none.ensures ∙ c.if-adds_none.true)

pub returns-clause-counted : goal.returns-clause-counted
returns-clause-counted c =
    let adds = sym c.adds_none.ensures ∙ c.if-adds_none.false in
    counted_one adds
    (grown_one (inherited c.args.table.now c.args.base) c.args.owner (see_header c.args.header.now) c.args.grown.own.all.items c.in_ok-own.own.all.items c.method_of.result adds c.method_of.ensures c.in_ok-own.ensures.added)
    c.take_room.ensures.room c.take_room.ensures.noted
