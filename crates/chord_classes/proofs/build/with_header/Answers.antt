use Rattle.std.proofs.Common.{sym, ◌∙◌}
use Rattle.chord_tree.specs.View.{see_header}
use Rattle.chord_classes.specs.Table.{inherited}
use Rattle.chord_classes.proofs.GrownMethods.{grown_same, grown_one}
use Rattle.chord_classes.proofs.build.with_header.Goals as goal

pub returns-then-adds_none-clause-added : goal.returns-then-adds_none-clause-added
returns-then-adds_none-clause-added c = grown_same (inherited c.args.table.now c.args.base) c.args.owner (see_header c.args.header.now) c.args.own.all.items (sym c.adds_none.ensures ∙ c.if-adds_none.true)

pub returns-in_ok-more-clause-added : goal.returns-in_ok-more-clause-added
returns-in_ok-more-clause-added c =
    grown_one (inherited c.args.table.now c.args.base) c.args.owner (see_header c.args.header.now) c.args.own.all.items c.in_ok-more.more.all.items c.method_of.result
    (sym c.adds_none.ensures ∙ c.if-adds_none.false) c.method_of.ensures c.in_ok-more.ensures.added
