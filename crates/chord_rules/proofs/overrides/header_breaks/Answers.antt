use Rattle.chord_tree.specs.View.{see_header}
use Rattle.std.proofs.Common.{map}
use Rattle.chord_classes.specs.Table.{inherited}
use Rattle.chord_classes.specs.Least.{keys}
use Rattle.chord_classes.proofs.Leasts.{noted_three}
use Rattle.chord_rules.specs.FirstHeaders.{see_lent}
use Rattle.chord_rules.specs.ClassKeys.{differing, hiding, misfitting}
use Rattle.chord_rules.proofs.overrides.header_breaks.Goals as goal

pub returns : goal.returns
returns c =
    let header = see_header c.args.header.now in
    let methods = inherited c.args.table.now c.args.base in
    noted_three _ _ _ _ (keys 5 (differing (map see_lent c.args.firsts.now.all.items) header)) (keys 9 (hiding methods header)) (keys 10 (misfitting methods header)) c.differing.ensures c.hiding.ensures c.misfitting.ensures
