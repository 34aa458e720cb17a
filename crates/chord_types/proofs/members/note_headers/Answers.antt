use Rattle.std.proofs.Common.{◌+◌, map, drop, sym, ap, ◌∙◌}
use Rattle.std.specs.Prelude.{flat_map}
use Rattle.chord_tree.specs.View.{see_header}
use Rattle.chord_tree.proofs.Words.{dropped}
use Rattle.chord_classes.specs.ItemRules.{undeclared_header}
use Rattle.chord_classes.specs.Least.{keys, least}
use Rattle.chord_types.proofs.EnteredMembers.{noted_more}
use Rattle.chord_types.proofs.members.note_headers.Goals as goal

pub loop-header-preserved : goal.loop-header-preserved
loop-header-preserved c =
    let hs = c.args.headers.now in
    let i = c.loop-header.header-index in
    let f = undeclared_header c.args.table.now in
    noted_more 2 c.loop-header.breaks.found c.note_header.new.breaks.found (undeclared_header c.args.table.now (see_header c.header-item.result)) (flat_map (undeclared_header c.args.table.now) (map see_header (drop (i + 1) hs))) c.note_header.ensures
    ∙ ap (λ z. least c.loop-header.breaks.found (keys 2 (flat_map (undeclared_header c.args.table.now) (map see_header z)))) (sym (dropped hs i c.header-item.result c.loop-header-test.true c.header-item.is)) ∙ c.loop-header.invariant
