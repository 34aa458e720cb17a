use Rattle.std.proofs.Common.{map, drop, flat_map}
use Rattle.chord_tree.specs.View.{see_header}
use Rattle.chord_tree.specs.ViewStmts.{see_block}
use Rattle.chord_classes.specs.ChordRules.{header_tokens, block_names}
use Rattle.chord_classes.specs.Least.{keys}
use Rattle.chord_classes.proofs.Leasts.{noted_three}
use Rattle.chord_rules.specs.Limits.{crowded_formals}
use Rattle.chord_rules.proofs.members.chord_limits.Goals as goal

pub returns : goal.returns
returns c =
    let headers = map see_header c.args.headers.now in
    noted_three _ _ _ _ (keys 4 (drop 8 (header_tokens headers))) (keys 4 (flat_map crowded_formals headers)) (keys 4 (drop 256 (block_names (see_block c.args.body.now)))) c.headers_past.ensures c.header_formals_past.ensures c.locals_past.ensures
