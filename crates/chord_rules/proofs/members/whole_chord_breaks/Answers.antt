use Rattle.std.proofs.Common.{map}
use Rattle.chord_tree.specs.View.{see_header}
use Rattle.chord_tree.specs.ViewStmts.{see_block}
use Rattle.chord_classes.proofs.Leasts.{noted_two}
use Rattle.chord_rules.specs.ClassKeys.{chord_keys, chord_limits}
use Rattle.chord_rules.proofs.members.whole_chord_breaks.Goals as goal

pub returns : goal.returns
returns c =
    let headers = map see_header c.args.headers.now in
    noted_two _ _ _ (chord_keys headers) (chord_limits headers (see_block c.args.body.now)) c.in_ok-chord_breaks.ensures c.chord_limits.ensures
