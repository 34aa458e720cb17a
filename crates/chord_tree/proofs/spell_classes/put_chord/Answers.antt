use Rattle.std.proofs.Common.{map}
use Rattle.chord_tree.specs.ViewStmts.{see_block}
use Rattle.chord_tree.specs.View.{see_header}
use Rattle.chord_tree.proofs.Words.{on_ok}
use Rattle.chord_tree.proofs.WordsClasses.{chord_added}
use Rattle.chord_tree.proofs.spell_classes.put_chord.Goals as goal

pub returns : goal.returns
returns c = on_ok _ _ _ (λ h. chord_added (map see_header c.args.headers.now) (see_block c.args.body.now) c.in_ok-put_headers.ensures h) c.put_block.ensures
