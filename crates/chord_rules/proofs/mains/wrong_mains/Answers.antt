use Rattle.std.proofs.Common.{map}
use Rattle.chord_tree.specs.View.{see_class}
use Rattle.chord_classes.specs.ChordRules.{mains_of}
use Rattle.chord_rules.proofs.MainHeaders.{mains_and_end}
use Rattle.chord_rules.proofs.mains.wrong_mains.Goals as goal

pub returns : goal.returns
returns c = mains_and_end (mains_of (map see_class c.args.classes.now)) c.args.end c.args.breaks.now.found _ _ c.classes_mains-seen.result c.classes_mains-seen.ensures.seen c.classes_mains-seen.ensures.noted c.note_if.ensures
