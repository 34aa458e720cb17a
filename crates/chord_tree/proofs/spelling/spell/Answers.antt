use Rattle.chord_tree.proofs.WordsClasses.{program_spelled}
use Rattle.chord_tree.proofs.spelling.spell.Goals as goal

pub returns-clause-spelled : goal.returns-clause-spelled
returns-clause-spelled c = program_spelled _ _ _ _ _ _ c.new-tokens.ensures.items c.usings.ensures c.classes-classes.ensures.classes c.in_ok-put_usings.ensures c.in_ok-put_classes.ensures
