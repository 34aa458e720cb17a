use Rattle.std.proofs.Common.{sym, subst}
use Rattle.chord_code.specs.Sound.{IsSoundCode}
use Rattle.chord_tests.proofs.Pairs.{pair_is_sound}
use Rattle.chord_tests.proofs.codes.table.Goals as goal

pub make-requires-clause-sound : goal.make-requires-clause-sound
make-requires-clause-sound c = subst IsSoundCode (sym c.requires.0) (pair_is_sound c.args.two)
