use Rattle.std.proofs.Common.{sym, subst}
use Rattle.chord_code.specs.Sound.{IsSoundCode}
use Rattle.chord_tests.proofs.Ending.{ending_is_sound}
use Rattle.chord_tests.proofs.tables.table.Goals as goal

pub make-requires-clause-sound : goal.make-requires-clause-sound
make-requires-clause-sound c = subst IsSoundCode (sym c.in_ok-code.ensures) ending_is_sound
