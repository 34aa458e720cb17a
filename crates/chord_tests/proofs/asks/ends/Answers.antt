use Rattle.chord_vm.specs.Frames.{machine_of}
use Rattle.chord_tests.proofs.Seven.{comes_to_end}
use Rattle.chord_tests.proofs.asks.ends.Goals as goal

pub advance-requires : goal.advance-requires
advance-requires c = record { sound = comes_to_end c.args.code.now (machine_of c.args.frames.now) c.requires.code c.requires.answered }
