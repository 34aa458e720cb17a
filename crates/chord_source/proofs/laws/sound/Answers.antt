use Rattle.chord_source.proofs.SourceRuns.{machines_are_sound}
use Rattle.chord_source.proofs.laws.sound.Goals as goal

pub returns : goal.returns
returns c = machines_are_sound
