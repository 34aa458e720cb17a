use Rattle.chord_run.proofs.Breaks.{HasCome}
use Rattle.chord_run.proofs.position.position_at.Given as goal

abbrev pub invariant-loop-i : goal.invariant-loop-i
invariant-loop-i l = HasCome l.text l.i l.place
