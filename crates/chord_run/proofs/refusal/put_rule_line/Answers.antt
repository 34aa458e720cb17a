-- The word, the digits of the rule, and the rest of the line.
use Rattle.chord_io.proofs.Pens.{Writes-join}
use Rattle.chord_run.proofs.refusal.put_rule_line.Goals as goal

pub returns : goal.returns
returns g c = Writes-join c.put.ensures (Writes-join c.put-2.ensures c.put_pointing_line.ensures)
