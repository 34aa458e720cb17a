use Rattle.chord_base.proofs.Callers.{others_wait, served_goes_on, served_once, served_waits_no_more}
use Rattle.chord_base.proofs.laws.callers.Goals as goal

pub returns : goal.returns
returns c = record { served = served_goes_on; once = served_once; no_more = served_waits_no_more; others = others_wait }
