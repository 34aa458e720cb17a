use Rattle.chord_run.proofs.Causes.{cause_refuses, one_program}
use Rattle.chord_run.proofs.Exact.{one_line, one_machine}
use Rattle.chord_run.proofs.Exhaustive.{accepted_or_cause}
use Rattle.chord_run.proofs.Lines.{accepted_has_machine, cause_has_line, machine_is_of_accepted}
use Rattle.chord_run.proofs.OneCause.{one_cause}
use Rattle.chord_run.proofs.Spellings.{refused_by_rule}
use Rattle.chord_run.proofs.laws.sources.Goals as goal

pub returns-clause-program : goal.returns-clause-program
returns-clause-program c = one_program

pub returns-clause-machine : goal.returns-clause-machine
returns-clause-machine c = one_machine

pub returns-clause-accepted : goal.returns-clause-accepted
returns-clause-accepted c = accepted_has_machine

pub returns-clause-of_accepted : goal.returns-clause-of_accepted
returns-clause-of_accepted c = machine_is_of_accepted

pub returns-clause-cause : goal.returns-clause-cause
returns-clause-cause c = one_cause c.breaks.ensures

pub returns-clause-some_line : goal.returns-clause-some_line
returns-clause-some_line c = cause_has_line

pub returns-clause-line : goal.returns-clause-line
returns-clause-line c = one_line

pub returns-clause-exhaustive : goal.returns-clause-exhaustive
returns-clause-exhaustive c = accepted_or_cause c.splits.ensures

pub returns-clause-apart : goal.returns-clause-apart
returns-clause-apart c = cause_refuses

pub returns-clause-by_rule : goal.returns-clause-by_rule
returns-clause-by_rule c = refused_by_rule
