use Rattle.std.proofs.Common.{sym, ap, ◌∙◌, arith}
use Rattle.chord_lists.specs.CodeStands.{ready_in, ready_at}
use Rattle.chord_lists.proofs.Spots.{got, past_end}
use Rattle.chord_lists.proofs.code_bodies.goes_at.Goals as goal

pub returns-in-None : goal.returns-in-None
unfolding ready_at
returns-in-None c = sym (ap ready_in (past_end c.args.tasks.now c.args.at (omega (arith, c.in-None.ensures.lookup.3))))

pub returns-in-Some : goal.returns-in-Some
unfolding ready_at
returns-in-Some c = c.is_ready.ensures ∙ sym (ap ready_in (got c.args.tasks.now c.args.at c.in-Some.task.now c.in-Some.ensures.lookup.3.0 c.in-Some.ensures.lookup.1))
