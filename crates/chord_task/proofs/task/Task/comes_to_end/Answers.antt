use Rattle.std.proofs.Common.{subst}
use Rattle.chord_base.specs.declared.event.End.TheVariants.{Gives}
use Rattle.chord_base.specs.declared.value.Value.TheVariants as a_value
use Rattle.chord_vm.specs.declared.ask.Ask.TheVariants as ask
use Rattle.chord_vm.specs.declared.frames.Frames.{Frames}
use Rattle.chord_vm.specs.Frames.{machine_of, Advanced}
use Rattle.chord_task.proofs.Coming.{came_so}
use Rattle.chord_task.proofs.task.Task.comes_to_end.Goals as goal

pub returns-in-Some-clause-came : goal.returns-in-Some-clause-came
returns-in-Some-clause-came c = λ yes.
    let a = ask.End (Gives a_value.Unit) in
    came_so c.args.code.now c.args.limits.now c.args.self.now c.in-Some.body a c.requires.task (c.runs.ensures c.if-not-runs.false) c.in-Some.is
    (subst (λ (f : Frames). Advanced c.args.code.now (machine_of f) a f) c.deref.ensures (c.ends_next.ensures yes))
