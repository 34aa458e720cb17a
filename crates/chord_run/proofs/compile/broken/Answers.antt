use Rattle.chord_run.proofs.Compiled.{earlier_is_first}
use Rattle.chord_tree.specs.View.{tree_of}
use Rattle.chord_run.proofs.compile.broken.Goals as goal

pub returns-in-Ok : goal.returns-in-Ok
returns-in-Ok c =
    let p = tree_of c.args.program.now in
    (c.passes.ensures p).0.resolved_alone _ _ c.requires.of_types c.in-Ok.ensures.free

pub returns-in-Err-Rule : goal.returns-in-Err-Rule
returns-in-Err-Rule c =
    let p = tree_of c.args.program.now in
    let fault = rw c.in-Err-Rule.field-0-is at c.in-Err-Rule.ensures.fault in
    earlier_is_first c.passes.ensures p c.args.one _ c.earlier.result c.requires.of_types fault c.earlier.ensures
