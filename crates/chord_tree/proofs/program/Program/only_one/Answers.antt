use Rattle.std.proofs.Common.{subst}
use Rattle.chord_tree.specs.View.{tree_of}
use Rattle.chord_tree.specs.Program.{IsProgram}
use Rattle.chord_tree.proofs.BackClasses.{only_one}
use Rattle.chord_tree.proofs.program.Program.only_one.Goals as goal

pub returns : goal.returns
returns c = only_one _ _ (subst (λ v. IsProgram (tree_of v)) c.self.view_is c.self.invariant) (subst (λ v. IsProgram (tree_of v)) c.other.view_is c.other.invariant) c.requires
