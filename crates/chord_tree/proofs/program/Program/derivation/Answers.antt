use Rattle.std.proofs.Common.{subst}
use Rattle.chord_tree.specs.Derivation.{done}
use Rattle.chord_tree.specs.View.{tree_of}
use Rattle.chord_tree.specs.Program.{IsProgram}
use Rattle.chord_tree.proofs.OneTree.{derives}
use Rattle.chord_tree.proofs.program.Program.derivation.Goals as goal

pub returns : goal.returns
returns c = derives (subst (λ v. IsProgram (tree_of v)) c.self.view_is c.self.invariant).derived done
