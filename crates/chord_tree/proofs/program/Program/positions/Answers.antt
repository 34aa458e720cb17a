use Rattle.std.proofs.Common.{subst}
use Rattle.chord_tree.specs.View.{tree_of}
use Rattle.chord_tree.specs.Program.{IsProgram}
use Rattle.chord_tree.proofs.Orders.{classes_in_order, program_below}
use Rattle.chord_tree.proofs.program.Program.positions.Goals as goal

pub returns-clause-order : goal.returns-clause-order
returns-clause-order c = classes_in_order _ (subst (λ v. IsProgram (tree_of v)) c.self.view_is c.self.invariant).numbered

pub returns-clause-below : goal.returns-clause-below
returns-clause-below c = program_below _ (subst (λ v. IsProgram (tree_of v)) c.self.view_is c.self.invariant).numbered
