-- Sources that have a code: the plan and the bodies in memory, which keep to their types.
use Rattle.std.specs.Prelude.{List, map}
use Rattle.chord_base.specs.Types.{Signatures}
use Rattle.chord_bodies.specs.declared.body.Body.{Body}
use Rattle.chord_bodies.specs.Resolved.{LayoutOf, Resolved}
use Rattle.chord_bodies.specs.BodyView.{view_body}
use Rattle.chord_bodies.specs.Planned.{IsPlanned}
use Rattle.chord_source.specs.Laws.{AreWellTyped}
use Rattle.chord_tree.specs.Tree.{ProgramTree}
use Rattle.chord_tree.specs.Program.{IsProgram}
use Rattle.chord_classes.specs.Plan.{resolved_program}
use Rattle.chord_classes.specs.Rules.{IsFree, is_type_rule, is_plan_rule}

-- the source of a plan and of bodies in memory
abbrev pub source_of : LayoutOf → List Body → Resolved
source_of plan bodies = record { classes = plan.classes; bodies = map view_body bodies; main = plan.main }

-- some signatures to which each body keeps, and the plan too
pub record IsTypedSource (p : Resolved) : Type 0 where
  pub sig : Signatures
  pub typed : AreWellTyped sig p
  pub planned : IsPlanned sig p

-- A program that breaks no rule on names and types, and none of the plan's, is one.
abbrev pub AcceptedIsTyped : Type 0
AcceptedIsTyped = (p : ProgramTree) → IsProgram p → IsFree is_type_rule p → IsFree is_plan_rule p → IsTypedSource (resolved_program p)
