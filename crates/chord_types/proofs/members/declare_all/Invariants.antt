use Rattle.std.proofs.Common.{drop}
use Rattle.chord_types.proofs.EnteredMembers.{AreDeclared}
use Rattle.chord_types.proofs.members.declare_all.Given as goal

abbrev pub invariant-loop-formal : goal.invariant-loop-formal
invariant-loop-formal l = AreDeclared l.initial.site l.site l.formals (drop l.formal-index l.formals)
