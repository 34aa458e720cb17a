use Rattle.std.proofs.Common.{◌++◌, ◌∷◌, [], List, Option, sym, ◌∙◌, subst}
use Rattle.chord_task.specs.declared.args.Args.{Args}
use Rattle.chord_task.specs.Gathering.{AreGathered}
use Rattle.chord_task.proofs.Gathering.{no_values, first_one}
use Rattle.chord_worker.proofs.fired.gather.Goals as goal

pub put_arguments-requires : goal.put_arguments-requires
put_arguments-requires c = no_values c.args.to.now.one.first (sym c.has_none.ensures ∙ c.if-has_none.true)

pub returns-then-has_none : goal.returns-then-has_none
returns-then-has_none c = record {
  added = λ all g.
      rw c.put_arguments.ensures
      (subst (λ (m : Option (List Args)). AreGathered c.args.arguments m (all ++ c.args.arguments ∷ [])) (sym c.in-None.is)
      (first_one all c.args.arguments c.args.to.now.one (subst (λ (m : Option (List Args)). AreGathered c.args.to.now.one m all) c.in-None.is g) (no_values c.args.to.now.one.first (sym c.has_none.ensures ∙ c.if-has_none.true))));
}
