use Rattle.std.proofs.Common.{◌++◌, ◌∷◌, [], List, Option, sym, ◌∙◌, subst}
use Rattle.chord_task.specs.declared.args.Args.{Args}
use Rattle.chord_task.specs.Gathering.{AreGathered}
use Rattle.chord_task.proofs.Gathering.{no_values, some_values, first_one, none_more, second_one, several_more}
use Rattle.chord_task.proofs.gathered.Gathered.add.Goals as goal

pub returns-then-has_none : goal.returns-then-has_none
returns-then-has_none c = record {
  added = λ all g.
      subst (λ (m : Option (List Args)). AreGathered c.args.arguments m (all ++ c.args.arguments ∷ [])) (sym c.in-None.is)
      (first_one all c.args.arguments c.args.self.now.one (subst (λ (m : Option (List Args)). AreGathered c.args.self.now.one m all) c.in-None.is g) (no_values c.args.self.now.one.first (sym c.has_none.ensures ∙ c.if-has_none.true)));
}

pub returns-then-has_none-2 : goal.returns-then-has_none-2
returns-then-has_none-2 c = record {
  added = λ all g.
      subst (λ (m : Option (List Args)). AreGathered c.args.self.now.one m (all ++ c.args.arguments ∷ [])) (sym c.in-None.is)
      (none_more all c.args.arguments c.args.self.now.one (subst (λ (m : Option (List Args)). AreGathered c.args.self.now.one m all) c.in-None.is g) (no_values c.args.arguments.first (sym c.has_none-in-None.ensures ∙ c.if-has_none-2.true)));
}

pub returns-in-Some : goal.returns-in-Some
returns-in-Some c = record {
  added = λ all g. rw c.put.ensures (several_more all c.args.arguments c.args.self.now.one c.in-Some.all (subst (λ (m : Option (List Args)). AreGathered c.args.self.now.one m all) c.in-Some.is g));
}

pub returns-else-has_none-2 : goal.returns-else-has_none-2
returns-else-has_none-2 c = record {
  added = λ all g.
      rw (c.both.ensures, c.replace-first.ensures.value)
      (second_one all c.args.arguments c.args.self.now.one c.replace-first.new.dest (subst (λ (m : Option (List Args)). AreGathered c.args.self.now.one m all) c.in-None.is g) (some_values c.args.self.now.one.first (sym c.has_none.ensures ∙ c.if-has_none.false)));
}
