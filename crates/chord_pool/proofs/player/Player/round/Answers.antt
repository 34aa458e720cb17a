use Rattle.std.proofs.Common.{◌≡◌, ◌∙◌, ◌+◌, ℕ, refl, sym, ap, inl, inr, true, false, rules}
use Rattle.chord_space.specs.Desks.{view}
use Rattle.chord_pool.proofs.Looking.{looked_by, gone_by, began_as, began_from, began_none}
use Rattle.chord_pool.proofs.Endings.{task_there}
use Rattle.chord_pool.proofs.player.Player.round.Goals as goal

pub returns-clause-went : goal.returns-clause-went
returns-clause-went g c = λ more.
    record {
      asked = c.idle.ensures.asks ∙ c.has_stopped.ensures.asks;
      told_nothing = (c.has_stopped.ensures.not_yet c.if-has_stopped.false).0;
      went = search rules;
      plays = search rules;
      drew = search rules;
      stands = search rules;
      counted = search rules;
      unread = search rules;
      read = λ none. c.idle.ensures.read ∙ ap (λ (n : ℕ). n + 1) c.has_stopped.ensures.same.0.2;
      looked = λ none. looked_by g.G.Gate.knows c.args.run.now.space.now c.args.self.now c.idle.new.self c.has_stopped.new.self c.has_stopped.ensures.same.2 c.has_stopped.ensures.ended (c.idle.ensures.looked more);
      began_so = λ none.
          let before = view c.args.self.now.worker.desk in
          let after = view c.idle.new.self.worker.desk in
          let card = c.args.self.now.card in
          began_from before before after after card c.has_stopped.new.self c.idle.new.self.card c.idle.new.self.card refl refl c.has_stopped.ensures.same.2
          (began_as card c.has_stopped.new.self c.has_stopped.ensures.same.2 c.has_stopped.ensures.ended) refl c.idle.ensures.began;
      untold = c.idle.ensures.heard ∙ (c.has_stopped.ensures.not_yet c.if-has_stopped.false).1;
    }

pub returns-clause-last : goal.returns-clause-last
returns-clause-last g c = λ _.
    let before = view c.args.self.now.worker.desk in
    let after = view c.idle.new.self.worker.desk in
    let card = c.args.self.now.card in (
      λ _. began_from before before after after card c.has_stopped.new.self c.idle.new.self.card c.idle.new.self.card refl refl c.has_stopped.ensures.same.2
          (began_as card c.has_stopped.new.self c.has_stopped.ensures.same.2 c.has_stopped.ensures.ended) refl c.idle.ensures.began,
      λ lost. let z : true ≡ false = sym lost ∙ c.idle.ensures.sane in absurd (cc),
    )

pub returns-then-has_task-clause-last : goal.returns-then-has_task-clause-last
returns-then-has_task-clause-last g c = λ e. (λ sane. let z : true ≡ false = sym (c.advance.ensures.failed e) ∙ sane in absurd (cc), λ _. began_as c.args.self.now.card c.advance.new.self.card (c.advance.ensures.card ∙ c.has_stopped.ensures.same.2) (c.advance.ensures.ended ∙ c.has_stopped.ensures.ended))

pub returns-then-is_spent-clause-last : goal.returns-then-is_spent-clause-last
returns-then-is_spent-clause-last g c = λ _.
    let desk = view c.args.self.now.worker.desk in
    let as_often = began_as c.args.self.now.card c.has_stopped.new.self c.has_stopped.ensures.same.2 c.has_stopped.ensures.ended in (
      λ _. began_from desk desk desk desk c.args.self.now.card c.has_stopped.new.self c.has_stopped.new.self c.has_stopped.new.self refl refl c.has_stopped.ensures.same.2 as_often refl (began_none desk c.has_stopped.new.self),
      λ _. as_often,
    )

pub returns-then-has_stopped-clause-last : goal.returns-then-has_stopped-clause-last
returns-then-has_stopped-clause-last g c = λ _. (λ sane. let z : true ≡ false = sane in absurd (cc), λ _. began_as c.args.self.now.card c.has_stopped.new.self c.has_stopped.ensures.same.2 c.has_stopped.ensures.ended)

pub returns-clause-short : goal.returns-clause-short
returns-clause-short g c = λ _ lost. let z : true ≡ false = sym lost ∙ c.idle.ensures.sane in absurd (cc)

pub returns-then-has_task-clause-short : goal.returns-then-has_task-clause-short
returns-then-has_task-clause-short g c = λ e lost.
    let task = task_there c.args.self.now.worker.task (sym c.has_task.ensures ∙ c.if-has_task.true) in
    inr ((c.has_stopped.ensures.not_yet c.if-has_stopped.false).0, c.advance.ensures.tells e, c.advance.ensures.short e, task.0, task.1, c.advance.ensures.drew task.0 task.1)

pub returns-then-is_spent-clause-short : goal.returns-then-is_spent-clause-short
returns-then-is_spent-clause-short g c = λ _ lost. inl (refl, c.has_stopped.ensures.tells)

pub returns-then-has_stopped-clause-short : goal.returns-then-has_stopped-clause-short
returns-then-has_stopped-clause-short g c = λ _ lost. inl (refl, c.has_stopped.ensures.tells)

pub returns-clause-gone : goal.returns-clause-gone
returns-clause-gone g c = λ e sane. gone_by c.args.run.now.space.now c.args.self.now c.idle.new.self c.has_stopped.new.self c.has_stopped.ensures.same.2 c.has_stopped.ensures.same.0.2 (c.idle.ensures.gone e)

pub returns-then-has_task-clause-gone : goal.returns-then-has_task-clause-gone
returns-then-has_task-clause-gone g c = λ e sane. let z : true ≡ false = sym (c.advance.ensures.failed e) ∙ sane in absurd (cc)

pub returns-then-is_spent-clause-gone : goal.returns-then-is_spent-clause-gone
returns-then-is_spent-clause-gone g c = λ _ sane. let rest = c.requires.may c.requires.sane in inl (sym rest.rest.told ∙ sym c.is_spent.ensures ∙ c.if-is_spent.true, refl)

pub returns-then-has_stopped-clause-gone : goal.returns-then-has_stopped-clause-gone
returns-then-has_stopped-clause-gone g c = λ _ sane. let z : true ≡ false = sane in absurd (cc)

pub returns-clause-unstopped : goal.returns-clause-unstopped
returns-clause-unstopped g c = λ _ _. c.idle.ensures.heard ∙ (c.has_stopped.ensures.not_yet c.if-has_stopped.false).1

pub returns-then-has_task-clause-unstopped : goal.returns-then-has_task-clause-unstopped
returns-then-has_task-clause-unstopped g c = λ e sane. let z : true ≡ false = sym (c.advance.ensures.failed e) ∙ sane in absurd (cc)

pub returns-then-is_spent-clause-unstopped : goal.returns-then-is_spent-clause-unstopped
returns-then-is_spent-clause-unstopped g c = λ _ _. (c.has_stopped.ensures.not_yet c.if-has_stopped.false).1

pub returns-then-has_stopped-clause-unstopped : goal.returns-then-has_stopped-clause-unstopped
returns-then-has_stopped-clause-unstopped g c = λ _ sane. let z : true ≡ false = sane in absurd (cc)

pub returns-then-has_task-clause-went : goal.returns-then-has_task-clause-went
returns-then-has_task-clause-went g c = λ more.
    let still = c.advance.ensures.stands more in
    record {
      asked = c.advance.ensures.asks ∙ c.has_stopped.ensures.asks;
      told_nothing = (c.has_stopped.ensures.not_yet c.if-has_stopped.false).0;
      went = c.advance.ensures.went more;
      plays = c.advance.ensures.plays more;
      drew = c.advance.ensures.drew;
      stands = λ t at. record { place = still.place; known = still.known; misses = still.misses };
      counted = λ t at. (c.requires.counts (search rules), record { same = c.advance.ensures.card ∙ c.has_stopped.ensures.same.2; throughout = c.advance.ensures.ended ∙ c.has_stopped.ensures.ended });
      unread = λ t at. c.advance.ensures.reads ∙ c.has_stopped.ensures.same.0.2;
      read = search rules;
      looked = search rules;
      began_so = search rules;
      untold = c.advance.ensures.heard more ∙ (c.has_stopped.ensures.not_yet c.if-has_stopped.false).1;
    }
