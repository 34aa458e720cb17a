use Rattle.std.proofs.Common.{◌≡◌, ◌∙◌, refl, sym, ap, true, false, Some, inl, inr, rules, arith}
use Rattle.std.proofs.lemmas.Bool.{ne_eqb, eq-eqb}
use Rattle.chord_roll.specs.Cards.{counts, ended, last_read, reads}
use Rattle.chord_pool.specs.Players.{began}
use Rattle.chord_pool.proofs.Looking.{none_there, found_first, found_far, found_none, in_vain_near, behind, looked_again, began_as, began_off, began_more, began_since}
use Rattle.chord_pool.proofs.Endings.{task_started}
use Rattle.chord_space.specs.Desks.{view}
use Rattle.chord_worker.specs.declared.worker.Worker.{Worker}
use Rattle.chord_pool.proofs.player.Player.idle.Goals as goal
use Rattle.chord_pool.proofs.player.Player.idle.Goals.{then-counted, else-counted}

pub returns-then-counted-2-clause-looked : goal.returns-then-counted-2-clause-looked
returns-then-counted-2-clause-looked g c = λ _.
    let same = c.begin_look.ensures.same in
    let begins = c.begin_look.ensures.begins in
    let look = c.look.ensures in
    let none = none_there c.look.new.self.worker.task (sym c.has_task.ensures ∙ c.if-has_task.false) in
    let counted : counts c.args.self.now.card ≡ true = sym c.read-working.ensures.same.2 ∙ sym (ap counts same.1) ∙ sym c.if-counted-2.ensures in
    let all : c.if-counted.look ≡ true = elim c.if-counted.branch [ then-counted w ↦ w.look-is ∙ c.if-counted-2.true | else-counted w ↦ absurd (cc) ] in
    inr (found_none c.args.run.now.space.now c.args.self.now c.begin_look.new.self c.look.new.self _ c.if-counted.look same.0 same.3 (record { near = begins.near; far = begins.far }) (all ∙ sym counted)
    none (look.kept none) (look.through none) (look.next none) (look.knew none) (look.knows none) c.requires.idle refl refl refl (λ other. absurd (cc)) (λ _. look.same.1) (search rules)
    (λ other. let z : true ≡ false = sym counted ∙ other in absurd (cc)))

pub returns-clause-looked : goal.returns-clause-looked
returns-clause-looked g c = λ _.
    let same = c.begin_look.ensures.same in
    let begins = c.begin_look.ensures.begins in
    let look = c.look.ensures in
    let none = none_there c.look.new.self.worker.task (sym c.has_task.ensures ∙ c.if-has_task.false) in
    let counted : counts c.args.self.now.card ≡ false = sym c.read-working.ensures.same.2 ∙ sym (ap counts same.1) ∙ sym c.if-counted-2.ensures in
    let all : c.if-counted.look ≡ false = elim c.if-counted.branch [ then-counted w ↦ absurd (cc) | else-counted w ↦ w.look-is ∙ ne_eqb c.read-working.result 0 c.if-working-eq0.false ] in
    inr (found_none c.args.run.now.space.now c.args.self.now c.begin_look.new.self c.look.new.self _ c.if-counted.look same.0 same.3 (record { near = begins.near; far = begins.far }) (all ∙ sym counted)
    none (look.kept none) (look.through none) (look.next none) (look.knew none) (look.knows none) c.requires.idle refl refl refl (λ _ few. let more = c.saturating_add-self.ensures in let before = look.same.1 in omega (arith, more, before, few)) (λ other. absurd (cc)) (look.as_before none ∙ ap counts same.1 ∙ c.read-working.ensures.same.2 ∙ counted)
    (λ _ nobody.
    let read : Some c.read-working.result ≡ Some 0 = sym c.read-working.ensures.read ∙ sym (ap last_read same.1) ∙ sym look.card.1 ∙ nobody in
    let zero : c.read-working.result ≡ 0 = cc in
    c.if-working-eq0.false zero))

pub returns-then-has_task-clause-looked : goal.returns-then-has_task-clause-looked
returns-then-has_task-clause-looked g c = λ _.
    let same = c.begin_look.ensures.same in
    let begins = c.begin_look.ensures.begins in
    let look = c.look.ensures in
    let found = c.found.ensures in
    let some = task_started c.look.new.self.worker.task (sym c.has_task.ensures ∙ c.if-has_task.true) in
    let read : last_read c.found.new.self.card ≡ Some c.read-working.result = search rules in
    inl (found_first g.G.Gate.knows c.args.run.now.space.now c.args.self.now c.begin_look.new.self c.look.new.self c.found.new.self same.0 same.3 (record { near = begins.near; far = begins.far })
    (look.plays some) (look.onward some) (look.before some) (look.found some)
    (λ not unread.
    let counted : c.is_at_work-counted.result ≡ false = c.is_at_work-counted.ensures ∙ ap counts same.1 ∙ c.read-working.ensures.same.2 ∙ not in
    let all : c.if-counted.look ≡ false = elim c.if-counted.branch [ then-counted w ↦ absurd (cc) | else-counted w ↦ w.look-is ∙ ne_eqb c.read-working.result 0 (λ e. unread (read ∙ ap Some e)) ] in
    look.fresh some all)
    found.same.0 found.same.2 found.misses
    (λ yes.
    let before = look.ended (ap counts same.1 ∙ c.read-working.ensures.same.2 ∙ yes) in
    let throughout : ended c.found.new.self.card ≡ ended c.args.self.now.card = search (rules, before) in
    throughout))

pub returns-then-working-eq0-clause-looked : goal.returns-then-working-eq0-clause-looked
returns-then-working-eq0-clause-looked g c = λ _.
    let same = c.begin_look.ensures.same in
    let look = c.look.ensures in
    let far = c.look_far.ensures in
    let begins = c.begin_look.ensures.begins in
    let found = c.found-then-working-eq0.ensures in
    let all : c.if-counted.look ≡ true = elim c.if-counted.branch [ then-counted w ↦ absurd (cc) | else-counted w ↦ w.look-is ∙ eq-eqb c.read-working.result 0 c.if-working-eq0.true ] in
    let none = none_there c.look.new.self.worker.task (sym c.has_task.ensures ∙ c.if-has_task.false) in
    let some = task_started c.look_far.new.self.worker.task (sym c.has_task-then-working-eq0.ensures ∙ c.if-not-has_task.false) in
    let counted : counts c.args.self.now.card ≡ false = sym c.read-working.ensures.same.2 ∙ sym (ap counts same.1) ∙ sym c.if-counted-2.ensures in
    let was_read : last_read c.begin_look.new.self.card ≡ Some 0 = ap last_read same.1 ∙ c.read-working.ensures.read ∙ ap Some c.if-working-eq0.true in
    let read : last_read c.found-then-working-eq0.new.self.card ≡ Some 0 = ap last_read found.same.3 ∙ far.card.1 ∙ look.card.1 ∙ was_read in
    let vain = in_vain_near c.args.run.now.space.now c.args.self.now c.begin_look.new.self c.look.new.self c.if-counted.look all same.0 (record { near = begins.near; far = begins.far }) counted (look.knows none) (look.through none) (look.all all was_read none) in
    inl (found_far g.G.Gate.knows c.args.run.now.space.now c.begin_look.new.self.place c.args.self.now c.look.new.self c.look_far.new.self c.found-then-working-eq0.new.self vain
    (behind c.begin_look.new.self.place c.look.new.self.worker c.look_far.new.self.worker far.stays none some) (far.found some) c.requires.idle (look.kept none ∙ ap (λ (w : Worker). (view w.desk).kept) same.0)
    (far.plays some) (far.before some) read found.same.0 found.same.2 found.misses)

pub returns-then-not-has_task-clause-gone : goal.returns-then-not-has_task-clause-gone
returns-then-not-has_task-clause-gone g c = λ _.
    let same = c.begin_look.ensures.same in
    let look = c.look.ensures in
    let far = c.look_far.ensures in
    let begins = c.begin_look.ensures.begins in
    let all : c.if-counted.look ≡ true = elim c.if-counted.branch [ then-counted w ↦ absurd (cc) | else-counted w ↦ w.look-is ∙ eq-eqb c.read-working.result 0 c.if-working-eq0.true ] in
    let none = none_there c.look.new.self.worker.task (sym c.has_task.ensures ∙ c.if-has_task.false) in
    let still = none_there c.look_far.new.self.worker.task (sym c.has_task-then-working-eq0.ensures ∙ c.if-not-has_task.true) in
    let counted : counts c.args.self.now.card ≡ false = sym c.read-working.ensures.same.2 ∙ sym (ap counts same.1) ∙ sym c.if-counted-2.ensures in
    let was_read : last_read c.begin_look.new.self.card ≡ Some 0 = ap last_read same.1 ∙ c.read-working.ensures.read ∙ ap Some c.if-working-eq0.true in
    let vain = in_vain_near c.args.run.now.space.now c.args.self.now c.begin_look.new.self c.look.new.self c.if-counted.look all same.0 (record { near = begins.near; far = begins.far }) counted (look.knows none) (look.through none) (look.all all was_read none) in
    inr (
      far.card.2 ∙ look.card.2 ∙ ap reads same.1 ∙ c.read-working.ensures.reads,
      far.card.1 ∙ look.card.1 ∙ was_read,
      c.begin_look.new.self.place,
      view c.look.new.self.worker.desk,
      vain,
      looked_again c.args.run.now.space.now c.begin_look.new.self.place c.look.new.self c.look_far.new.self far.stays (λ more. far.through more still) (λ more. far.knows more still),
    )

pub returns-then-has_task-clause-began : goal.returns-then-has_task-clause-began
returns-then-has_task-clause-began g c =
    let same = c.begin_look.ensures.same in
    let read = c.read-working.ensures in
    let found = c.found.ensures.same in
    let no_more : began c.found.new.self.card ≡ began c.look.new.self.card = began_as c.look.new.self.card c.found.new.self.card (search rules) (search rules) in
    began_since c.args.self.now c.begin_look.new.self _ (view c.look.new.self.worker.desk) (view c.found.new.self.worker.desk) c.look.new.self.card c.found.new.self.card same.0 same.1 read.same.2 read.ended
    (ap (λ (w : Worker). (view w.desk).looked.seen) found.0) no_more c.look.ensures.began

pub returns-then-counted-2-clause-began : goal.returns-then-counted-2-clause-began
returns-then-counted-2-clause-began g c =
    let same = c.begin_look.ensures.same in
    let read = c.read-working.ensures in
    began_since c.args.self.now c.begin_look.new.self _ (view c.look.new.self.worker.desk) (view c.look.new.self.worker.desk) c.look.new.self.card _ same.0 same.1 read.same.2 read.ended
    refl (search (rules, began_off)) c.look.ensures.began

pub returns-then-not-has_task-clause-began : goal.returns-then-not-has_task-clause-began
returns-then-not-has_task-clause-began g c =
    let same = c.begin_look.ensures.same in
    let read = c.read-working.ensures in
    let none = none_there c.look.new.self.worker.task (sym c.has_task.ensures ∙ c.if-has_task.false) in
    let far = view c.look_far.new.self.worker.desk in
    began_since c.args.self.now c.begin_look.new.self _ far far c.look_far.new.self.card c.look_far.new.self.card same.0 same.1 read.same.2 read.ended refl refl
    (began_more (view c.begin_look.new.self.worker.desk) (view c.look.new.self.worker.desk) far c.begin_look.new.self.card c.look.new.self.card c.look_far.new.self.card
    (c.look.ensures.as_before none) c.look.ensures.began c.look_far.ensures.began)

pub returns-then-working-eq0-clause-began : goal.returns-then-working-eq0-clause-began
returns-then-working-eq0-clause-began g c =
    let same = c.begin_look.ensures.same in
    let read = c.read-working.ensures in
    let none = none_there c.look.new.self.worker.task (sym c.has_task.ensures ∙ c.if-has_task.false) in
    let found = c.found-then-working-eq0.ensures.same in
    let far = view c.look_far.new.self.worker.desk in
    began_since c.args.self.now c.begin_look.new.self _ far (view c.found-then-working-eq0.new.self.worker.desk) c.look_far.new.self.card c.found-then-working-eq0.new.self.card same.0 same.1 read.same.2 read.ended
    (ap (λ (w : Worker). (view w.desk).looked.seen) found.0) (ap began found.3)
    (began_more (view c.begin_look.new.self.worker.desk) (view c.look.new.self.worker.desk) far c.begin_look.new.self.card c.look.new.self.card c.look_far.new.self.card
    (c.look.ensures.as_before none) c.look.ensures.began c.look_far.ensures.began)

pub returns-clause-began : goal.returns-clause-began
returns-clause-began g c =
    let same = c.begin_look.ensures.same in
    let read = c.read-working.ensures in
    began_since c.args.self.now c.begin_look.new.self _ (view c.look.new.self.worker.desk) (view c.look.new.self.worker.desk) c.look.new.self.card c.look.new.self.card same.0 same.1 read.same.2 read.ended
    refl refl c.look.ensures.began
