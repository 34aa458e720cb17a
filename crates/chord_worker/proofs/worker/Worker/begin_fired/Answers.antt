use Rattle.std.proofs.Common.{◌≡◌, sym, ◌∙◌, Some, None, inl, inr, ⊎_elim}
use Rattle.chord_task.specs.Gathering.{gathered_in}
use Rattle.chord_worker.proofs.Beginning.{caller_came, task_is, may_be_begun, twice, few_values, begun_there}
use Rattle.chord_worker.proofs.worker.Worker.begin_fired.Goals as goal

pub take_task-task-requires : goal.take_task-task-requires
take_task-task-requires g c = record { stock = λ e. let z : Some c.requires.fired.3.stock ≡ None = sym c.requires.fired.3.spare ∙ e in cc }

pub begin_body-requires-clause-task : goal.begin_body-requires-clause-task
begin_body-requires-clause-task g c = rw (c.deref_mut.ensures.value ∙ c.task.view_is) (task_is _ _ _ _ _ _ _ _ c.requires.fired.3 c.requires.sound _ c.requires.code c.chords_are_right.ensures _ (c.take.ensures.value ∙ c.requires.fired.2.caller_is) _ c.take_task-task.ensures.task (gathered_in c.args.unpacked.now.arguments.one c.args.unpacked.now.arguments.more) c.requires.fired.2.gathered.values c.requires.fired.2.gathered.twice)

pub begin_body-requires-clause-may : goal.begin_body-requires-clause-may
begin_body-requires-clause-may g c = rw (c.deref_mut.ensures.value ∙ c.task.view_is) (may_be_begun _ _ _ _ _ _ _ _ c.requires.fired.3 c.requires.sound _ c.requires.code c.chords_are_right.ensures _ (c.take.ensures.value ∙ c.requires.fired.2.caller_is) _ c.take_task-task.ensures.task (gathered_in c.args.unpacked.now.arguments.one c.args.unpacked.now.arguments.more) c.requires.fired.2.gathered.values c.requires.fired.2.gathered.twice)

pub begin_body-requires-clause-few : goal.begin_body-requires-clause-few
begin_body-requires-clause-few g c = few_values _ _ _ _ _ _ _ _ c.requires.fired.3 c.requires.sound _ c.requires.code c.chords_are_right.ensures _ (c.take.ensures.value ∙ c.requires.fired.2.caller_is) _ c.take_task-task.ensures.task (gathered_in c.args.unpacked.now.arguments.one c.args.unpacked.now.arguments.more) c.requires.fired.2.gathered.values c.requires.fired.2.gathered.twice c.entries_are_within.ensures.within c.args.space.now.sized.4

pub begin_body-requires-clause-twice : goal.begin_body-requires-clause-twice
begin_body-requires-clause-twice g c = twice _ _ _ _ _ _ _ _ c.requires.fired.3 c.requires.sound _ c.requires.code c.chords_are_right.ensures _ (c.take.ensures.value ∙ c.requires.fired.2.caller_is) _ c.take_task-task.ensures.task (gathered_in c.args.unpacked.now.arguments.one c.args.unpacked.now.arguments.more) c.requires.fired.2.gathered.values c.requires.fired.2.gathered.twice

pub take_on-requires-clause-begun : goal.take_on-requires-clause-begun
take_on-requires-clause-begun g c = (
  c.requires.fired.0,
  begun_there _ _ _ _ _ _ _ _ c.requires.fired.3 c.requires.sound _ c.requires.code c.chords_are_right.ensures _ (c.take.ensures.value ∙ c.requires.fired.2.caller_is) _ c.take_task-task.ensures.task (gathered_in c.args.unpacked.now.arguments.one c.args.unpacked.now.arguments.more) c.requires.fired.2.gathered.values c.requires.fired.2.gathered.twice _ c.take_task-task.ensures.spare _ (rw (c.deref_mut.ensures.value ∙ c.task.view_is) at c.begin_body.ensures.task) (rw (c.deref_mut.ensures.value ∙ c.task.view_is) at c.begin_body.ensures.past) c.begin_body.ensures.top c.begin_body.new.draws (rw (c.deref_mut.ensures.value ∙ c.task.view_is) at c.begin_body.ensures.listed),
)

pub returns-clause-taken : goal.returns-clause-taken
returns-clause-taken g c = λ v qs unpacked fired.
    c.take_on.ensures.taken v
    (begun_there _ _ _ _ _ _ _ _ fired c.requires.sound _ c.requires.code c.chords_are_right.ensures _ (c.take.ensures.value ∙ unpacked.caller_is) _ c.take_task-task.ensures.task (gathered_in c.args.unpacked.now.arguments.one c.args.unpacked.now.arguments.more) unpacked.gathered.values unpacked.gathered.twice _ c.take_task-task.ensures.spare _ (rw (c.deref_mut.ensures.value ∙ c.task.view_is) at c.begin_body.ensures.task) (rw (c.deref_mut.ensures.value ∙ c.task.view_is) at c.begin_body.ensures.past) c.begin_body.ensures.top c.begin_body.new.draws (rw (c.deref_mut.ensures.value ∙ c.task.view_is) at c.begin_body.ensures.listed))

pub returns-clause-spare : goal.returns-clause-spare
returns-clause-spare g c = ⊎_elim (λ same. inl (c.take_on.ensures.spare ∙ same)) (λ none. inr (c.take_on.ensures.spare ∙ none)) c.take_task-task.ensures.spare

pub returns-clause-kept : goal.returns-clause-kept
returns-clause-kept g c = λ v qs unpacked fired.
    ⊎_elim
    (λ some. inl (c.take_on.ensures.spare ∙ c.take_task-task.ensures.kept some))
    (λ none. inr none)
    (caller_came _ _ _ _ _ _ _ _ fired c.requires.sound _ c.requires.code c.chords_are_right.ensures _ (c.take.ensures.value ∙ unpacked.caller_is) _ c.take_task-task.ensures.task (gathered_in c.args.unpacked.now.arguments.one c.args.unpacked.now.arguments.more) unpacked.gathered.values unpacked.gathered.twice)
