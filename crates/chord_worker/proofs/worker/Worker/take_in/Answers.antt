use Rattle.std.proofs.Common.{List, ◌++◌, refl, ap, ◌∙◌, Vec, Global}
use Rattle.chord_base.specs.declared.event.Entry.{Entry}
use Rattle.chord_worker.proofs.Uniting.{united_rest}
use Rattle.chord_worker.proofs.worker.Worker.take_in.Goals as goal

pub returns-clause-rest : goal.returns-clause-rest
returns-clause-rest c =
    let s = c.args.space.now in
    let w = c.args.self.now in
    let w' = record w { desk = c.join.new.desk; taken = c.append.new.self; spent = c.told_either-self.result } in (
      united_rest s w c.args.other c.requires.rest.0 c.requires.rest.1 c.requires.tasks.0 c.requires.tasks.1 c.join.new.desk c.join.ensures.united.0 c.join.ensures.united.1 c.join.ensures.place
          w' refl refl refl c.told_either-self.ensures refl (c.in_ok-append.ensures.items ∙ ap (λ (ts : List (Vec Entry Global)). ts ++ c.args.other.taken.items) c.in_ok-push.ensures.items),
      c.requires.tasks.0,
    )
