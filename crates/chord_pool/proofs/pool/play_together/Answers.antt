use Rattle.std.proofs.Common.{ℕ, ◌+◌, ap, ◌∙◌}
use Rattle.chord_space.specs.Desks.{view}
use Rattle.chord_worker.specs.declared.worker.Worker.{Worker}
use Rattle.chord_pool.proofs.Crews.{come_back}
use Rattle.chord_pool.proofs.pool.play_together.Goals as goal

pub taken_in-requires : goal.taken_in-requires
taken_in-requires g c =
    let back = c.share-main.ensures in
    record {
      back = come_back c.args.run.now.space.now (record { worker = c.hire.new.main.worker; card = c.begin.new.self; failed = c.hire.new.main.failed; place = c.hire.new.main.place; known = c.hire.new.main.known; misses = c.hire.new.main.misses }) c.share-main.result.0 c.in_ok-others.others.items c.share-main.result.1.items c.in_ok-others.ensures.crew back.main.0 back.main.1 back.others.0 back.others.1;
    }

pub returns-clause-crew : goal.returns-clause-crew
returns-clause-crew g c =
    let hired = c.in_ok-others.ensures.count in
    let role = c.share-main.ensures.main.1.1 c.in_ok-last.ensures.sane in
    ap (λ (n : ℕ). n + 1) (c.in_ok-last.ensures.splits ∙ role.splits ∙ hired.0) ∙ hired.1

pub returns-clause-together : goal.returns-clause-together
returns-clause-together g c =
    let last = c.in_ok-last.ensures in record {
      before = record { worker = c.hire.new.main.worker; card = c.begin.new.self; failed = c.hire.new.main.failed; place = c.hire.new.main.place; known = c.hire.new.main.known; misses = c.hire.new.main.misses };
      after = c.share-main.result.0;
      others = c.in_ok-others.others.items;
      backs = c.share-main.result.1.items;
      task = c.in_ok-others.ensures.task ∙ ap (λ (w : Worker). w.task) c.new-main.ensures.0;
      drawn = c.in_ok-others.ensures.drawn ∙ ap (λ (w : Worker). (view w.desk).draws) c.new-main.ensures.0;
      count = c.in_ok-others.ensures.count.1;
      all = c.in_ok-others.ensures.crew.all;
      sane = last.sane;
      all_sane = last.all_sane;
      off = c.share-main.ensures.off.0;
      all_off = c.share-main.ensures.off.1;
      draws = last.drew;
      fresh = (c.hire.ensures.same.1 ∙ c.new-main.ensures.3, c.hire.ensures.same.2 ∙ c.new-main.ensures.4, c.hire.ensures.same.3 ∙ c.new-main.ensures.5);
    }
