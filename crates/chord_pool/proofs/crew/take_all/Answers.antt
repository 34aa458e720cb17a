use Rattle.std.proofs.Common.{rules, ◌∙◌, subst}
use Rattle.std.specs.Vec.Iter.{into_iter_items}
use Rattle.chord_space.specs.Desks.{view}
use Rattle.chord_pool.specs.Players.{IsBack}
use Rattle.chord_pool.proofs.Crews.{failed_as_before, drawn_with}
use Rattle.chord_pool.proofs.crew.take_all.Goals as goal

pub loop-player-preserved : goal.loop-player-preserved
loop-player-preserved c =
    let left = into_iter_items c.next.new.self in
    let before = into_iter_items c.loop-player.player-iterator in (
      search rules,
      search rules,
      c.in_ok-take_one.ensures.back left (subst (IsBack c.args.space.now c.loop-player.main) c.in-Some.ensures.steps.0 c.loop-player.invariant.2),
      c.take_one.ensures.splits ∙ c.loop-player.invariant.3,
      failed_as_before before left c.in-Some.player _ c.loop-player.invariant.4 c.in-Some.ensures.steps.0 c.in_ok-take_one.ensures.sane,
      drawn_with before left c.in-Some.player _ (view c.loop-player.main.desk).draws (view c.take_one.new.main.desk).draws c.loop-player.invariant.5 c.in-Some.ensures.steps.0 c.in_ok-take_one.ensures.drew,
    )
