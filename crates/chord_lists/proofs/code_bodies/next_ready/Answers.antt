use Rattle.std.proofs.Common.{◌-◌, length, sym, ap, ◌∙◌}
use Rattle.std.specs.Prelude.{slice_get}
use Rattle.chord_lists.proofs.CodeSteps.{ready_popped, cut_more}
use Rattle.chord_lists.proofs.code_bodies.next_ready.Goals as goal

pub loop-at-preserved : goal.loop-at-preserved
loop-at-preserved c = (
  ready_popped c.args.tasks.now c.loop-at.ready.items c.pop.new.self.items c.pop.result c.in-Some.at.now c.pop.ensures.items
      (c.in-Some.ensures.value ∙ ap (λ xs. slice_get xs (length xs - 1)) c.deref.ensures.value) (sym c.goes_at.ensures ∙ c.if-goes_at.false) c.loop-at.invariant.0,
  cut_more c.args.ready.now.items c.loop-at.ready.items c.pop.new.self.items c.pop.result c.pop.ensures.items c.loop-at.invariant.1,
)
