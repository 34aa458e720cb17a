use Rattle.std.proofs.Common.{arith, refl, ap, List}
use Rattle.std.specs.Prelude.{reverse}
use Rattle.chord_code.proofs.Validity.{valid_forward}
use Rattle.chord_task.specs.declared.body.Caller.{Caller}
use Rattle.chord_task.specs.Standing.{waiting_bodies}
use Rattle.chord_task.proofs.Tasks.{spare_task}
use Rattle.chord_task.proofs.task.Task.spare.Goals as goal

pub returns-clause-room : goal.returns-clause-room
returns-clause-room c = record {
  below = omega (arith, c.in_ok-below.ensures.len, c.in_ok-below.ensures.exact);
  frames = _;
  spare = refl;
  room = c.in_ok-frames.ensures.spare;
  values = record { bare = c.in_ok-values.ensures.items; wide = omega (arith, c.in_ok-values.ensures.exact) };
}

pub returns-clause-task : goal.returns-clause-task
returns-clause-task c =
    spare_task c.args.code.now c.args.limits.now _ (valid_forward c.args.code.now c.parts-parts.ensures.valid) refl refl c.none.ensures (ap (λ (z : List Caller). waiting_bodies (reverse z)) c.in_ok-below.ensures.items) (record {
      below = omega (arith, c.in_ok-below.ensures.len, c.in_ok-below.ensures.exact);
      frames = _;
      spare = refl;
      room = c.in_ok-frames.ensures.spare;
      values = record { bare = c.in_ok-values.ensures.items; wide = omega (arith, c.in_ok-values.ensures.exact) };
    })
    c.in_ok-frames.ensures.spare
    (record { bare = c.in_ok-values.ensures.items; wide = omega (arith, c.in_ok-values.ensures.exact) })
