use Rattle.std.proofs.Common.{ℕ, sym, subst, vec_len, vec_capacity}
use Rattle.chord_base.specs.Room.{HasGrown}
use Rattle.chord_task.proofs.task.begun.Goals as goal

pub returns-clause-grown : goal.returns-clause-grown
returns-clause-grown c = subst (λ (z : ℕ). HasGrown (vec_len c.args.list.now) (vec_capacity c.args.list.now) z) (sym c.append.ensures.capacity) c.in_ok-reserve_one.ensures.grown
