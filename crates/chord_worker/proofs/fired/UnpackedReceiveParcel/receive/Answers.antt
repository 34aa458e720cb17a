use Rattle.std.proofs.Common.{◌<◌, sym, subst, ℕ}
use Rattle.chord_worker.specs.Beginning.{arguments_in}
use Rattle.chord_worker.proofs.Unpacked.{unpacked_more, as_many}
use Rattle.chord_worker.proofs.fired.UnpackedReceiveParcel.receive.Goals as goal

pub gather-requires : goal.gather-requires
gather-requires c =
    let r = c.requires.room in
    record { room = (arguments_in r.0, r.1.gathered, subst (λ (n : ℕ). n < 8) (sym (as_many r.0)) r.2) }

pub returns : goal.returns
returns c = record { received = λ qs u. rw (c.keep_task.ensures, ← c.open-arguments.ensures) (unpacked_more _ _ _ _ _ qs c.open-arguments.result c.gather.ensures.added u) }
