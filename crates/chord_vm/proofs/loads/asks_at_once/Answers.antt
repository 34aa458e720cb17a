use Rattle.std.proofs.Common.{◌≡◌, Some, [], ◌∷◌, subst}
use Rattle.chord_code.specs.Machine.{Bad, act, send_by, pops}
use Rattle.chord_vm.specs.Frames.{machine_of, with_pushed}
use Rattle.chord_vm.proofs.loads.asks_at_once.Goals as goal

pub sends_at_once-requires-clause-sound : goal.sends_at_once-requires-clause-sound
sends_at_once-requires-clause-sound c = λ v e.
    let m = machine_of c.args.frames.now in
    let s = subst (λ i. act c.requires.sound.0 (Some i) (with_pushed v m) ≡ Bad → ⊥) c.in-Send.is (c.requires.sound.1 v e) in
    subst (λ n. send_by c.in-Send.method (with_pushed v m) (pops n [] (v ∷ m.top.stack)) ≡ Bad → ⊥) c.if-n-eq1.true s
