use Rattle.std.proofs.Common.{◌≡◌, ap, ◌∙◌, sym, subst}
use Rattle.chord_code.specs.Fuel.{comes_to}
use Rattle.chord_code.specs.Machine.{Goes, Asking, Bad, step}
use Rattle.chord_code.specs.Valid.{IsValid}
use Rattle.chord_vm.specs.Frames.{machine_of, waiting_of}
use Rattle.chord_plain.specs.Effects.{IsEffect}
use Rattle.chord_plain.proofs.Onward.{run_bound, bound_on, bound_asks, bound_bad, lighter_step}
use Rattle.chord_plain.proofs.running.run.Goals as goal

pub loop-what-init : goal.loop-what-init
loop-what-init c =
    let valid : IsValid c.parts-parts.result.now = rw c.parts-parts.ensures.parts c.parts-parts.ensures.valid in
    run_bound c.parts-parts.result.now (machine_of c.args.frames.now) valid

pub loop-what-smaller : goal.loop-what-smaller
loop-what-smaller c =
    let valid : IsValid c.parts-parts.result.now = rw c.parts-parts.ensures.parts c.parts-parts.ensures.valid in
    let m = machine_of c.loop-what.frames in
    let goes : step c.parts-parts.result.now m ≡ Goes (machine_of c.take_step.new.frames) =
    subst (λ t. IsEffect (step c.parts-parts.result.now m) t c.take_step.new.frames) c.in-GoesOn.is c.in_ok-take_step.ensures
    in
    lighter_step c.parts-parts.result.now m (machine_of c.take_step.new.frames) valid goes

pub loop-what-preserved : goal.loop-what-preserved
loop-what-preserved c =
    let m = machine_of c.loop-what.frames in
    let goes : step c.parts-parts.result.now m ≡ Goes (machine_of c.take_step.new.frames) =
    subst (λ t. IsEffect (step c.parts-parts.result.now m) t c.take_step.new.frames) c.in-GoesOn.is c.in_ok-take_step.ensures
    in
    bound_on c.parts-parts.result.now m (machine_of c.take_step.new.frames) _ goes c.loop-what.invariant

pub returns-in-Asks : goal.returns-in-Asks
returns-in-Asks c =
    let m = machine_of c.loop-what.frames in
    let asks : step c.parts-parts.result.now m ≡ Asking c.in-Asks.what (waiting_of c.take_step.new.frames) =
    subst (λ t. IsEffect (step c.parts-parts.result.now m) t c.take_step.new.frames) c.in-Asks.is c.in_ok-take_step.ensures
    in
    ap (λ code. comes_to code (machine_of c.args.frames.now)) (sym c.parts-parts.ensures.parts)
    ∙ bound_asks c.parts-parts.result.now m _ c.in-Asks.what (waiting_of c.take_step.new.frames) asks c.loop-what.invariant

pub returns-in-GoesWrong : goal.returns-in-GoesWrong
returns-in-GoesWrong c =
    let m = machine_of c.loop-what.frames in
    let bad : step c.parts-parts.result.now m ≡ Bad =
    subst (λ t. IsEffect (step c.parts-parts.result.now m) t c.take_step.new.frames) c.in-GoesWrong.is c.in_ok-take_step.ensures
    in
    ap (λ code. comes_to code (machine_of c.args.frames.now)) (sym c.parts-parts.ensures.parts)
    ∙ bound_bad c.parts-parts.result.now m _ bad c.loop-what.invariant
