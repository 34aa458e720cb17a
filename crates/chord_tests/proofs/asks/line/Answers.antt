use Rattle.std.proofs.Common.{◌≡◌, Some, sym, ap, ◌∙◌}
use Rattle.chord_vm.specs.Frames.{machine_of}
use Rattle.chord_tests.proofs.Seven.{comes_to_line, waits_behind_line, goes_on_behind}
use Rattle.chord_tests.proofs.asks.line.Goals as goal

pub advance-requires : goal.advance-requires
advance-requires c = record { sound = comes_to_line c.args.code.now (machine_of c.args.frames.now) c.requires.code c.requires.begun }

pub answer-requires-clause-fits : goal.answer-requires-clause-fits
answer-requires-clause-fits c =
    let w = waits_behind_line c.args.code.now (machine_of c.args.frames.now) c.in_ok-advance.field-0 c.advance.new.frames c.requires.code c.requires.begun c.in_ok-advance.ensures.advanced in
    let g = goes_on_behind (machine_of c.reserve.new.frames) c.reserve.new.frames.awaited (c.reserve.ensures.same.1 ∙ ap (λ z. z.awaited) w) in
    λ none. cc

pub returns : goal.returns
returns c =
    let w = waits_behind_line c.args.code.now (machine_of c.args.frames.now) c.in_ok-advance.field-0 c.advance.new.frames c.requires.code c.requires.begun c.in_ok-advance.ensures.advanced in
    let g : Some (machine_of c.reserve.new.frames) ≡ Some (machine_of c.answer.new.frames) = sym (goes_on_behind (machine_of c.reserve.new.frames) c.reserve.new.frames.awaited (c.reserve.ensures.same.1 ∙ ap (λ z. z.awaited) w)) ∙ c.answer.ensures.answered in
    let m : machine_of c.answer.new.frames ≡ machine_of c.reserve.new.frames = cc in
    record { answered = m ∙ c.reserve.ensures.same.0 ∙ ap (λ z. z.machine) w }
