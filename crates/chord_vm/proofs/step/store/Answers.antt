use Rattle.std.proofs.Common.{◌+◌, suc, ap, ◌∙◌, sym, arith, add-one}
use Rattle.std.specs.Prelude.{slice_set, reverse}
use Rattle.chord_code.specs.Machine.{Goes}
use Rattle.chord_vm.specs.Frames.{machine_of, frame_with, shown_frame}
use Rattle.chord_vm.proofs.Slots.{stored_within, stored_goes}
use Rattle.chord_vm.proofs.step.store.Goals as goal

pub index_mut-requires : goal.index_mut-requires
index_mut-requires c =
    let w = stored_within c.args.i (machine_of c.args.frames.now) c.take-v.result _ c.take-v.new.frame.slots.items (ap (λ f. f.stack) c.take-v.ensures.popped) (ap (λ f. f.slots) c.take-v.ensures.popped) c.requires.sound in
    omega (arith, w, c.take-v.new.frame.slots.ok.0)

pub returns : goal.returns
returns c =
    let w = stored_within c.args.i (machine_of c.args.frames.now) c.take-v.result _ c.take-v.new.frame.slots.items (ap (λ f. f.stack) c.take-v.ensures.popped) (ap (λ f. f.slots) c.take-v.ensures.popped) c.requires.sound in
    stored_goes c.args.i (machine_of c.args.frames.now) c.take-v.result _ c.take-v.new.frame.slots.items (ap (λ f. f.stack) c.take-v.ensures.popped) (ap (λ f. f.slots) c.take-v.ensures.popped) w
    ∙ ap (λ f. Goes (record { top = frame_with f (suc f.place) (reverse c.take-v.new.frame.stack.items) (slice_set c.take-v.new.frame.slots.items c.args.i c.take-v.result); below = (machine_of c.args.frames.now).below; turns = c.args.frames.now.turns })) c.take-v.ensures.popped
    ∙ ap (λ p. Goes (record { top = frame_with (shown_frame c.take-v.new.frame) p (reverse c.take-v.new.frame.stack.items) (slice_set c.take-v.new.frame.slots.items c.args.i c.take-v.result); below = (machine_of c.args.frames.now).below; turns = c.args.frames.now.turns })) (sym (add-one c.take-v.new.frame.place))
    ∙ ap (λ v. Goes (record { top = frame_with (shown_frame c.take-v.new.frame) (c.take-v.new.frame.place + 1) (reverse c.take-v.new.frame.stack.items) (slice_set c.take-v.new.frame.slots.items c.args.i v); below = (machine_of c.args.frames.now).below; turns = c.args.frames.now.turns })) (sym c.put_value.ensures)
