use Rattle.std.proofs.Common.{◌≡◌, suc, ◌+◌, ◌∷◌, ap, ◌∙◌, sym, arith, rules, to_z, of_z, w32}
use Rattle.std.specs.Prelude.{slice_set, reverse}
use Rattle.chord_base.specs.declared.value.Value.TheVariants as a_value
use Rattle.chord_code.specs.Machine.{Frame, Goes, with_top, stores}
use Rattle.chord_vm.specs.Frames.{machine_of}
use Rattle.chord_vm.proofs.Slots.{slots_set, slot_within}
use Rattle.chord_vm.proofs.fused.store_number.Goals as goal

pub returns-in-Some-clause-yes : goal.returns-in-Some-clause-yes
returns-in-Some-clause-yes c = λ yes.
    let m = machine_of c.args.frames.now in
    let taken = c.take.new.frame in
    let rest = reverse taken.stack.items in
    let v = a_value.Int c.args.number in
    let popped = c.take.ensures.popped in
    let same : c.args.number ≡ to_z w32 (of_z w32 c.args.number) = search (rules, c.ranges.number.sfits) in
    let place : suc (m.top.place + 2) ≡ taken.place + 3 = omega (arith, ap (λ f. f.place) popped) in (
      c.take.result,
      rest,
      ap (λ f. f.stack) popped,
      ap (stores (with_top m (m.top.place + 2) (v ∷ rest) m.top.slots m.turns) rest)
          (slots_set c.args.slot v m.top.slots (slot_within c.args.slot _ m.top.slots c.in-Some.ensures))
          ∙ ap (λ x. Goes (with_top m (suc (m.top.place + 2)) rest (slice_set m.top.slots c.args.slot x) m.turns)) (ap a_value.Int same ∙ sym c.set_number.ensures)
          ∙ ap (λ (f : Frame). Goes (record { top = record { block = f.block; place = suc (m.top.place + 2); room = f.room; stack = rest; slots = f.slots }; below = m.below; turns = m.turns })) popped
          ∙ ap (λ p. Goes (record { top = record { block = taken.block; place = p; room = taken.room; stack = rest; slots = taken.slots.items }; below = m.below; turns = m.turns })) place,
    )
