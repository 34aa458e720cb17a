use Rattle.std.proofs.Common.{◌≡◌, ◌≤◌, ◌-◌, ◌∷◌, ◌++◌, [], length, Some, replicate, vec_len, ap, sym, ◌∙◌, arith}
use Rattle.std.proofs.lemmas.Grind.{common_steps}
use Rattle.chord_base.specs.declared.value.Value.TheVariants as a_value
use Rattle.chord_vm.specs.Frames.{laid}
use Rattle.chord_vm.proofs.Slots.{slots_room, slots_of_fits}
use Rattle.chord_vm.proofs.frames.fill_from.Goals as goal

pub lay-requires : goal.lay-requires
lay-requires c =
    let r : length (c.args.this ∷ laid c.args.arguments) ≤ c.args.n = slots_room c.args.n (c.args.this ∷ laid c.args.arguments) c.requires.fits in
    let one : vec_len c.push_reserved.new.self ≡ 1 = grind (arith, common_steps) in
    let room = c.requires.room in
    let same = c.push_reserved.ensures.capacity in
    let same' = c.truncate.ensures.capacity in
    omega (arith, r, one, room, same, same')

pub overflow_sub-rest : goal.overflow_sub-rest
overflow_sub-rest c =
    let r : length (c.args.this ∷ laid c.args.arguments) ≤ c.args.n = slots_room c.args.n (c.args.this ∷ laid c.args.arguments) c.requires.fits in
    let first : c.push_reserved.new.self.items ≡ c.args.this ∷ [] = grind (arith, common_steps) in
    let all : c.lay.new.slots.items ≡ c.args.this ∷ laid c.args.arguments = c.lay.ensures.items ∙ ap (λ z. z ++ laid c.args.arguments) first in
    let l = ap length all in
    omega (arith, r, l, c.len.ensures, c.lay.new.slots.ok.0)

pub returns-clause-filled : goal.returns-clause-filled
returns-clause-filled c =
    let xs = c.args.this ∷ laid c.args.arguments in
    let r : length xs ≤ c.args.n = slots_room c.args.n xs c.requires.fits in
    let first : c.push_reserved.new.self.items ≡ c.args.this ∷ [] = grind (arith, common_steps) in
    let all : c.lay.new.slots.items ≡ xs = c.lay.ensures.items ∙ ap (λ z. z ++ laid c.args.arguments) first in
    let l = ap length all in
    let rest : c.args.n - length xs ≡ c.args.n - c.len.result = omega (arith, l, c.len.ensures, c.lay.new.slots.ok.0) in
    slots_of_fits c.args.n xs r ∙ ap (λ k. Some (xs ++ replicate k a_value.Unit)) rest ∙ ap Some (sym (c.pad.ensures.items ∙ ap (λ z. z ++ replicate (c.args.n - c.len.result) a_value.Unit) all))
