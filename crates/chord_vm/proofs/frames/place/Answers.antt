use Rattle.std.proofs.Common.{◌≡◌, ◌-◌, ◌∷◌, ◌++◌, [], arith, Some, None, ap, ◌∙◌, sym, take}
use Rattle.std.specs.Prelude.{reverse}
use Rattle.std.proofs.lemmas.List.{reverse-append}
use Rattle.chord_base.specs.declared.value.Value.TheVariants as a_value
use Rattle.chord_code.specs.Machine.{with_object}
use Rattle.chord_vm.specs.Frames.{machine_of}
use Rattle.chord_vm.proofs.Slots.{pops_split}
use Rattle.chord_vm.proofs.Moves.{with_object_pops}
use Rattle.chord_vm.proofs.frames.place.Goals as goal

pub overflow_sub-at : goal.overflow_sub-at
overflow_sub-at c =
    let r = with_object_pops (machine_of c.args.frames.now) None c.args.object c.args.n c.args.frames.now.top.stack.items c.requires.fits in
    omega (arith, r, c.len.ensures, c.args.frames.now.top.stack.ok.0)

pub returns-clause-placed : goal.returns-clause-placed
returns-clause-placed c =
    let items = c.args.frames.now.top.stack.items in
    let r = with_object_pops (machine_of c.args.frames.now) None c.args.object c.args.n items c.requires.fits in
    let k = c.len.result - c.args.n in
    let e = pops_split items c.args.n k r (omega (arith, r, c.len.ensures, c.args.frames.now.top.stack.ok.0)) in
    let s : reverse c.push_reserved.new.self.items ≡ a_value.Ref c.args.object ∷ reverse (take k items) =
    ap reverse (c.push_reserved.ensures.items ∙ ap (λ l. l ++ a_value.Ref c.args.object ∷ []) c.truncate.ensures.items) ∙ reverse-append (take k items) (a_value.Ref c.args.object ∷ [])
    in
    ap (with_object (machine_of c.args.frames.now) None c.args.object) e
    ∙ ap (λ l. Some (record { top = record { block = c.args.frames.now.top.block; place = c.args.frames.now.top.place; room = c.args.frames.now.top.room; stack = l; slots = c.args.frames.now.top.slots.items }; below = (machine_of c.args.frames.now).below; turns = c.args.frames.now.turns })) (sym s)
