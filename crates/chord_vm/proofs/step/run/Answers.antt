use Rattle.std.proofs.Common.{◌≡◌, ◌≢◌, ◌∷◌, Some, refl, ap, ◌∙◌, sym, subst, to_z, of_z, w32}
use Rattle.std.specs.Prelude.{slice_get}
use Rattle.chord_code.specs.declared.instruction.Instruction.TheVariants as instr
use Rattle.chord_code.specs.Machine.{act, step, loads, operate, run, Goes, Bad, ComesToAsk}
use Rattle.chord_vm.specs.declared.frames.Frames.{Frames}
use Rattle.chord_vm.specs.declared.step.After.TheVariants as steps
use Rattle.chord_vm.specs.declared.fused.AtOnce.TheVariants as at_once
use Rattle.chord_vm.specs.Frames.{machine_of, SteppedTo, instructions_in, with_pushed}
use Rattle.chord_base.specs.declared.value.Value.TheVariants as a_value
use Rattle.chord_vm.proofs.Advance.{not_bad, put_ask, went_to, moved_to, stepped_advanced, defined_on, ran_once, ran_defined, ran_lighter, ran_to_ask, ran_operator, works_on}
use Rattle.chord_vm.proofs.Stays.{stays}
use Rattle.chord_code.proofs.Weight.{lighter}
use Rattle.chord_code.proofs.Validity.{valid_forward}
use Rattle.chord_vm.proofs.step.run.Goals as goal

pub returns-in-Asks-clause-asked : goal.returns-in-Asks-clause-asked
returns-in-Asks-clause-asked c =
    let code = c.args.parts.now in
    let m = machine_of c.steps.frames in
    let e : step code m ≡ act code (Some c.steps.instruction.now) m = ap (λ o. act code o m) c.steps.invariant.fetched in
    let p = put_ask (act code (Some c.steps.instruction.now) m) c.step.result c.step.new.asked c.step.new.frames c.in-Asks.is c.step.ensures.stepped in
    let s = subst (λ d. SteppedTo d (Some p.0) c.step.new.frames) (sym e) p.2 in
    (p.0, p.1, c.steps.invariant.goes_on p.0 c.step.new.frames (stepped_advanced code m p.0 c.step.new.frames s))

pub steps-smaller-in-Goes : goal.steps-smaller-in-Goes
steps-smaller-in-Goes c =
    let code = c.args.parts.now in
    let m = machine_of c.steps.frames in
    let g = went_to (act code (Some c.steps.instruction.now) m) c.step.result c.step.new.asked c.step.new.frames c.in-Goes.is c.step.ensures.stepped in
    lighter code m (machine_of c.step.new.frames) c.steps.instruction.now (valid_forward code c.requires.valid) c.steps.invariant.fetched g

pub steps-smaller : goal.steps-smaller
steps-smaller c =
    let code = c.args.parts.now in
    let m = machine_of c.steps.frames in
    let g = moved_to (act code (Some c.steps.instruction.now) m) c.step.result c.step.new.asked c.step.new.frames c.in-Moves.is c.step.ensures.stepped in
    lighter code m (machine_of c.step.new.frames) c.steps.instruction.now (valid_forward code c.requires.valid) c.steps.invariant.fetched g

pub next-instruction-requires-in-Goes-clause-here : goal.next-instruction-requires-in-Goes-clause-here
next-instruction-requires-in-Goes-clause-here c =
    let code = c.args.parts.now in
    let m = machine_of c.steps.frames in
    let g = went_to (act code (Some c.steps.instruction.now) m) c.step.result c.step.new.asked c.step.new.frames c.in-Goes.is c.step.ensures.stepped in
    ap (instructions_in code) (stays code m (machine_of c.step.new.frames) c.steps.instruction.now (c.step.ensures.stays c.in-Goes.is) g) ∙ c.steps.invariant.here

pub next-instruction-requires-in-Goes-clause-sound : goal.next-instruction-requires-in-Goes-clause-sound
next-instruction-requires-in-Goes-clause-sound c =
    let code = c.args.parts.now in
    let m = machine_of c.steps.frames in
    let g = went_to (act code (Some c.steps.instruction.now) m) c.step.result c.step.new.asked c.step.new.frames c.in-Goes.is c.step.ensures.stepped in
    let e : step code m ≡ Goes (machine_of c.step.new.frames) = ap (λ o. act code o m) c.steps.invariant.fetched ∙ g in
    defined_on code m (machine_of c.step.new.frames) e c.steps.invariant.defined

pub at_work-instructions-requires-in-Moves : goal.at_work-instructions-requires-in-Moves
at_work-instructions-requires-in-Moves c =
    let code = c.args.parts.now in
    let m = machine_of c.steps.frames in
    let g = moved_to (act code (Some c.steps.instruction.now) m) c.step.result c.step.new.asked c.step.new.frames c.in-Moves.is c.step.ensures.stepped in
    let e : step code m ≡ Goes (machine_of c.step.new.frames) = ap (λ o. act code o m) c.steps.invariant.fetched ∙ g in
    record { sound = defined_on code m (machine_of c.step.new.frames) e c.steps.invariant.defined }

pub next-instruction-requires-in-Moves-clause-sound : goal.next-instruction-requires-in-Moves-clause-sound
next-instruction-requires-in-Moves-clause-sound c =
    let code = c.args.parts.now in
    let m = machine_of c.steps.frames in
    let g = moved_to (act code (Some c.steps.instruction.now) m) c.step.result c.step.new.asked c.step.new.frames c.in-Moves.is c.step.ensures.stepped in
    let e : step code m ≡ Goes (machine_of c.step.new.frames) = ap (λ o. act code o m) c.steps.invariant.fetched ∙ g in
    defined_on code m (machine_of c.step.new.frames) e c.steps.invariant.defined

pub steps-preserved-in-Goes : goal.steps-preserved-in-Goes
steps-preserved-in-Goes c =
    let code = c.args.parts.now in
    let m = machine_of c.steps.frames in
    let f = c.step.new.frames in
    let next = c.next-instruction-in-Goes.ensures in
    let g = went_to (act code (Some c.steps.instruction.now) m) c.step.result c.step.new.asked f c.in-Goes.is c.step.ensures.stepped in
    let ran : run code 1 m ≡ Goes (machine_of f) = ran_once code m ∙ ap (λ o. act code o m) c.steps.invariant.fetched ∙ g in
    let here = ap (instructions_in code) (stays code m (machine_of f) c.steps.instruction.now (c.step.ensures.stays c.in-Goes.is) g) ∙ c.steps.invariant.here in
    works_on code 1 _ _ _ _ f _ _ _ _ c.steps.invariant ran here next.instruction next.within next.fits (c.step.ensures.unasked (λ e. let z : steps.Goes ≡ steps.Asks = sym c.in-Goes.is ∙ e in cc) ∙ c.steps.invariant.empty)

pub steps-preserved : goal.steps-preserved
steps-preserved c =
    let code = c.args.parts.now in
    let m = machine_of c.steps.frames in
    let f = c.step.new.frames in
    let next = c.next-instruction-in-Moves.ensures in
    let g = moved_to (act code (Some c.steps.instruction.now) m) c.step.result c.step.new.asked f c.in-Moves.is c.step.ensures.stepped in
    let ran : run code 1 m ≡ Goes (machine_of f) = ran_once code m ∙ ap (λ o. act code o m) c.steps.invariant.fetched ∙ g in
    works_on code 1 _ _ _ _ f _ _ _ _ c.steps.invariant ran c.at_work-instructions-in-Moves.ensures next.instruction next.within next.fits (c.step.ensures.unasked (λ e. let z : steps.Moves ≡ steps.Asks = sym c.in-Moves.is ∙ e in cc) ∙ c.steps.invariant.empty)

pub stores_at_once-requires-clause-operator : goal.stores_at_once-requires-clause-operator
stores_at_once-requires-clause-operator c = λ m. ap (λ o. act c.args.parts.now o m) c.following.ensures.instruction ∙ c.in-Some.ensures.1 c.args.parts.now m

pub next-instruction-requires-then-stores_at_once-clause-sound : goal.next-instruction-requires-then-stores_at_once-clause-sound
next-instruction-requires-then-stores_at_once-clause-sound c =
    ran_defined c.args.parts.now 3 (machine_of c.steps.frames) (machine_of c.stores_at_once.new.frames) (c.stores_at_once.ensures.yes c.if-stores_at_once.true) c.steps.invariant.defined

pub next-instruction-requires-then-stores_at_once-clause-here : goal.next-instruction-requires-then-stores_at_once-clause-here
next-instruction-requires-then-stores_at_once-clause-here c = ap (instructions_in c.args.parts.now) c.stores_at_once.ensures.block ∙ c.steps.invariant.here

pub steps-smaller-then-stores_at_once : goal.steps-smaller-then-stores_at_once
steps-smaller-then-stores_at_once c =
    ran_lighter c.args.parts.now 2 (machine_of c.steps.frames) (machine_of c.stores_at_once.new.frames) (valid_forward c.args.parts.now c.requires.valid) (c.stores_at_once.ensures.yes c.if-stores_at_once.true)

pub steps-preserved-then-stores_at_once : goal.steps-preserved-then-stores_at_once
steps-preserved-then-stores_at_once c =
    let here = ap (instructions_in c.args.parts.now) c.stores_at_once.ensures.block ∙ c.steps.invariant.here in
    let next = c.next-instruction-then-stores_at_once.ensures in
    works_on c.args.parts.now 3 _ _ _ _ c.stores_at_once.new.frames _ _ _ _ c.steps.invariant (c.stores_at_once.ensures.yes c.if-stores_at_once.true) here next.instruction next.within next.fits c.steps.invariant.empty

pub next-instruction-requires-in-Branch-clause-sound : goal.next-instruction-requires-in-Branch-clause-sound
next-instruction-requires-in-Branch-clause-sound c =
    ran_defined c.args.parts.now 4 (machine_of c.steps.frames) (machine_of c.load_at_once.new.frames) (c.load_at_once.ensures.branch c.in-Branch.is) c.steps.invariant.defined

pub next-instruction-requires-in-Branch-clause-here : goal.next-instruction-requires-in-Branch-clause-here
next-instruction-requires-in-Branch-clause-here c = ap (instructions_in c.args.parts.now) (c.load_at_once.ensures.block c.in-Branch.is) ∙ c.steps.invariant.here

pub steps-smaller-in-Branch : goal.steps-smaller-in-Branch
steps-smaller-in-Branch c =
    ran_lighter c.args.parts.now 3 (machine_of c.steps.frames) (machine_of c.load_at_once.new.frames) (valid_forward c.args.parts.now c.requires.valid) (c.load_at_once.ensures.branch c.in-Branch.is)

pub steps-preserved-in-Branch : goal.steps-preserved-in-Branch
steps-preserved-in-Branch c =
    let here = ap (instructions_in c.args.parts.now) (c.load_at_once.ensures.block c.in-Branch.is) ∙ c.steps.invariant.here in
    let next = c.next-instruction-in-Branch.ensures in
    works_on c.args.parts.now 4 _ _ _ _ c.load_at_once.new.frames _ _ _ _ c.steps.invariant (c.load_at_once.ensures.branch c.in-Branch.is) here next.instruction next.within next.fits (c.load_at_once.ensures.unasked (λ e. let z : at_once.Branch ≡ at_once.Ask = sym c.in-Branch.is ∙ e in cc) ∙ c.steps.invariant.empty)

pub returns-in-Ask-clause-asked : goal.returns-in-Ask-clause-asked
returns-in-Ask-clause-asked c =
    let code = c.args.parts.now in
    let m = machine_of c.steps.frames in
    let f = c.load_at_once.new.frames in
    let ran = c.load_at_once.ensures.ask c.in-Ask.is in
    let p = put_ask (run code ran.0 m) steps.Asks c.load_at_once.new.asked f refl ran.1 in
    (p.0, p.1, c.steps.invariant.goes_on p.0 f (ran_to_ask code ran.0 m p.0 f p.2))

pub operate_on-requires-clause-sound : goal.operate_on-requires-clause-sound
operate_on-requires-clause-sound c =
    let code = c.args.parts.now in
    let m = machine_of c.steps.frames in
    let n = to_z w32 (of_z w32 c.in-Int.number) in
    let between = with_pushed (a_value.Int n) m in
    let d : ComesToAsk code between = defined_on code m between c.following.ensures.pushes c.steps.invariant.defined in
    let e : step code between ≡ operate c.in-Some.operation between between.top.stack = ap (λ o. act code o between) c.following.ensures.instruction ∙ c.in-Some.ensures.1 code between in
    subst (λ (x : Frames). operate c.in-Some.operation (with_pushed (a_value.Int n) (machine_of x)) (a_value.Int n ∷ (machine_of x).top.stack) ≢ Bad) (sym (c.stores_at_once.ensures.no c.if-stores_at_once.false)) (λ b. not_bad code between d (e ∙ b))

pub next-instruction-requires-in-Some-clause-here : goal.next-instruction-requires-in-Some-clause-here
next-instruction-requires-in-Some-clause-here c = ap (instructions_in c.args.parts.now) (c.operate_on.ensures.block ∙ c.stores_at_once.ensures.block) ∙ c.steps.invariant.here

pub next-instruction-requires-in-Some-clause-sound : goal.next-instruction-requires-in-Some-clause-sound
next-instruction-requires-in-Some-clause-sound c =
    let code = c.args.parts.now in
    let m = machine_of c.steps.frames in
    let f = c.operate_on.new.frames in
    let same = c.stores_at_once.ensures.no c.if-stores_at_once.false in
    let ran = ran_operator code c.steps.frames c.stores_at_once.new.frames (machine_of f) (to_z w32 (of_z w32 c.in-Int.number)) c.in-Some.operation _ same c.following.ensures.pushes c.following.ensures.instruction (c.in-Some.ensures.1 code) c.operate_on.ensures.goes in
    ran_defined code 2 m (machine_of f) ran c.steps.invariant.defined

pub steps-smaller-in-Some : goal.steps-smaller-in-Some
steps-smaller-in-Some c =
    let code = c.args.parts.now in
    let m = machine_of c.steps.frames in
    let f = c.operate_on.new.frames in
    let same = c.stores_at_once.ensures.no c.if-stores_at_once.false in
    let ran = ran_operator code c.steps.frames c.stores_at_once.new.frames (machine_of f) (to_z w32 (of_z w32 c.in-Int.number)) c.in-Some.operation _ same c.following.ensures.pushes c.following.ensures.instruction (c.in-Some.ensures.1 code) c.operate_on.ensures.goes in
    ran_lighter code 1 m (machine_of f) (valid_forward code c.requires.valid) ran

pub steps-preserved-in-Some : goal.steps-preserved-in-Some
steps-preserved-in-Some c =
    let code = c.args.parts.now in
    let m = machine_of c.steps.frames in
    let f = c.operate_on.new.frames in
    let same = c.stores_at_once.ensures.no c.if-stores_at_once.false in
    let ran = ran_operator code c.steps.frames c.stores_at_once.new.frames (machine_of f) (to_z w32 (of_z w32 c.in-Int.number)) c.in-Some.operation _ same c.following.ensures.pushes c.following.ensures.instruction (c.in-Some.ensures.1 code) c.operate_on.ensures.goes in
    let here = ap (instructions_in code) (c.operate_on.ensures.block ∙ c.stores_at_once.ensures.block) ∙ c.steps.invariant.here in
    let next = c.next-instruction-in-Some.ensures in
    works_on code 2 _ _ _ _ f _ _ _ _ c.steps.invariant ran here next.instruction next.within next.fits c.steps.invariant.empty

pub next-instruction-requires-in-Load-clause-sound : goal.next-instruction-requires-in-Load-clause-sound
next-instruction-requires-in-Load-clause-sound c =
    let code = c.args.parts.now in
    let m = machine_of c.steps.frames in
    let n = machine_of c.load.new.frames in
    let l = subst (λ (x : Frames). loads (machine_of x) (slice_get x.top.slots.items c.in-Load.slot) ≡ Goes n) (c.load_at_once.ensures.nothing c.in-Nothing.is) c.in_ok-load.ensures in
    let e : step code m ≡ Goes n = ap (λ o. act code o m) (c.steps.invariant.fetched ∙ ap Some c.in-Load.is) ∙ l in
    defined_on code m n e c.steps.invariant.defined

pub steps-smaller-in-Load : goal.steps-smaller-in-Load
steps-smaller-in-Load c =
    let code = c.args.parts.now in
    let m = machine_of c.steps.frames in
    let n = machine_of c.load.new.frames in
    let l = subst (λ (x : Frames). loads (machine_of x) (slice_get x.top.slots.items c.in-Load.slot) ≡ Goes n) (c.load_at_once.ensures.nothing c.in-Nothing.is) c.in_ok-load.ensures in
    lighter code m n (instr.Load c.in-Load.slot) (valid_forward code c.requires.valid) (c.steps.invariant.fetched ∙ ap Some c.in-Load.is) l

pub steps-preserved-in-Load : goal.steps-preserved-in-Load
steps-preserved-in-Load c =
    let code = c.args.parts.now in
    let m = machine_of c.steps.frames in
    let n = machine_of c.load.new.frames in
    let next = c.next-instruction-in-Load.ensures in
    let l = subst (λ (x : Frames). loads (machine_of x) (slice_get x.top.slots.items c.in-Load.slot) ≡ Goes n) (c.load_at_once.ensures.nothing c.in-Nothing.is) c.in_ok-load.ensures in
    let ran : run code 1 m ≡ Goes n = ran_once code m ∙ ap (λ o. act code o m) (c.steps.invariant.fetched ∙ ap Some c.in-Load.is) ∙ l in
    let here = ap (instructions_in code) (stays code m n (instr.Load c.in-Load.slot) refl l) ∙ c.steps.invariant.here in
    works_on code 1 _ _ _ _ c.load.new.frames _ _ _ _ c.steps.invariant ran here next.instruction next.within next.fits (c.load_at_once.ensures.unasked (λ e. let z : at_once.Nothing ≡ at_once.Ask = sym c.in-Nothing.is ∙ e in cc) ∙ c.steps.invariant.empty)

pub returns-in-Fails-clause-lean : goal.returns-in-Fails-clause-lean
returns-in-Fails-clause-lean c =
    let w = c.steps.invariant in
    (w.came.0, machine_of c.steps.frames, c.steps.instruction.now, w.came.1, w.fetched, c.step.ensures.lean c.in-Fails.is)
