use Rattle.std.proofs.Common.{◌≡◌, Some, ap, ◌∙◌, sym, subst}
use Rattle.chord_code.specs.Machine.{act, loads, run}
use Rattle.chord_vm.specs.Frames.{machine_of, with_pushed, SteppedTo}
use Rattle.chord_vm.proofs.Advance.{not_bad, defined_on, value_pushed, first_of, ran_once}
use Rattle.chord_vm.proofs.fused.load_at_once.Goals as goal

pub asks_at_once-requires-clause-there : goal.asks_at_once-requires-clause-there
asks_at_once-requires-clause-there c = λ e.
    let m = machine_of c.args.frames.now in
    not_bad c.args.parts.now m c.requires.sound (ap (λ o. act c.args.parts.now o m) c.requires.load ∙ ap (loads m) e)

pub asks_at_once-requires-clause-sound : goal.asks_at_once-requires-clause-sound
asks_at_once-requires-clause-sound c =
    let code = c.args.parts.now in
    let m = machine_of c.args.frames.now in
    (code, λ v e b. not_bad code (with_pushed v m) (defined_on code m (with_pushed v m) (value_pushed code m c.args.slot v c.requires.load e) c.requires.sound) (ap (λ o. act code o (with_pushed v m)) c.requires.behind ∙ b))

pub returns-then-sends_loaded-clause-ask : goal.returns-then-sends_loaded-clause-ask
returns-then-sends_loaded-clause-ask c = λ is. (3, c.sends_loaded.ensures.yes c.if-sends_loaded.true)

pub returns-then-asks_at_once-clause-ask : goal.returns-then-asks_at_once-clause-ask
returns-then-asks_at_once-clause-ask c = λ is.
    let code = c.args.parts.now in
    let m = machine_of c.args.frames.now in
    let f = c.asks_at_once.new.frames in
    let v = c.asks_at_once.ensures.yes c.if-asks_at_once.true code in
    let loaded = with_pushed v.0 m in
    let d = act code (Some c.args.behind.now) loaded in
    let one : run code 1 loaded ≡ d = ran_once code loaded ∙ ap (λ o. act code o loaded) c.requires.behind in
    let both : run code 2 m ≡ d = first_of code 1 m loaded d (value_pushed code m c.args.slot v.0 c.requires.load v.1) one in
    (2, subst (λ x. SteppedTo x c.asks_at_once.new.asked f) (sym both) v.2)
