-- The `Main` that prints 7 comes to its line, and behind it to its end.
use Rattle.std.proofs.Common.{◌≡◌, ℕ, zero, suc, Some, refl, sym, ap, subst, pos}
use Rattle.std.specs.Fmt.{signed_decimal}
use Rattle.chord_base.specs.declared.event.End.TheVariants.{Gives}
use Rattle.chord_base.specs.declared.event.What.{What}
use Rattle.chord_base.specs.declared.event.What.TheVariants.{Begun, Made, Sent, Called, Printed, Ended}
use Rattle.chord_base.specs.declared.value.Value.TheVariants as a_value
use Rattle.chord_code.specs.declared.awaited.Awaited.{Awaited}
use Rattle.chord_code.specs.declared.awaited.Awaited.TheVariants.{ForNothing}
use Rattle.chord_code.specs.declared.parts.Parts.{Parts}
use Rattle.chord_code.specs.Machine.{Machine, Waiting, Did, Goes, Asking, Bad, ComesTo, ComesToAsk, run, with_answer}
use Rattle.chord_vm.specs.declared.ask.Ask.{Ask}
use Rattle.chord_vm.specs.declared.ask.Ask.TheVariants as ask
use Rattle.chord_vm.specs.declared.frames.Frames.{Frames}
use Rattle.chord_vm.specs.Frames.{waiting_of, Advanced}
use Rattle.chord_tests.specs.Seven.{seven_code, seven_at}

-- the line
abbrev seven_line : What
seven_line = Printed (signed_decimal (pos 7))

-- the machine that waits behind its line
abbrev seven_waits : Waiting
seven_waits = record { machine = seven_at 2; awaited = ForNothing }

-- the machine at its beginning comes to its line
pub comes_to_line : (code : Parts) (m : Machine) → code ≡ seven_code → m ≡ seven_at 0 → ComesToAsk code m
comes_to_line code m a b = subst (λ (z : Parts × Machine). ComesToAsk z.0 z.1) (λ i. (sym a i, sym b i)) (record { ask = seven_line; waiting = seven_waits; comes = record { count = 2; by = refl } })

-- behind the line it comes to its end
pub comes_to_end : (code : Parts) (m : Machine) → code ≡ seven_code → m ≡ seven_at 2 → ComesToAsk code m
comes_to_end code m a b = subst (λ (z : Parts × Machine). ComesToAsk z.0 z.1) (λ i. (sym a i, sym b i)) (record { ask = Ended (Gives a_value.Unit); waiting = record { machine = seven_at 2; awaited = ForNothing }; comes = record { count = 1; by = refl } })

-- the ask that was come to
abbrev asked_what : Did → What
asked_what (Asking a w) = a
asked_what (Goes m) = Begun
asked_what Bad = Begun

-- the machine that waits behind it
abbrev waits_at : Did → Waiting
waits_at (Asking a w) = w
waits_at (Goes m) = seven_waits
waits_at Bad = seven_waits

-- whatever the machine comes to is the line
one_line : (n : ℕ) (a : What) (w : Waiting) → run seven_code n (seven_at 0) ≡ Asking a w → (seven_line ≡ a) × (seven_waits ≡ w)
one_line zero a w e = absurd (cc)
one_line (suc zero) a w e = absurd (cc)
one_line (suc (suc n)) a w e = (ap asked_what e, ap waits_at e)

-- so the frames that came to an ask wait behind the line
waits_by : (code : Parts) (m : Machine) (f : Frames) (a : What) → code ≡ seven_code → m ≡ seven_at 0 → ComesTo code m a (waiting_of f) → waiting_of f ≡ seven_waits
waits_by code m f a c e t = sym (one_line t.count a (waiting_of f) (subst (λ (z : Parts × Machine). run z.0 t.count z.1 ≡ Asking a (waiting_of f)) (λ i. (c i, e i)) t.by)).1

-- whichever ask a call gave
pub waits_behind_line : (code : Parts) (m : Machine) (a : Ask) (f : Frames) → code ≡ seven_code → m ≡ seven_at 0 → Advanced code m a f → waiting_of f ≡ seven_waits
waits_behind_line code m (ask.Make c) f a b t = waits_by code m f (Made c) a b t
waits_behind_line code m (ask.Send o j vs) f a b t = waits_by code m f (Sent o j vs) a b t
waits_behind_line code m (ask.Call o j vs) f a b t = waits_by code m f (Called o j vs) a b t
waits_behind_line code m (ask.Print s) f a b t = waits_by code m f (Printed s) a b t
waits_behind_line code m (ask.End x) f a b t =
    let z : seven_line ≡ Ended x = (one_line t.1.count (Ended x) t.0 (subst (λ (z : Parts × Machine). run z.0 t.1.count z.1 ≡ Asking (Ended x) t.0) (λ i. (a i, b i)) t.1.by)).0 in absurd (cc)

-- an answer for which nothing waits leaves the machine where it stands
pub goes_on_behind : (m : Machine) (a : Awaited) → a ≡ ForNothing → with_answer m a a_value.Unit ≡ Some m
goes_on_behind m a e = ap (λ z. with_answer m z a_value.Unit) e
