-- A body that does what its play does goes on so, and asks what the play asks.
use Rattle.std.proofs.Common.{◌≡◌, ◌-◌, Option, Some, None, refl, sym, ap, ◌∙◌, subst}
use Rattle.chord_base.specs.declared.value.Value.TheVariants as a_value
use Rattle.chord_base.specs.declared.event.End.{End}
use Rattle.chord_base.specs.declared.event.End.TheVariants.{Gives, Traps}
use Rattle.chord_base.specs.declared.event.Limits.{Limits}
use Rattle.chord_base.specs.declared.event.What.{What}
use Rattle.chord_base.specs.declared.event.What.TheVariants.{Made, Sent, Called, Printed, Ended}
use Rattle.chord_base.specs.Meaning.{Asked}
use Rattle.chord_base.specs.declared.static_type.StaticType.{StaticType}
use Rattle.chord_base.specs.Types.{Has, Signature, Signatures}
use Rattle.chord_code.specs.declared.parts.Parts.{Parts}
use Rattle.chord_code.specs.Machine.{Machine, Waiting, ComesTo, with_answer, IsForward}
use Rattle.chord_code.specs.Meaning.{Point, At, FailsBy, Lost, point_of, failed, reply, reply_to, point_replied, place, asked_at, asked_of}
use Rattle.chord_code.specs.Plays.{Play, MakesObject, SendsMessage, CallsMethod, PrintsLine, EndsBody, GoesWrong, Plays, PlaysAt, Good, left_of, EndFits, what_of, ask_of}
use Rattle.chord_code.proofs.Asks.{comes_found, run_asked}

-- a play of a machine that is there is one of its point
pub plays_point : (code : Parts) (sig : Signatures) (r : Option StaticType) (p : Play) (x : Option Machine) → Good sig r p → Plays code p x → PlaysAt code p (point_of x)
plays_point code sig r p (Some m) g h = h
plays_point code sig r (MakesObject c k) None g h = absurd h
plays_point code sig r (SendsMessage o j xs p) None g h = absurd h
plays_point code sig r (CallsMethod room o j xs k) None g h = absurd h
plays_point code sig r (PrintsLine t p) None g h = absurd h
plays_point code sig r (EndsBody e) None g h = absurd h
plays_point code sig r GoesWrong None g h = absurd g

-- a body whose machine comes to an ask stands, once this is answered, where the machine that waits does
replied_by : (code : Parts) → IsForward code → (m : Machine) (a : What) (w : Waiting) (e : End) → ComesTo code m a w → point_replied code (At m) e ≡ reply w e
replied_by code fwd m a w e c = ap (λ d. reply_to d e) (comes_found code fwd m a w c)

-- a good play, once it is answered by what fits, is good
pub good_left : (sig : Signatures) (r : Option StaticType) (p : Play) (e : End) → Good sig r p → EndFits sig p e → Good sig r (left_of p e)
good_left sig r (MakesObject c k) (Gives (a_value.Ref o)) g f = g o f
good_left sig r (MakesObject c k) (Gives a_value.Unit) g f = absurd f
good_left sig r (MakesObject c k) (Gives (a_value.Int n)) g f = absurd f
good_left sig r (MakesObject c k) (Gives (a_value.Flag b)) g f = absurd f
good_left sig r (MakesObject c k) (Gives (a_value.Text t)) g f = absurd f
good_left sig r (MakesObject c k) (Traps t) g f = absurd f
good_left sig r (SendsMessage o j xs p) (Gives a_value.Unit) g f = g.1
good_left sig r (SendsMessage o j xs p) (Gives (a_value.Ref x)) g f = absurd f
good_left sig r (SendsMessage o j xs p) (Gives (a_value.Int n)) g f = absurd f
good_left sig r (SendsMessage o j xs p) (Gives (a_value.Flag b)) g f = absurd f
good_left sig r (SendsMessage o j xs p) (Gives (a_value.Text t)) g f = absurd f
good_left sig r (SendsMessage o j xs p) (Traps t) g f = absurd f
good_left sig r (PrintsLine x p) (Gives a_value.Unit) g f = g
good_left sig r (PrintsLine x p) (Gives (a_value.Ref y)) g f = absurd f
good_left sig r (PrintsLine x p) (Gives (a_value.Int n)) g f = absurd f
good_left sig r (PrintsLine x p) (Gives (a_value.Flag b)) g f = absurd f
good_left sig r (PrintsLine x p) (Gives (a_value.Text t)) g f = absurd f
good_left sig r (PrintsLine x p) (Traps t) g f = absurd f
good_left sig r (CallsMethod room o j xs k) (Gives v) g f =
    let z : Some f.0 ≡ Some g.0 = sym f.1 ∙ g.1 in
    let e : f.0 ≡ g.0 = cc in
    g.4 v (subst (λ (m : Signature). Has sig m.result v) e f.2)
good_left sig r (CallsMethod room o j xs k) (Traps t) g f = tt
good_left sig r (EndsBody e) x g f = absurd f
good_left sig r GoesWrong x g f = absurd g

-- and the code goes on as the play does
pub plays_left : (code : Parts) → IsForward code → (sig : Signatures) (r : Option StaticType) (p : Play) (x : Point) (e : End) → Good sig r p → EndFits sig p e → PlaysAt code p x → PlaysAt code (left_of p e) (point_replied code x e)
plays_left code fwd sig r p Lost e g f h = absurd h
plays_left code fwd sig r (MakesObject c k) (FailsBy t) e g f h = (let z : MakesObject c k ≡ EndsBody (Traps t) = h in cc)
plays_left code fwd sig r (SendsMessage o j xs p) (FailsBy t) e g f h = (let z : SendsMessage o j xs p ≡ EndsBody (Traps t) = h in cc)
plays_left code fwd sig r (CallsMethod room o j xs k) (FailsBy t) e g f h = (let z : CallsMethod room o j xs k ≡ EndsBody (Traps t) = h in cc)
plays_left code fwd sig r (PrintsLine y p) (FailsBy t) e g f h = (let z : PrintsLine y p ≡ EndsBody (Traps t) = h in cc)
plays_left code fwd sig r (EndsBody y) x e g f h = absurd f
plays_left code fwd sig r GoesWrong x e g f h = absurd g
plays_left code fwd sig r (MakesObject c k) (At m) (Gives (a_value.Ref o)) g f h =
    subst (PlaysAt code (k o)) (sym (replied_by code fwd m (Made c) h.0 (Gives (a_value.Ref o)) h.1)) (plays_point code sig r (k o) (with_answer h.0.machine h.0.awaited (a_value.Ref o)) (g o f) (h.2 o))
plays_left code fwd sig r (MakesObject c k) (At m) (Gives a_value.Unit) g f h = absurd f
plays_left code fwd sig r (MakesObject c k) (At m) (Gives (a_value.Int n)) g f h = absurd f
plays_left code fwd sig r (MakesObject c k) (At m) (Gives (a_value.Flag b)) g f h = absurd f
plays_left code fwd sig r (MakesObject c k) (At m) (Gives (a_value.Text t)) g f h = absurd f
plays_left code fwd sig r (MakesObject c k) (At m) (Traps t) g f h = absurd f
plays_left code fwd sig r (SendsMessage o j xs p) (At m) (Gives a_value.Unit) g f h =
    subst (PlaysAt code p) (sym (replied_by code fwd m (Sent o j xs) h.0 (Gives a_value.Unit) h.1)) (plays_point code sig r p (with_answer h.0.machine h.0.awaited a_value.Unit) g.1 h.2)
plays_left code fwd sig r (SendsMessage o j xs p) (At m) (Gives (a_value.Ref y)) g f h = absurd f
plays_left code fwd sig r (SendsMessage o j xs p) (At m) (Gives (a_value.Int n)) g f h = absurd f
plays_left code fwd sig r (SendsMessage o j xs p) (At m) (Gives (a_value.Flag b)) g f h = absurd f
plays_left code fwd sig r (SendsMessage o j xs p) (At m) (Gives (a_value.Text t)) g f h = absurd f
plays_left code fwd sig r (SendsMessage o j xs p) (At m) (Traps t) g f h = absurd f
plays_left code fwd sig r (PrintsLine y p) (At m) (Gives a_value.Unit) g f h =
    subst (PlaysAt code p) (sym (replied_by code fwd m (Printed y) h.0 (Gives a_value.Unit) h.1)) (plays_point code sig r p (with_answer h.0.machine h.0.awaited a_value.Unit) g h.2)
plays_left code fwd sig r (PrintsLine y p) (At m) (Gives (a_value.Ref z)) g f h = absurd f
plays_left code fwd sig r (PrintsLine y p) (At m) (Gives (a_value.Int n)) g f h = absurd f
plays_left code fwd sig r (PrintsLine y p) (At m) (Gives (a_value.Flag b)) g f h = absurd f
plays_left code fwd sig r (PrintsLine y p) (At m) (Gives (a_value.Text t)) g f h = absurd f
plays_left code fwd sig r (PrintsLine y p) (At m) (Traps t) g f h = absurd f
plays_left code fwd sig r (CallsMethod room o j xs k) (At m) (Gives v) g f h =
    let good : Good sig r (k v) = good_left sig r (CallsMethod room o j xs k) (Gives v) g f in
    subst (PlaysAt code (k v)) (sym (replied_by code fwd m (Called o j xs) h.0 (Gives v) h.1)) (plays_point code sig r (k v) (with_answer h.0.machine h.0.awaited v) good (h.3 v))
plays_left code fwd sig r (CallsMethod room o j xs k) (At m) (Traps t) g f h =
    let awaited = run_asked code fwd (Called o j xs) h.0 h.1.count m h.1.by in
    subst (PlaysAt code (EndsBody (Traps t))) (sym (replied_by code fwd m (Called o j xs) h.0 (Traps t) h.1 ∙ ap (λ z. failed z t) awaited)) refl

-- a body whose machine comes to an ask asks it, at the depth of its place
asked_by : (code : Parts) → IsForward code → (limits : Limits) (m : Machine) (a : What) (w : Waiting) → ComesTo code m a w → asked_of code limits (At m) ≡ Some (record { what = a; depth = place a (limits.depth - w.machine.top.room) })
asked_by code fwd limits m a w c = ap (asked_at limits) (comes_found code fwd m a w c)

-- the next ask is the play's: so a good body's trace is defined
pub plays_asks : (code : Parts) → IsForward code → (limits : Limits) (sig : Signatures) (r : Option StaticType) (p : Play) (x : Point) → Good sig r p → PlaysAt code p x → (a : Asked) × (asked_of code limits x ≡ Some a) × (what_of p ≡ Some a.what)
plays_asks code fwd limits sig r p Lost g h = absurd h
plays_asks code fwd limits sig r p (FailsBy t) g h = (record { what = Ended (Traps t); depth = 0 }, refl, ap what_of h)
plays_asks code fwd limits sig r GoesWrong (At m) g h = absurd g
plays_asks code fwd limits sig r (MakesObject c k) (At m) g h = (record { what = Made c; depth = 0 }, asked_by code fwd limits m (Made c) h.0 h.1, refl)
plays_asks code fwd limits sig r (SendsMessage o j xs p) (At m) g h = (record { what = Sent o j xs; depth = 0 }, asked_by code fwd limits m (Sent o j xs) h.0 h.1, refl)
plays_asks code fwd limits sig r (CallsMethod room o j xs k) (At m) g h = (record { what = Called o j xs; depth = limits.depth - h.0.machine.top.room }, asked_by code fwd limits m (Called o j xs) h.0 h.1, refl)
plays_asks code fwd limits sig r (PrintsLine y p) (At m) g h = (record { what = Printed y; depth = 0 }, asked_by code fwd limits m (Printed y) h.0 h.1, refl)
plays_asks code fwd limits sig r (EndsBody e) (At m) g h = (record { what = Ended e; depth = 0 }, asked_by code fwd limits m (Ended e) h.0 h.1, refl)

-- the next ask is just the play's
pub asks_exactly : (code : Parts) → IsForward code → (limits : Limits) (sig : Signatures) (r : Option StaticType) (p : Play) (x : Point) → Good sig r p → PlaysAt code p x → asked_of code limits x ≡ ask_of limits p
asks_exactly code fwd limits sig r p Lost g h = absurd h
asks_exactly code fwd limits sig r p (FailsBy t) g h = ap (ask_of limits) (sym h)
asks_exactly code fwd limits sig r GoesWrong (At m) g h = absurd g
asks_exactly code fwd limits sig r (MakesObject c k) (At m) g h = asked_by code fwd limits m (Made c) h.0 h.1
asks_exactly code fwd limits sig r (SendsMessage o j xs p) (At m) g h = asked_by code fwd limits m (Sent o j xs) h.0 h.1
asks_exactly code fwd limits sig r (CallsMethod room o j xs k) (At m) g h = asked_by code fwd limits m (Called o j xs) h.0 h.1 ∙ ap (λ z. Some (record { what = Called o j xs; depth = limits.depth - z })) h.2
asks_exactly code fwd limits sig r (PrintsLine y p) (At m) g h = asked_by code fwd limits m (Printed y) h.0 h.1
asks_exactly code fwd limits sig r (EndsBody e) (At m) g h = asked_by code fwd limits m (Ended e) h.0 h.1
