-- What a body does, whatever it is answered, as a tree; its kinds; and when a code does the same.
use Rattle.std.specs.Prelude.{◌≡◌, ℕ, ◌-◌, List, [], ◌∷◌, true, false, Option, Some, None}
use Rattle.chord_base.specs.declared.value.Object.{Object}
use Rattle.chord_base.specs.declared.value.Value.{Value}
use Rattle.chord_base.specs.declared.value.Value.TheVariants as a_value
use Rattle.chord_base.specs.declared.event.End.{End}
use Rattle.chord_base.specs.declared.event.End.TheVariants.{Gives, Traps}
use Rattle.chord_base.specs.declared.event.What.{What}
use Rattle.chord_base.specs.declared.event.What.TheVariants.{Made, Sent, Called, Printed, Ended}
use Rattle.chord_base.specs.Meaning.{Asked}
use Rattle.chord_base.specs.declared.event.Limits.{Limits}
use Rattle.chord_code.specs.declared.parts.Parts.{Parts}
use Rattle.chord_base.specs.declared.static_type.StaticType.{StaticType}
use Rattle.chord_base.specs.Types.{Signature, Signatures, Has, HaveAll}
use Rattle.chord_code.specs.Machine.{Machine, Waiting, ComesTo, with_answer}
use Rattle.chord_code.specs.Meaning.{Point, At, FailsBy, Lost}

-- what a body does, whatever it is answered; where it goes wrong nothing is said of it
pub data Play : Type 0 where
  MakesObject : (class : ℕ) → (Object → Play) → Play
  SendsMessage : (object : Object) (method : ℕ) (values : List Value) → Play → Play
  CallsMethod : (room : ℕ) (object : Object) (method : ℕ) (values : List Value) → (Value → Play) → Play
  PrintsLine : (text : List ℕ) → Play → Play
  EndsBody : (end : End) → Play
  GoesWrong : Play

-- a fact of a machine that is there
abbrev pub There : Option Machine → (Machine → Type 0) → Type 0
There None P = ⊥
There (Some m) P = P m

-- the machine comes to the play's ask, and for each answer goes on as the play does
abbrev pub Plays : Parts → Play → Option Machine → Type 0
Plays code (MakesObject c k) from = There from (λ m. (w : Waiting) × ComesTo code m (Made c) w × ((o : Object) → Plays code (k o) (with_answer w.machine w.awaited (a_value.Ref o))))
Plays code (SendsMessage o j xs p) from = There from (λ m. (w : Waiting) × ComesTo code m (Sent o j xs) w × Plays code p (with_answer w.machine w.awaited a_value.Unit))
Plays code (CallsMethod r o j xs k) from = There from (λ m. (w : Waiting) × ComesTo code m (Called o j xs) w × (w.machine.top.room ≡ r) × ((v : Value) → Plays code (k v) (with_answer w.machine w.awaited v)))
Plays code (PrintsLine t p) from = There from (λ m. (w : Waiting) × ComesTo code m (Printed t) w × Plays code p (with_answer w.machine w.awaited a_value.Unit))
Plays code (EndsBody e) from = There from (λ m. (w : Waiting) × ComesTo code m (Ended e) w)
Plays code GoesWrong from = Unit {0}

-- the same of the point where a body stands
abbrev pub PlaysAt : Parts → Play → Point → Type 0
PlaysAt code p (At m) = Plays code p (Some m)
PlaysAt code p (FailsBy t) = p ≡ EndsBody (Traps t)
PlaysAt code p Lost = ⊥

-- a play keeps to its types: its messages have their arguments, and its end is of this type
abbrev pub Good : Signatures → Option StaticType → Play → Type 0
Good sig r (MakesObject c k) = (o : Object) → o.class ≡ c → Good sig r (k o)
Good sig r (SendsMessage o j xs p) = ((m : Signature) × (sig.methods o.class j ≡ Some m) × (m.is_sync ≡ false) × HaveAll sig m.parameters xs) × Good sig r p
Good sig r (CallsMethod room o j xs k) = (m : Signature) × (sig.methods o.class j ≡ Some m) × (m.is_sync ≡ true) × HaveAll sig m.parameters xs × ((v : Value) → Has sig m.result v → Good sig r (k v))
Good sig r (PrintsLine t p) = Good sig r p
Good sig r (EndsBody (Gives v)) = Has sig r v
Good sig r (EndsBody (Traps t)) = Unit {0}
Good sig r GoesWrong = ⊥

-- what is left of a play once its ask is answered, as a journal answers
abbrev pub left_of : Play → End → Play
left_of (MakesObject c k) (Gives (a_value.Ref o)) = k o
left_of (SendsMessage o j xs p) (Gives a_value.Unit) = p
left_of (CallsMethod r o j xs k) (Gives v) = k v
left_of (CallsMethod r o j xs k) (Traps t) = EndsBody (Traps t)
left_of (PrintsLine t p) (Gives a_value.Unit) = p
left_of _ _ = GoesWrong

-- the answer is of the kind that the ask wants
abbrev pub EndFits : Signatures → Play → End → Type 0
EndFits sig (MakesObject c k) (Gives (a_value.Ref o)) = o.class ≡ c
EndFits sig (SendsMessage o j xs p) (Gives a_value.Unit) = Unit {0}
EndFits sig (CallsMethod r o j xs k) (Gives v) = (m : Signature) × (sig.methods o.class j ≡ Some m) × Has sig m.result v
EndFits sig (CallsMethod r o j xs k) (Traps t) = Unit {0}
EndFits sig (PrintsLine t p) (Gives a_value.Unit) = Unit {0}
EndFits sig _ _ = ⊥

-- the play's ask as the journal has it
abbrev pub what_of : Play → Option What
what_of (MakesObject c k) = Some (Made c)
what_of (SendsMessage o j xs p) = Some (Sent o j xs)
what_of (CallsMethod r o j xs k) = Some (Called o j xs)
what_of (PrintsLine t p) = Some (Printed t)
what_of (EndsBody e) = Some (Ended e)
what_of GoesWrong = None

-- what is left of a play after these answers
abbrev pub left_after : Play → List End → Play
left_after p [] = p
left_after p (r ∷ rs) = left_after (left_of p r) rs

-- an ask at a depth
abbrev pub asked_at_depth : ℕ → What → Option Asked
asked_at_depth d w = Some (record { what = w; depth = d })

-- the play's ask, as a program's meaning tells it
abbrev pub ask_of : Limits → Play → Option Asked
ask_of limits (MakesObject c k) = asked_at_depth 0 (Made c)
ask_of limits (SendsMessage o j xs p) = asked_at_depth 0 (Sent o j xs)
ask_of limits (CallsMethod r o j xs k) = asked_at_depth (limits.depth - r) (Called o j xs)
ask_of limits (PrintsLine t p) = asked_at_depth 0 (Printed t)
ask_of limits (EndsBody e) = asked_at_depth 0 (Ended e)
ask_of limits GoesWrong = None
