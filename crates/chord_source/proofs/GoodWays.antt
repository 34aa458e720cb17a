-- Ways to go on that are good where what follows them is.
use Rattle.std.proofs.Common.{◌≡◌, ℕ, zero, suc, ◌<◌, ◌≤◌, List, true, false, Option, Some, None, refl, sym, ◌∙◌, subst, arith}
use Rattle.chord_base.specs.declared.value.Value.{Value}
use Rattle.chord_base.specs.declared.value.Value.TheVariants.{Unit as NoValue, Int, Flag, Text, Ref}
use Rattle.chord_base.specs.declared.static_type.StaticType.{StaticType}
use Rattle.chord_base.specs.declared.static_type.StaticType.TheVariants as ty
use Rattle.chord_base.specs.Operators.{Computed, Is, Trapped, Mistyped}
use Rattle.std.proofs.lemmas.Option.{none-some}
use Rattle.chord_bodies.specs.Types.{Signature, Signatures, Has, HaveAll, Scope, ValueDue}
use Rattle.chord_bodies.specs.Planned.{Inherits}
use Rattle.chord_code.specs.Plays.{Play, CallsMethod, Good}
use Rattle.chord_source.specs.Continuing.{Continuation, Maker, Leaving, on_computed, on_found, branch, send_to, with_room, call_on, take_turn, return_nothing, return_value}
use Rattle.chord_source.proofs.SlotTypes.{SlotsAre}
use Rattle.chord_source.proofs.OperatorTypes.{GivesType}

module _ (sig : Signatures) (r : Option StaticType) where
  -- what an operator of a type gives goes on good, where each value of the type does
  pub computed_good : (c : StaticType) (z : Computed) (k : Value → Play) → GivesType sig c z → ((v : Value) → Has sig (Some c) v → Good sig r (k v)) → Good sig r (on_computed z k)
  computed_good c (Is v) k i h = h v i
  computed_good c (Trapped t) k i h = tt
  computed_good c Mistyped k i h = absurd i

  -- a truth value goes on good, where each way that it may go is good
  pub branch_good : (v : Value) (p q : Play) → Has sig (Some ty.Bool) v → Good sig r p → (v ≡ Flag false → Good sig r q) → Good sig r (branch v p q)
  branch_good (Flag true) p q i hp hq = hp
  branch_good (Flag false) p q i hp hq = hq refl
  branch_good NoValue p q i hp hq = absurd i
  branch_good (Int n) p q i hp hq = absurd i
  branch_good (Text s) p q i hp hq = absurd i
  branch_good (Ref o) p q i hp hq = absurd i

  -- what is good is good where there is room, and a trap where there is none
  pub room_good : (room : ℕ) (p : Play) → Good sig r p → Good sig r (with_room room p)
  room_good zero p h = tt
  room_good (suc room) p h = h

  -- what is there goes on good, where it is good from there
  pub found_good : {A : Type 0} (o : Option A) (x : A) (k : A → Play) → o ≡ Some x → Good sig r (k x) → Good sig r (on_found o k)
  found_good o x k e h = subst (λ z. Good sig r (on_found z k)) (sym e) h

  -- a turn goes on good, where what follows is good with fewer turns
  pub turn_good : (n : ℕ) (k : ℕ → Play) → ((m : ℕ) → m < n → Good sig r (k m)) → Good sig r (take_turn n k)
  turn_good zero k h = tt
  turn_good (suc n) k h = h n (omega arith)

  -- what `new` does on arguments of its class is good, where what follows is good for each object of the class
  abbrev pub MakerIsGood : Maker → Type 0
  MakerIsGood maker =
      (c : ℕ) (ps : List StaticType) (xs : List Value) (k : Value → ℕ → Play) (n : ℕ) → sig.builders c ≡ Some ps → HaveAll sig ps xs
      → ((v : Value) (m : ℕ) → Has sig (Some (ty.Class c)) v → m ≤ n → Good sig r (k v m)) → Good sig r (maker c xs k n)

  -- what follows is good from any slots that hold what is in scope, with no more turns than these
  abbrev pub GoodAfter : Scope → ℕ → Continuation → Type 0
  GoodAfter g n next = (vs : List Value) (m : ℕ) → SlotsAre sig g vs → m ≤ n → Good sig r (next vs m)

  -- where `return` leads is good: to an end of this type, or in a constructor to what is good with no more turns
  abbrev pub LeavingIsGood : ValueDue → Leaving → ℕ → Type 0
  LeavingIsGood due None n = due ≡ r
  LeavingIsGood due (Some f) n = (due ≡ None) × ((m : ℕ) → m ≤ n → Good sig r (f m))

  -- where `return` leads is good with fewer turns, too
  pub leaving_with_less : (due : ValueDue) (out : Leaving) (n m : ℕ) → m ≤ n → LeavingIsGood due out n → LeavingIsGood due out m
  leaving_with_less due None n m l h = h
  leaving_with_less due (Some f) n m l h = (h.0, λ m2 l2. h.1 m2 (omega arith))

  -- `return` without a value is good, where none is due
  pub nothing_good : (due : ValueDue) (out : Leaving) (n : ℕ) → due ≡ None → LeavingIsGood due out n → Good sig r (return_nothing out n)
  nothing_good due None n e h = subst (λ z. Has sig z NoValue) (sym e ∙ h) tt
  nothing_good due (Some f) n e h = h.1 n (omega arith)

  -- `return` with a value of the type that is due is good
  pub value_good : (due : ValueDue) (out : Leaving) (n : ℕ) (t : StaticType) (v : Value) → due ≡ Some t → Has sig (Some t) v → LeavingIsGood due out n → Good sig r (return_value out v)
  value_good due None n t v e i h = subst (λ z. Has sig z v) (sym e ∙ h) i
  value_good due (Some f) n t v e i h = absurd (none-some _ (sym h.0 ∙ e))

  module _ (law : Inherits sig) where
    -- a call of a synchronous method of the receiver's class with its arguments is good, where what follows is good for each of its results
    pub call_good : (room : ℕ) (v : Value) (c j : ℕ) (m : Signature) (xs : List Value) (k : Value → Play) → Has sig (Some (ty.Class c)) v → sig.methods c j ≡ Some m → m.is_sync ≡ true → HaveAll sig m.parameters xs
        → ((v : Value) → Has sig m.result v → Good sig r (k v)) → Good sig r (call_on room v j xs k)
    call_good room (Ref o) c j m xs k i e s a h = room_good room (CallsMethod room o j xs k) (m, law.inherits o.class c j m i e, s, a, h)
    call_good room NoValue c j m xs k i e s a h = absurd i
    call_good room (Int n) c j m xs k i e s a h = absurd i
    call_good room (Flag b) c j m xs k i e s a h = absurd i
    call_good room (Text t) c j m xs k i e s a h = absurd i

    -- a message to an asynchronous method of the receiver's class with its arguments is good, where what follows is good
    pub send_good : (v : Value) (c j : ℕ) (m : Signature) (xs : List Value) (p : Play) → Has sig (Some (ty.Class c)) v → sig.methods c j ≡ Some m → m.is_sync ≡ false → HaveAll sig m.parameters xs → Good sig r p → Good sig r (send_to v j xs p)
    send_good (Ref o) c j m xs p i e s a h = ((m, law.inherits o.class c j m i e, s, a), h)
    send_good NoValue c j m xs p i e s a h = absurd i
    send_good (Int n) c j m xs p i e s a h = absurd i
    send_good (Flag b) c j m xs p i e s a h = absurd i
    send_good (Text t) c j m xs p i e s a h = absurd i
