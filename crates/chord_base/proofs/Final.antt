-- When nothing may follow.
use Rattle.std.proofs.Common.{◌≡◌, ℕ, ◌<◌, List, [], ◌∷◌, length, refl, Option, Some, None, sym, ap, ◌∙◌, arith}
use Rattle.chord_base.specs.declared.value.Object.{Object}
use Rattle.chord_base.specs.declared.value.Value as value
use Rattle.chord_base.specs.declared.event.What.{What}
use Rattle.chord_base.specs.declared.event.What.TheVariants.{Begun, Made, Sent, Called, Printed, Fired, Ended}
use Rattle.chord_base.specs.declared.event.Entry.{Entry}
use Rattle.chord_base.specs.Meaning.{Program, Asked}
use Rattle.chord_base.specs.Bodies.{doing, asked, Asks}
use Rattle.chord_base.specs.Machine.{Comes, Fires, IsPast, IsFinal}
use Rattle.chord_base.specs.Story.{IsOwn}
use Rattle.chord_base.specs.Laws.{CompleteWhenQuiet, QuietWhenComplete}

-- a body that asks nothing has no next ask
no_ask : (p : Program) (h : List Entry) (b : ℕ) (w : What) → asked p (doing p h b) ≡ None → Asks p h b w → ⊥
no_ask p h b w n a = let c : ◌≡◌ {A = Option Asked} None (Some (record { what = w; depth = a.0 })) = sym n ∙ a.1 in cc

-- nothing may come next after a history that is not empty, in which no body asks and no chord is enabled
nothing_comes : (p : Program) (h : List Entry) (n b : ℕ) (w : What) → 0 < length h → ((i : ℕ) → asked p (doing p h i) ≡ None) → ((k : ℕ) (o : Object) (ms : List ℕ) (vs : List value.Value) → Fires p h k o ms vs → ⊥) → Comes p h n b w → ⊥
nothing_comes p h n b Begun s q f c = let e : length h ≡ 0 = ap length c.0 in absurd (omega (arith, e, s))
nothing_comes p h n b (Fired k o ms vs) s q f c = f k o ms vs c.1
nothing_comes p h n b (Made k) s q f c = no_ask p h b (Made k) (q b) c
nothing_comes p h n b (Sent o j vs) s q f c = no_ask p h b (Sent o j vs) (q b) c
nothing_comes p h n b (Called o j vs) s q f c = no_ask p h b (Called o j vs) (q b) c
nothing_comes p h n b (Printed t) s q f c = no_ask p h b (Printed t) (q b) c
nothing_comes p h n b (Ended x) s q f c = no_ask p h b (Ended x) (q b) c

-- a next ask of a body may come next
pub own_comes : (p : Program) (h : List Entry) (n b : ℕ) (w : What) → IsOwn w → Asks p h b w → Comes p h n b w
own_comes p h n b Begun o a = absurd o
own_comes p h n b (Fired k o' ms vs) o a = absurd o
own_comes p h n b (Made c) o a = a
own_comes p h n b (Sent o' j vs) o a = a
own_comes p h n b (Called o' j vs) o a = a
own_comes p h n b (Printed t) o a = a
own_comes p h n b (Ended x) o a = a

-- a past in which no body has a next ask and no chord is enabled
pub final_when : (p : Program) (h : List Entry) → IsPast p h → 0 < length h → ((b : ℕ) → asked p (doing p h b) ≡ None) → ((k : ℕ) (o : Object) (ms : List ℕ) (vs : List value.Value) → Fires p h k o ms vs → ⊥) → IsFinal p h
final_when p h r s q f =
    record { past = r; nothing = λ e m. nothing_comes p h e.number e.body e.what s q f m.comes }

-- a history that is not empty has an entry
pub some_length : (h : List Entry) → (h ≡ [] → ⊥) → 0 < length h
some_length [] n = absurd (n refl)
some_length (e ∷ h) n = omega arith

-- nothing may follow a run in which no body asks and no chord is enabled
pub complete_when_quiet : CompleteWhenQuiet
complete_when_quiet p h r n q f = final_when p h r (some_length h n) q f

-- where nothing may follow, no body asks and no chord is enabled
pub quiet_when_complete : QuietWhenComplete
quiet_when_complete p h f = (
  λ e. f.nothing (record { number = 0; body = 0; what = Begun }) (record { numbered = sym (ap length e); comes = (e, refl) }),
  λ b w o a. f.nothing (record { number = length h; body = b; what = w }) (record { numbered = refl; comes = own_comes p h (length h) b w o a }),
  λ k o ms vs t. f.nothing (record { number = length h; body = length h; what = Fired k o ms vs }) (record { numbered = refl; comes = (refl, t) }),
)
