-- A call that is answered by a trap: the body next asks its own end by that trap.
use Rattle.std.proofs.Common.{◌≡◌, ℕ, suc, List, [], ◌∷◌, ◌++◌, Option, Some, None, refl, ap, ◌∙◌}
use Rattle.chord_base.specs.declared.value.Object.{Object}
use Rattle.chord_base.specs.declared.value.Value.{Value}
use Rattle.chord_base.specs.declared.event.Trap.{Trap}
use Rattle.chord_base.specs.declared.event.End.{End}
use Rattle.chord_base.specs.declared.event.End.TheVariants.{Traps}
use Rattle.chord_base.specs.declared.event.What.TheVariants.{Called, Ended}
use Rattle.chord_base.specs.declared.event.Limits.{Limits}
use Rattle.chord_base.specs.Meaning.{Start, Asked}
use Rattle.chord_code.specs.declared.parts.Parts.{Parts}
use Rattle.chord_code.specs.Machine.{Machine, Did, Goes, Asking, Bad, IsForward}
use Rattle.chord_code.specs.Fuel.{weight, comes_to}
use Rattle.chord_code.specs.Meaning.{Point, At, FailsBy, Lost, failed, reply_to, point_replied, asked_at, asked_of, stands, point_of, begins, code_program}
use Rattle.chord_code.proofs.Asks.{points_more, run_asked}

-- nothing is not an ask
no_ask : (a : Asked) → ◌≡◌ {A = Option Asked} None (Some a) → ⊥
no_ask a e = cc

-- equal asks ask the same
same_what : (a b : Asked) → Some a ≡ Some b → a.what ≡ b.what
same_what a b e = (let z : a ≡ b = cc in ap (λ (x : Asked). x.what) z)

-- a machine that comes to a call asks its own end by the trap that answers it
did_fail : (code : Parts) → IsForward code → (limits : Limits) (m : Machine) (t : Trap) (l : ℕ) (o : Object) (j : ℕ) (vs : List Value) (d : Did) → comes_to code m ≡ d → asked_at limits d ≡ Some (record { what = Called o j vs; depth = l }) → asked_of code limits (reply_to d (Traps t)) ≡ Some (record { what = Ended (Traps t); depth = 0 })
did_fail code fwd limits m t l o j vs (Goes m') is e = absurd (no_ask (record { what = Called o j vs; depth = l }) e)
did_fail code fwd limits m t l o j vs Bad is e = absurd (no_ask (record { what = Called o j vs; depth = l }) e)
did_fail code fwd limits m t l o j vs (Asking a w) is e =
    let same : a ≡ Called o j vs = same_what _ _ e in
    let waits = run_asked code fwd (Called o j vs) w (suc (weight code m)) m (is ∙ ap (λ x. Asking x w) same) in
    ap (λ p. asked_of code limits (failed p t)) waits

-- a body that stands where it asks a call asks its own end by the trap that answers it
point_fails : (code : Parts) → IsForward code → (limits : Limits) (p : Point) (t : Trap) (l : ℕ) (o : Object) (j : ℕ) (vs : List Value) → asked_of code limits p ≡ Some (record { what = Called o j vs; depth = l }) → asked_of code limits (point_replied code p (Traps t)) ≡ Some (record { what = Ended (Traps t); depth = 0 })
point_fails code fwd limits (At m) t l o j vs e = did_fail code fwd limits m t l o j vs (comes_to code m) refl e
point_fails code fwd limits (FailsBy u) t l o j vs e = (let z : Ended (Traps u) ≡ Called o j vs = same_what _ _ e in cc)
point_fails code fwd limits Lost t l o j vs e = absurd (no_ask (record { what = Called o j vs; depth = l }) e)

-- a body whose call is answered by a trap asks its own end by that trap
pub trap_fails : (code : Parts) → IsForward code → (limits : Limits) (s : Start) (d : ℕ) (rs : List End) (t : Trap) (l : ℕ) (o : Object) (j : ℕ) (vs : List Value) → (code_program code limits).next s d rs ≡ Some (record { what = Called o j vs; depth = l }) → (code_program code limits).next s d (rs ++ Traps t ∷ []) ≡ Some (record { what = Ended (Traps t); depth = 0 })
trap_fails code fwd limits s d rs t l o j vs e =
    ap (asked_of code limits) (points_more code (point_of (begins code limits s d)) rs (Traps t)) ∙ point_fails code fwd limits (stands code limits s d rs) t l o j vs e
