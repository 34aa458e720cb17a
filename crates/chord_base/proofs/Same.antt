-- Each test of equality is true exactly where its two sides are equal.
use Rattle.std.proofs.Common.{◌≡◌, nat_eq, ◌==◌, ◌&&◌, List, refl, ap}
use Rattle.std.specs.Ordering.{int_eq}
use Rattle.std.specs.Bool.{Decides}
use Rattle.std.specs.Cmp.{booleans_Decides}
use Rattle.std.specs.Cmp.Lexicographic.{pointwise}
use Rattle.std.proofs.Math.Bool.{beq}
use Rattle.std.proofs.lemmas.Bool.Decides.{Decides-eqb, Decides-int_eq, Decides-like, Decides-and}
use Rattle.std.proofs.lemmas.Slice.Eq.{slice_eq-Decides, bytes_eq-Decides}
use Rattle.chord_base.specs.Meaning.{Main, Chord}
use Rattle.chord_base.specs.Meaning as meaning
use Rattle.chord_base.specs.declared.value.Object.{Object}
use Rattle.chord_base.specs.declared.value.Value as value
use Rattle.chord_base.specs.declared.value.Value.TheVariants as a_value
use Rattle.chord_base.specs.declared.event.Trap.{Trap}
use Rattle.chord_base.specs.declared.event.Trap.TheVariants.{DivideByZero, OutOfTurns, TooDeep, TextTooLong}
use Rattle.chord_base.specs.declared.event.End.{End}
use Rattle.chord_base.specs.declared.event.End.TheVariants.{Gives, Traps}
use Rattle.chord_base.specs.Listed.{equal_objects, equal_values, equal_traps, equal_ends, equal_starts}

-- two objects are equal where their numbers and their classes are
same_parts : (o q : Object) → o.number ≡ q.number → o.class ≡ q.class → o ≡ q
same_parts o q n c = (λ k. record { number = n k; class = c k })

-- whether two objects are equal is decided by their numbers and classes
pub object_decided : (o q : Object) → Decides (equal_objects o q) (o ≡ q)
object_decided o q =
    Decides-like (equal_objects o q) (λ (e : (o.number ≡ q.number) × (o.class ≡ q.class)). same_parts o q e.0 e.1) (λ (e : o ≡ q). (ap (λ (z : Object). z.number) e, ap (λ (z : Object). z.class) e))
    (Decides-and (o.number == q.number) (o.class == q.class) (Decides-eqb o.number q.number) (Decides-eqb o.class q.class))

-- whether two values are equal is decided
pub value_decided : (v w : value.Value) → Decides (equal_values v w) (v ≡ w)
value_decided a_value.Unit a_value.Unit = (λ e. refl, λ e. refl)
value_decided (a_value.Int m) (a_value.Int n) = Decides-like (int_eq m n) (λ e. ap a_value.Int e) (λ e. cc) (Decides-int_eq m n)
value_decided (a_value.Flag a) (a_value.Flag b) = Decides-like (beq a b) (λ e. ap a_value.Flag e) (λ e. cc) (booleans_Decides a b)
value_decided (a_value.Text s) (a_value.Text t) = Decides-like (pointwise nat_eq s t) (λ e. ap a_value.Text e) (λ e. cc) (bytes_eq-Decides s t)
value_decided (a_value.Ref o) (a_value.Ref q) = Decides-like (equal_objects o q) (λ e. ap a_value.Ref e) (λ e. cc) (object_decided o q)
value_decided _ _ = (λ e. cc, λ e. cc)

-- whether two lists of values are equal is decided value by value
pub values_decided : (vs ws : List value.Value) → Decides (pointwise equal_values vs ws) (vs ≡ ws)
values_decided vs ws = slice_eq-Decides value_decided vs ws (pointwise equal_values vs ws) refl

-- whether two traps are equal is decided
pub trap_decided : (t u : Trap) → Decides (equal_traps t u) (t ≡ u)
trap_decided DivideByZero DivideByZero = (λ e. refl, λ e. refl)
trap_decided OutOfTurns OutOfTurns = (λ e. refl, λ e. refl)
trap_decided TooDeep TooDeep = (λ e. refl, λ e. refl)
trap_decided TextTooLong TextTooLong = (λ e. refl, λ e. refl)
trap_decided _ _ = (λ e. cc, λ e. cc)

-- whether two ends are equal is decided
pub end_decided : (x y : End) → Decides (equal_ends x y) (x ≡ y)
end_decided (Gives v) (Gives w) = Decides-like (equal_values v w) (λ e. ap Gives e) (λ e. cc) (value_decided v w)
end_decided (Traps t) (Traps u) = Decides-like (equal_traps t u) (λ e. ap Traps e) (λ e. cc) (trap_decided t u)
end_decided _ _ = (λ e. cc, λ e. cc)

-- whether two lists of ends are equal is decided end by end
pub ends_decided : (xs ys : List End) → Decides (pointwise equal_ends xs ys) (xs ≡ ys)
ends_decided xs ys = slice_eq-Decides end_decided xs ys (pointwise equal_ends xs ys) refl

-- whether two starts of bodies are equal is decided
pub start_decided : (s t : meaning.Start) → Decides (equal_starts s t) (s ≡ t)
start_decided Main Main = (λ e. refl, λ e. refl)
start_decided (Chord k o vs) (Chord l q ws) =
    Decides-like (equal_starts (Chord k o vs) (Chord l q ws)) (λ (e : ((k ≡ l) × (o ≡ q)) × (vs ≡ ws)). (let a = e.0.0 in let b = e.0.1 in let d = e.1 in cc)) (λ e. ((cc, cc), cc))
    (Decides-and ((k == l) && equal_objects o q) (pointwise equal_values vs ws) (Decides-and (k == l) (equal_objects o q) (Decides-eqb k l) (object_decided o q)) (values_decided vs ws))
start_decided _ _ = (λ e. cc, λ e. cc)
