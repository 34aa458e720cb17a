-- The operators on values: each gives a value or a trap, or finds an operand of another kind.
use Rattle.std.specs.Prelude.{◌≡◌, ℕ, zero, suc, ◌+◌, List, ◌++◌, length, codes, Bool, true, false, not, cond, Option, Some, None, Result, Ok, Err, ℤ, pos, negsuc, int_lt, nat_lt}
use Rattle.std.specs.Fmt.{signed_decimal}
use Rattle.std.specs.Int.{int_wrapping_add, int_wrapping_sub, int_wrapping_mul, int_wrapping_div, int_wrapping_neg}
use Rattle.std.specs.Int.RustNames.{int_rem}
use mir.Syntax.{w32}
use Rattle.chord_base.specs.declared.value.Value as value
use Rattle.chord_base.specs.declared.value.Value.TheVariants as a_value
use Rattle.chord_base.specs.declared.event.Trap.{Trap}
use Rattle.chord_base.specs.declared.event.Trap.TheVariants.{DivideByZero, TextTooLong}
use Rattle.chord_base.specs.declared.operation.Operation.{Operation}
use Rattle.chord_base.specs.declared.operation.Operation.TheVariants.{Add, Subtract, Multiply, Divide, Remainder, Join, Equal, NotEqual, Less, Greater, LessOrEqual, GreaterOrEqual}
use Rattle.chord_base.specs.Listed.{equal_values}

-- what an operator comes to: a value, a trap, or neither, where an operand is of another kind
pub data Computed : Type 0 where
  Is : value.Value → Computed
  Trapped : Trap → Computed
  Mistyped : Computed

-- no int is divided by zero
abbrev pub unless_zero : ℤ → ℤ → Computed
unless_zero (pos zero) result = Trapped DivideByZero
unless_zero (pos (suc n)) result = Is (a_value.Int result)
unless_zero (negsuc n) result = Is (a_value.Int result)

-- how a truth value is printed
abbrev pub flag_text : Bool → List ℕ
flag_text true = codes "True"
flag_text false = codes "False"

-- the text of an int, a bool or a text
abbrev pub text_of : value.Value → Option (List ℕ)
text_of (a_value.Int n) = Some (signed_decimal n)
text_of (a_value.Flag b) = Some (flag_text b)
text_of (a_value.Text t) = Some t
text_of a_value.Unit = None
text_of (a_value.Ref o) = None

-- two texts joined have at most 1,024 bytes
abbrev pub joined : Option (List ℕ) → Option (List ℕ) → Computed
joined (Some s) (Some t) = cond (nat_lt 1024 (length s + length t)) (Trapped TextTooLong) (Is (a_value.Text (s ++ t)))
joined _ _ = Mistyped

-- two ints, two bools, two texts or two objects are equal or not
abbrev pub compared : (Bool → Bool) → value.Value → value.Value → Computed
compared f (a_value.Int m) (a_value.Int n) = Is (a_value.Flag (f (equal_values (a_value.Int m) (a_value.Int n))))
compared f (a_value.Flag a) (a_value.Flag b) = Is (a_value.Flag (f (equal_values (a_value.Flag a) (a_value.Flag b))))
compared f (a_value.Text s) (a_value.Text t) = Is (a_value.Flag (f (equal_values (a_value.Text s) (a_value.Text t))))
compared f (a_value.Ref o) (a_value.Ref q) = Is (a_value.Flag (f (equal_values (a_value.Ref o) (a_value.Ref q))))
compared f _ _ = Mistyped

-- an operator on two ints
abbrev pub of_ints : (ℤ → ℤ → Computed) → value.Value → value.Value → Computed
of_ints f (a_value.Int m) (a_value.Int n) = f m n
of_ints f _ _ = Mistyped

-- what an operator comes to, its left operand first
abbrev pub compute : Operation → value.Value → value.Value → Computed
compute Add = of_ints (λ m n. Is (a_value.Int (int_wrapping_add w32 m n)))
compute Subtract = of_ints (λ m n. Is (a_value.Int (int_wrapping_sub w32 m n)))
compute Multiply = of_ints (λ m n. Is (a_value.Int (int_wrapping_mul w32 m n)))
compute Divide = of_ints (λ m n. unless_zero n (int_wrapping_div w32 m n))
compute Remainder = of_ints (λ m n. unless_zero n (int_rem m n))
compute Less = of_ints (λ m n. Is (a_value.Flag (int_lt m n)))
compute Greater = of_ints (λ m n. Is (a_value.Flag (int_lt n m)))
compute LessOrEqual = of_ints (λ m n. Is (a_value.Flag (not (int_lt n m))))
compute GreaterOrEqual = of_ints (λ m n. Is (a_value.Flag (not (int_lt m n))))
compute Join = λ v w. joined (text_of v) (text_of w)
compute Equal = compared (λ b. b)
compute NotEqual = compared not

-- what unary `-` comes to
abbrev pub negated : value.Value → Computed
negated (a_value.Int n) = Is (a_value.Int (int_wrapping_neg w32 n))
negated _ = Mistyped

-- what `!` comes to
abbrev pub denied : value.Value → Computed
denied (a_value.Flag b) = Is (a_value.Flag (not b))
denied _ = Mistyped

-- a call came to what the operator comes to
abbrev pub IsComputed : Computed → Result value.Value Trap → Type 0
IsComputed c (Ok v) = c ≡ Is v
IsComputed c (Err t) = c ≡ Trapped t
