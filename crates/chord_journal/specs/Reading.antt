-- Reading on lists: what the private functions of `read` give. `proofs/` shows that this takes exactly the texts of specs/Text.antt.
use Rattle.std.specs.Prelude.{◌≡◌, ℕ, zero, suc, ◌+◌, ◌*◌, ◌-◌, Bool, true, false, not, ◌&&◌, List, [], ◌∷◌, ◌++◌, take, drop, codes, Option, Some, None, is_some, option_and_then, Result, Ok, Err, ◌==◌, nat_lt, nat_le, if◌then◌else◌, ℤ, pos, negsuc}
use Rattle.std.specs.List.{prefix_len}
use Rattle.std.specs.Char.{is_ascii_digit}
use Rattle.std.specs.Str.Parse.{digits_value}
use Rattle.chord_base.specs.declared.value.Object.{Object}
use Rattle.chord_base.specs.declared.value.Value as value
use Rattle.chord_base.specs.declared.value.Value.TheVariants as a_value
use Rattle.chord_base.specs.declared.event.Trap.TheVariants.{DivideByZero, OutOfTurns, TooDeep, TextTooLong}
use Rattle.chord_base.specs.declared.event.End.{End}
use Rattle.chord_base.specs.declared.event.End.TheVariants.{Gives, Traps}
use Rattle.chord_base.specs.declared.event.What.{What}
use Rattle.chord_base.specs.declared.event.What.TheVariants.{Begun, Made, Sent, Called, Printed, Fired, Ended}
use Rattle.chord_base.specs.declared.event.Entry.{Entry}
use Rattle.chord_journal.specs.declared.parts.LineFault.{LineFault}
use Rattle.chord_journal.specs.declared.parts.LineFault.TheVariants.{Memory, Wrong}

-- a part of a line and the bytes behind it, or nothing where no such part stands at the front
abbrev pub Read : Type 0 → Type 0
Read A = Option (A × List ℕ)

infixl 10 ◌>>=◌
-- what is read on behind what was read, or nothing where nothing was read
abbrev pub ◌>>=◌ : {A B : Type 0} → Option A → (A → Option B) → Option B
o >>= f = option_and_then f o

-- a call that failed had no memory, or there was nothing to read
abbrev pub Fails : {Y : Type 0} → LineFault → Option Y → Type 0
Fails Memory read = Unit {0}
Fails Wrong read = read ≡ None

-- what a call gave, seen by view, is what reading gives, unless memory ran out
abbrev pub ReadsAs : {X Y : Type 0} → (X → Y) → Result X LineFault → Option Y → Type 0
ReadsAs view (Ok x) read = read ≡ Some (view x)
ReadsAs view (Err e) read = Fails e read

-- the bytes behind this text, if it stands at the front
abbrev pub after_text : List ℕ → List ℕ → Option (List ℕ)
after_text [] bytes = Some bytes
after_text (c ∷ cs) [] = None
after_text (c ∷ cs) (b ∷ bytes) = if b == c then after_text cs bytes else None

-- digits that are a decimal: at least one, and no zero before another
abbrev pub is_decimal : List ℕ → Bool
is_decimal [] = false
is_decimal (d ∷ []) = true
is_decimal (d ∷ e ∷ ds) = not (d == 48)

-- the value of digits, if it is below the bound
abbrev pub value_if_below : ℕ → List ℕ → Option ℕ
value_if_below bound digits = if nat_lt (digits_value 10 digits) bound then Some (digits_value 10 digits) else None

-- a number below the bound, with all digits that stand at the front
unfoldable pub decimal_at : ℕ → List ℕ → Read ℕ
decimal_at bound bytes =
    let count = prefix_len is_ascii_digit bytes in
    if is_decimal (take count bytes) then value_if_below bound (take count bytes) >>= (λ n. Some (n, drop count bytes)) else None

-- the number of 32 bits that stands behind a sign
unfoldable pub negative_at : List ℕ → Read ℤ
negative_at bytes = decimal_at 2147483649 bytes >>= (λ n. if n.0 == 0 then None else Some (negsuc (n.0 - 1), n.1))

-- a number of 32 bits, with a sign where it is negative
unfoldable pub int_at : List ℕ → Read ℤ
int_at [] = None
int_at (b ∷ bytes) = if b == 45 then negative_at bytes else decimal_at 2147483648 (b ∷ bytes) >>= (λ n. Some (pos n.0, n.1))

-- an object
unfoldable pub object_at : List ℕ → Read Object
object_at bytes = do
  front ← after_text (codes "o") bytes
  number ← decimal_at 65536 front
  dot ← after_text (codes ".") number.1
  class ← decimal_at 1024 dot
  Some (record { number = number.0; class = class.0 }, class.1)

-- the number that a hexadecimal digit in lower case stands for
abbrev pub digit_of : ℕ → Option ℕ
digit_of b =
    if nat_le 48 b && nat_lt b 58 then Some (b - 48) else if nat_le 97 b && nat_lt b 103 then Some (b - 87) else None

-- whether a hexadecimal digit stands at the front
abbrev pub begins_digit : List ℕ → Bool
begins_digit [] = false
begins_digit (b ∷ bytes) = is_some (digit_of b)

-- a byte: two hexadecimal digits
unfoldable pub byte_at : List ℕ → Read ℕ
byte_at [] = None
byte_at (a ∷ []) = None
byte_at (a ∷ b ∷ bytes) = do
  high ← digit_of a
  low ← digit_of b
  Some (16 * high + low, bytes)

-- as many parts as begin one after the other, and no more than so many
unfoldable pub many : {A : Type 0} → (List ℕ → Bool) → (List ℕ → Read A) → ℕ → List ℕ → Read (List A)
many begins part zero bytes = if begins bytes then None else Some ([], bytes)
many begins part (suc room) bytes =
    if begins bytes
    then part bytes >>= (λ x. many begins part room x.1 >>= (λ xs. Some (x.0 ∷ xs.0, xs.1)))
    else Some ([], bytes)

-- what was read so far, and then what is read
abbrev pub with_prefix : {A : Type 0} → List A → Read (List A) → Read (List A)
with_prefix front read = read >>= (λ xs. Some (front ++ xs.0, xs.1))

-- the bytes of a text
abbrev pub text_at : List ℕ → Read (List ℕ)
text_at bytes = many begins_digit byte_at 1024 bytes

-- a value, by its first byte
unfoldable pub value_at : List ℕ → Read value.Value
value_at [] = None
value_at (b ∷ bytes) =
    if b == 117
    then Some (a_value.Unit, bytes)
    else if b == 105
    then int_at bytes >>= (λ n. Some (a_value.Int n.0, n.1))
    else if b == 116
    then Some (a_value.Flag true, bytes)
    else if b == 102
    then Some (a_value.Flag false, bytes)
    else if b == 120
    then text_at bytes >>= (λ t. Some (a_value.Text t.0, t.1))
    else object_at (b ∷ bytes) >>= (λ o. Some (a_value.Ref o.0, o.1))

-- whether a blank stands at the front
abbrev pub begins_blank : List ℕ → Bool
begins_blank [] = false
begins_blank (b ∷ bytes) = b == 32

-- a value behind a blank
abbrev pub next_value_at : List ℕ → Read value.Value
next_value_at bytes = after_text (codes " ") bytes >>= value_at

-- the values that stand there, each behind a blank, and no more than so many
abbrev pub values_at : ℕ → List ℕ → Read (List value.Value)
values_at most bytes = many begins_blank next_value_at most bytes

-- a number below 65,536 behind a blank
abbrev pub next_number_at : List ℕ → Read ℕ
next_number_at bytes = after_text (codes " ") bytes >>= decimal_at 65536

-- so many numbers, each behind a blank
unfoldable pub numbers_at : ℕ → List ℕ → Read (List ℕ)
numbers_at zero bytes = Some ([], bytes)
numbers_at (suc count) bytes = next_number_at bytes >>= (λ n. numbers_at count n.1 >>= (λ ns. Some (n.0 ∷ ns.0, ns.1)))

-- an asynchronous call: its object, its method and its values
unfoldable pub sending_at : List ℕ → Read What
sending_at bytes = do
  object ← object_at bytes
  blank ← after_text (codes " ") object.1
  method ← decimal_at 16 blank
  values ← values_at 8 method.1
  Some (Sent object.0 method.0 values.0, values.1)

-- a synchronous call: its object, its method and its values
unfoldable pub calling_at : List ℕ → Read What
calling_at bytes = do
  object ← object_at bytes
  blank ← after_text (codes " ") object.1
  method ← decimal_at 16 blank
  values ← values_at 8 method.1
  Some (Called object.0 method.0 values.0, values.1)

-- a firing: its chord, its object, how many members it has, its members and its values
unfoldable pub firing_at : List ℕ → Read What
firing_at bytes = do
  chord ← decimal_at 256 bytes
  blank ← after_text (codes " ") chord.1
  object ← object_at blank
  next ← after_text (codes " ") object.1
  count ← decimal_at 9 next
  members ← (if count.0 == 0 then None else numbers_at count.0 count.1)
  values ← values_at 64 members.1
  Some (Fired chord.0 object.0 members.0 values.0, values.1)

-- what stands behind a text if it is at the front, and something else if it is not
abbrev pub on : {A : Type 0} → List ℕ → List ℕ → (List ℕ → Read A) → Read A → Read A
on text bytes part other = elim (after_text text bytes) [ Some rest ↦ part rest | None ↦ other ]

-- an end: a trap, or a value
unfoldable pub end_at : List ℕ → Read End
end_at bytes =
    on (codes "!divide") bytes (λ rest. Some (Traps DivideByZero, rest))
    (on (codes "!turns") bytes (λ rest. Some (Traps OutOfTurns, rest))
    (on (codes "!deep") bytes (λ rest. Some (Traps TooDeep, rest))
    (on (codes "!long") bytes (λ rest. Some (Traps TextTooLong, rest))
    (value_at bytes >>= (λ v. Some (Gives v.0, v.1))))))

-- the class of an object that is made
unfoldable pub made_at : List ℕ → Read What
made_at bytes = decimal_at 1024 bytes >>= (λ class. Some (Made class.0, class.1))

-- the text of a printed line
unfoldable pub printed_at : List ℕ → Read What
printed_at bytes = text_at bytes >>= (λ text. Some (Printed text.0, text.1))

-- how a body ended
unfoldable pub ended_at : List ℕ → Read What
ended_at bytes = end_at bytes >>= (λ end. Some (Ended end.0, end.1))

-- what happened, by its word
unfoldable pub what_at : List ℕ → Read What
what_at bytes =
    on (codes "begun") bytes (λ rest. Some (Begun, rest))
    (on (codes "made ") bytes made_at
    (on (codes "sent ") bytes sending_at
    (on (codes "called ") bytes calling_at
    (on (codes "printed x") bytes printed_at
    (on (codes "fired ") bytes firing_at
    (on (codes "ended ") bytes ended_at
    None))))))

-- the line of the entry with this number
unfoldable pub entry_at : ℕ → List ℕ → Read Entry
entry_at place bytes = do
  number ← decimal_at 65536 bytes
  blank ← (if number.0 == place then after_text (codes " ") number.1 else None)
  body ← decimal_at 65536 blank
  next ← after_text (codes " ") body.1
  what ← what_at next
  rest ← after_text (codes "\n") what.1
  Some (record { number = number.0; body = body.0; what = what.0 }, rest)

-- the header: how many entries there are
unfoldable pub header_at : List ℕ → Read ℕ
header_at bytes = do
  front ← after_text (codes "journal 1 ") bytes
  count ← decimal_at 65537 front
  rest ← after_text (codes "\n") count.1
  Some (count.0, rest)
