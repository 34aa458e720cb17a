-- The text of a journal: a header with the count of its entries, and then one line for each entry.
use Rattle.std.specs.Prelude.{ℕ, true, false, List, ◌++◌, length, codes, decimal}
use Rattle.std.specs.List.{flat_map}
use Rattle.std.specs.Fmt.{signed_decimal}
use Rattle.chord_base.specs.declared.value.Object.{Object}
use Rattle.chord_base.specs.declared.value.Value as value
use Rattle.chord_base.specs.declared.value.Value.TheVariants as a_value
use Rattle.chord_base.specs.declared.event.Trap.{Trap}
use Rattle.chord_base.specs.declared.event.Trap.TheVariants.{DivideByZero, OutOfTurns, TooDeep, TextTooLong}
use Rattle.chord_base.specs.declared.event.End.{End}
use Rattle.chord_base.specs.declared.event.End.TheVariants.{Gives, Traps}
use Rattle.chord_base.specs.declared.event.What.{What}
use Rattle.chord_base.specs.declared.event.What.TheVariants.{Begun, Made, Sent, Called, Printed, Fired, Ended}
use Rattle.chord_base.specs.declared.event.Entry.{Entry}
use Rattle.chord_io.specs.Digits.{byte_text}

-- the bytes of a text: an x, and then each byte
abbrev pub bytes_text : List ℕ → List ℕ
bytes_text bytes = codes "x" ++ flat_map byte_text bytes

-- an object: an o, its number, a dot, its class
abbrev pub object_text : Object → List ℕ
object_text o = codes "o" ++ (decimal o.number ++ (codes "." ++ decimal o.class))

-- a value: u, an i and a number, t or f, a text, or an object
abbrev pub value_text : value.Value → List ℕ
value_text a_value.Unit = codes "u"
value_text (a_value.Int n) = codes "i" ++ signed_decimal n
value_text (a_value.Flag true) = codes "t"
value_text (a_value.Flag false) = codes "f"
value_text (a_value.Text bytes) = bytes_text bytes
value_text (a_value.Ref o) = object_text o

-- values, each behind a blank
abbrev pub values_text : List value.Value → List ℕ
values_text values = flat_map (λ v. codes " " ++ value_text v) values

-- numbers, each behind a blank
abbrev pub numbers_text : List ℕ → List ℕ
numbers_text numbers = flat_map (λ n. codes " " ++ decimal n) numbers

-- a message: its object, its method and its values
abbrev pub message_text : Object → ℕ → List value.Value → List ℕ
message_text o method values = object_text o ++ (codes " " ++ (decimal method ++ values_text values))

-- a firing: its chord, its object, how many members it has, its members and its values
abbrev pub firing_text : ℕ → Object → List ℕ → List value.Value → List ℕ
firing_text chord o members values =
    decimal chord ++ (codes " " ++ (object_text o ++ (codes " " ++ (decimal (length members) ++ (numbers_text members ++ values_text values)))))

-- a trap: an exclamation mark and its name
abbrev pub trap_text : Trap → List ℕ
trap_text DivideByZero = codes "!divide"
trap_text OutOfTurns = codes "!turns"
trap_text TooDeep = codes "!deep"
trap_text TextTooLong = codes "!long"

-- an end: its value, or its trap
abbrev pub end_text : End → List ℕ
end_text (Gives v) = value_text v
end_text (Traps t) = trap_text t

-- what happened: a word, and what belongs to it
abbrev pub what_text : What → List ℕ
what_text Begun = codes "begun"
what_text (Made class) = codes "made " ++ decimal class
what_text (Sent o method values) = codes "sent " ++ message_text o method values
what_text (Called o method values) = codes "called " ++ message_text o method values
what_text (Printed text) = codes "printed " ++ bytes_text text
what_text (Fired chord o members values) = codes "fired " ++ firing_text chord o members values
what_text (Ended end) = codes "ended " ++ end_text end

-- the line of an entry: its number, its body and what happened, with blanks between them and the byte 10 at the end
abbrev pub entry_text : Entry → List ℕ
entry_text e = decimal e.number ++ (codes " " ++ (decimal e.body ++ (codes " " ++ (what_text e.what ++ codes "\n"))))

-- the header of a journal with this many entries
abbrev pub header_text : ℕ → List ℕ
header_text count = codes "journal 1 " ++ (decimal count ++ codes "\n")

-- a journal: its header, and the lines of its entries in order
abbrev pub journal_text : List Entry → List ℕ
journal_text entries = header_text (length entries) ++ flat_map entry_text entries
