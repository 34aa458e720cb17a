-- The codes of the tests by hand: a class with one chord of two asynchronous methods, and a `Main` that sends one message to each of them.
use Rattle.std.specs.Prelude.{◌≡◌, ◌⊎◌, ℕ, Bool, true, false, List, [], ◌∷◌, Option, None}
use Rattle.chord_base.specs.declared.event.Entry.{Entry}
use Rattle.chord_base.specs.declared.event.Limits.{Limits}
use Rattle.chord_base.specs.declared.event.What.{What}
use Rattle.chord_base.specs.declared.event.What.TheVariants.{Begun, Made, Sent, Called, Printed, Fired, Ended}
use Rattle.chord_base.specs.declared.value.Object.{Object}
use Rattle.chord_base.specs.Meaning.{Program}
use Rattle.chord_code.specs.declared.instruction.Instruction.{Instruction}
use Rattle.chord_code.specs.declared.instruction.Instruction.TheVariants as instr
use Rattle.chord_code.specs.declared.parts.Parts.{Parts}
use Rattle.chord_code.specs.Meaning.{code_program}
use Rattle.chord_rule.specs.declared.view.Claim.{Claim}
use Rattle.chord_rule.specs.declared.view.Duty.{Duty}
use Rattle.chord_rule.specs.declared.view.View.{View}
use Rattle.chord_rule.specs.Duties.{HasDuty}
use Rattle.chord_rule.specs.Kinds.{entry}
use Rattle.chord_rule.specs.Looks.{HasSeen}
use Rattle.chord_rule.specs.Made.{key}
use Rattle.chord_rule.specs.Numbers.{HasNumber}
use Rattle.chord_space.specs.declared.space.Space.{Space}
use Rattle.chord_space.specs.Desks.{space_code, space_limits}
use Rattle.chord_match.specs.declared.search.Finding.{Finding}
use Rattle.chord_match.specs.declared.search.Finding.TheVariants.{Match, Left, Taken, Busy}
use Rattle.chord_match.specs.Seen.{AreSeen}

-- ## The codes

-- what `Main` does: it makes an object and sends it both messages; or it makes two, and sends the first message to one and the second to the other
abbrev pub main_body : Bool → List Instruction
main_body false = instr.New 0 0 ∷ instr.Store 1 ∷ instr.Load 1 ∷ instr.Send 0 0 ∷ instr.Load 1 ∷ instr.Send 1 0 ∷ instr.End ∷ []
main_body true = instr.New 0 0 ∷ instr.Store 1 ∷ instr.New 0 0 ∷ instr.Store 2 ∷ instr.Load 1 ∷ instr.Send 0 0 ∷ instr.Load 2 ∷ instr.Send 1 0 ∷ instr.End ∷ []

-- how many slots it has
abbrev pub main_slots : Bool → ℕ
main_slots false = 2
main_slots true = 3

-- the code of `class A { public async x() & public async y() { } }`, with that `Main` in a class of its own
abbrev pub pair_code : Bool → Parts
pair_code two = record {
  classes = record {
    name = 65 ∷ [];
    builder = None;
    methods = record { name = 120 ∷ []; sync = false; parameters = 0 } ∷ record { name = 121 ∷ []; sync = false; parameters = 0 } ∷ [];
    chords = record { block = 1; methods = 0 ∷ 1 ∷ [] } ∷ [];
  } ∷ record { name = 81 ∷ []; builder = None; methods = []; chords = [] } ∷ [];
  blocks = record { slots = main_slots two; instructions = main_body two } ∷ record { slots = 1; instructions = instr.End ∷ [] } ∷ [];
}

-- ## Their tables and desks

-- the limits of their tables
abbrev pub pair_limits : ℕ → Limits
pair_limits n = record { events = n; turns = 9; depth = 9 }

-- the meaning of the code under them
abbrev pub pair_program : Bool → ℕ → Program
pair_program two n = code_program (pair_code two) (pair_limits n)

-- a table for the code
abbrev pub IsPairTable : {P : Type 0} → Bool → Space P → Type 0
IsPairTable two s = (space_code s ≡ pair_code two) × (space_limits s ≡ pair_limits s.events)

-- the object of `Main`
abbrev pub first_object : Object
first_object = record { number = 1; class = 0 }

-- the second one, where it makes two
abbrev pub second_object : Object
second_object = record { number = 2; class = 0 }

-- the beginning of `Main`, and the object
abbrev pub made_one : List Entry
made_one = entry 1 0 (Made 0) ∷ entry 0 0 Begun ∷ []

-- and the message x to it
abbrev pub sent_x : List Entry
sent_x = entry 2 0 (Sent first_object 0 []) ∷ made_one

-- and the message y to it
abbrev pub sent_both : List Entry
sent_both = entry 3 0 (Sent first_object 1 []) ∷ sent_x

-- the beginning of `Main`, and two objects
abbrev pub made_two : List Entry
made_two = entry 2 0 (Made 0) ∷ made_one

-- and the message x to the first
abbrev pub sent_x_apart : List Entry
sent_x_apart = entry 3 0 (Sent first_object 0 []) ∷ made_two

-- and the message y to the second
abbrev pub sent_apart : List Entry
sent_apart = entry 4 0 (Sent second_object 1 []) ∷ sent_x_apart

-- a desk keeps these entries, has these messages to link, this one in flight and these claims, and was not told of the limit
pub record HasInHand (v : View) (es : List Entry) (fresh : List ℕ) (flight : Option ℕ) (claims : List Claim) : Type 0 where
  pub room : v.spent ≡ false
  pub kept : v.kept ≡ es
  pub fresh_are : v.fresh ≡ fresh
  pub flight_is : v.flight ≡ flight
  pub claims_are : v.claims ≡ claims

-- a first desk that has lent none
abbrev pub IsUnsplit : View → Type 0
IsUnsplit v = (v.first ≡ true) × (v.splits ≡ 0) × (v.lent ≡ 0)

-- the desk has a duty on the message, in this bag
abbrev pub Owes : View → ℕ → ℕ → Type 0
Owes v m k = (d : Duty) × HasDuty d v.duties × (d.message ≡ m) × (d.bag ≡ k)

-- the desk holds what it held
abbrev pub IsAsBefore : View → View → Type 0
IsAsBefore v w = (es : List Entry) (fresh : List ℕ) (flight : Option ℕ) (cs : List Claim) → HasInHand v es fresh flight cs → HasInHand w es fresh flight cs

-- it has the duties that it had
abbrev pub KeepsDuties : View → View → Type 0
KeepsDuties v w = (m k : ℕ) → Owes v m k → Owes w m k

-- what it saw in armed cells it has seen
abbrev pub KeepsSeen : View → View → Type 0
KeepsSeen v w = (i : ℕ) (next : Option ℕ) → HasSeen v i next → HasSeen w i next

-- the desk keeps these entries, and has one claim, on this message, with which no firing was drawn
abbrev pub HoldsClaim : View → List Entry → ℕ → Type 0
HoldsClaim v es i = (c : Claim) × HasInHand v es [] None (c ∷ []) × (c.number ≡ i) × (c.firing ≡ None)

-- a desk without a claim has claimed the message, and else holds what it held
abbrev pub TakesClaim : View → View → ℕ → Type 0
TakesClaim v w i = (es : List Entry) → HasInHand v es [] None [] → HoldsClaim w es i

-- the desk has given its claim on the message back, and else holds what it held
abbrev pub GivesClaim : View → View → ℕ → Type 0
GivesClaim v w i = (es : List Entry) → HoldsClaim v es i → HasInHand w es [] None []

-- what a search for a message leaves: its duty where it was not laid down, and the members of a match as they were seen
abbrev pub LeavesDuty : Program → ℕ → View → ℕ → Object → ℕ → List ℕ → List (Option ℕ) → Finding → Type 0
LeavesDuty p n w m o method ms xs (Match k) = Owes w m (key o method) × AreSeen n p w o k ms xs
LeavesDuty p n w m o method ms xs (Busy i) = Owes w m (key o method)
LeavesDuty p n w m o method ms xs Left = Unit {0}
LeavesDuty p n w m o method ms xs Taken = Unit {0}

-- the desk keeps both messages and the entry of a firing of the chord with these members, which it has not posted
pub record KeepsFiring (v : View) (ms : List ℕ) (f : ℕ) : Type 0 where
  pub kept : v.kept ≡ entry f f (Fired 0 first_object ms []) ∷ sent_both
  pub fresh : v.fresh ≡ []
  pub unposted : HasNumber f v.unposted

-- both messages are pending, and the desk has a duty on each
pub record HasBothPending (v : View) : Type 0 where
  pub hand : HasInHand v sent_both [] None []
  pub x : Owes v 2 (key first_object 0)
  pub y : Owes v 3 (key first_object 1)

-- the claim is on this message to this method of the first object, and this firing was drawn with it, if any
pub record IsClaimOn (i method : ℕ) (firing : Option ℕ) (c : Claim) : Type 0 where
  pub numbered : c.number ≡ i
  pub to_object : c.object ≡ first_object
  pub to_method : c.method ≡ method
  pub fired : c.firing ≡ firing

-- the desk has claimed both messages, and drawn this firing with them, if any
pub record HasClaimedBoth (v : View) (firing : Option ℕ) : Type 0 where
  pub room : v.spent ≡ false
  pub x : Claim
  pub y : Claim
  pub claims : v.claims ≡ y ∷ x ∷ []
  pub is_x : IsClaimOn 2 0 firing x
  pub is_y : IsClaimOn 3 1 firing y

-- the entry of a firing
abbrev pub SaysFired : What → Type 0
SaysFired (Fired k o ms vs) = Unit {0}
SaysFired Begun = ⊥
SaysFired (Made c) = ⊥
SaysFired (Sent o j vs) = ⊥
SaysFired (Called o j vs) = ⊥
SaysFired (Printed t) = ⊥
SaysFired (Ended x) = ⊥

-- a parcel of these tests keeps nothing, or the entry of a firing
abbrev pub IsLetter : List Entry → Type 0
IsLetter es = (es ≡ []) ⊎ ((f : ℕ) × (what : What) × (es ≡ entry f f what ∷ []) × SaysFired what)
