-- Lines: what is read has their text, and their text is read.
use Rattle.std.proofs.Common.{◌≡◌, ℕ, ◌<◌, ◌≤◌, true, false, if◌then◌else◌, ◌==◌, List, [], ◌∷◌, ◌++◌, length, Option, Some, None, refl, ap, sym, ◌∙◌, append_assoc, arith, subst}
use Rattle.std.specs.Prelude.{codes, decimal}
use Rattle.std.specs.List.{flat_map}
use Rattle.std.proofs.lemmas.Bool.Decides.{nat_tests}
use Rattle.std.proofs.lemmas.Fmt.{decimal_digit}
use Rattle.chord_base.specs.Bounds.{IsMessageWithin, IsFiringWithin, IsEndWithin, IsWhatWithin}
use Rattle.chord_base.specs.declared.value.Object.{Object}
use Rattle.chord_base.specs.declared.value.Value as value
use Rattle.chord_base.specs.declared.value.Value.TheVariants as a_value
use Rattle.chord_base.specs.declared.event.Trap.{Trap}
use Rattle.chord_base.specs.declared.event.Trap.TheVariants.{DivideByZero, OutOfTurns, TooDeep, TextTooLong}
use Rattle.chord_base.specs.declared.event.End.{End}
use Rattle.chord_base.specs.declared.event.End.TheVariants.{Gives, Traps}
use Rattle.chord_base.specs.declared.event.What.{What}
use Rattle.chord_base.specs.declared.event.What.TheVariants.{Begun, Made, Sent, Called, Printed, Fired, Ended}
use Rattle.chord_base.specs.declared.event.Entry.{Entry}
use Rattle.chord_io.specs.Digits.{byte_text}
use Rattle.chord_journal.specs.Text.{object_text, value_text, values_text, numbers_text, message_text, firing_text, trap_text, end_text, what_text, entry_text, header_text}
use Rattle.chord_journal.specs.Typed.{AreTypedValues, IsTypedEnd, IsTypedWhat}
use Rattle.chord_journal.specs.Wrong.{IsEntryAt}
use Rattle.chord_journal.specs.Reading.{Read, ◌>>=◌, on, after_text, decimal_at, text_at, object_at, value_at, values_at, numbers_at, sending_at, calling_at, made_at, printed_at, ended_at, firing_at, end_at, what_at, entry_at, header_at}
use Rattle.chord_journal.proofs.Binds.{bound, same_read, passed, guarded}
use Rattle.chord_journal.proofs.Fronts.{after_takes}
use Rattle.chord_journal.proofs.Numbers.{number_again, number_takes}
use Rattle.chord_journal.proofs.Hexes.{text_again, text_takes}
use Rattle.chord_journal.proofs.ValueTexts.{Stops, object_again, object_takes, value_again, value_takes, values_again, values_takes, numbers_again, numbers_takes}

-- the end of a line stops what stands before it
line_end : (more : List ℕ) → Stops (10 ∷ more)
line_end more = record { decimal = refl; hexadecimal = refl }

-- so do values, since each stands behind a blank
values_stop : (vs : List value.Value) (rest : List ℕ) → Stops rest → Stops (values_text vs ++ rest)
values_stop [] rest stops = stops
values_stop (v ∷ vs) rest stops = record { decimal = refl; hexadecimal = refl }

-- and numbers
numbers_stop : (ns : List ℕ) (rest : List ℕ) → Stops rest → Stops (numbers_text ns ++ rest)
numbers_stop [] rest stops = stops
numbers_stop (n ∷ ns) rest stops = record { decimal = refl; hexadecimal = refl }

-- the text of a message in front of what follows, part by part
message_parts : (o : Object) (j : ℕ) (vs : List value.Value) (rest : List ℕ) →
    message_text o j vs ++ rest ≡ object_text o ++ (32 ∷ (decimal j ++ (values_text vs ++ rest)))
message_parts o j vs rest =
    append_assoc (object_text o) (32 ∷ (decimal j ++ values_text vs)) rest ∙ ap (λ b. object_text o ++ (32 ∷ b)) (append_assoc (decimal j) (values_text vs) rest)

-- messages are read at the end of a line
sending_again : (o : Object) (j : ℕ) (vs : List value.Value) (more : List ℕ) → IsMessageWithin o j vs → AreTypedValues vs →
    sending_at (message_text o j vs ++ (10 ∷ more)) ≡ Some (Sent o j vs, 10 ∷ more)
unfolding sending_at
sending_again o j vs more within typed =
    let stops = line_end more in
    let object = object_again o (32 ∷ (decimal j ++ (values_text vs ++ (10 ∷ more)))) within.object refl in
    let method = number_again 16 j (values_text vs ++ (10 ∷ more)) within.method (omega arith) (values_stop vs (10 ∷ more) stops).decimal in
    let values = values_again 8 vs (10 ∷ more) within.few within.values typed stops refl in
    ap sending_at (message_parts o j vs (10 ∷ more)) ∙ rw (object, method, values) refl

-- synchronous calls are read at the end of a line
calling_again : (o : Object) (j : ℕ) (vs : List value.Value) (more : List ℕ) → IsMessageWithin o j vs → AreTypedValues vs →
    calling_at (message_text o j vs ++ (10 ∷ more)) ≡ Some (Called o j vs, 10 ∷ more)
unfolding calling_at
calling_again o j vs more within typed =
    let stops = line_end more in
    let object = object_again o (32 ∷ (decimal j ++ (values_text vs ++ (10 ∷ more)))) within.object refl in
    let method = number_again 16 j (values_text vs ++ (10 ∷ more)) within.method (omega arith) (values_stop vs (10 ∷ more) stops).decimal in
    let values = values_again 8 vs (10 ∷ more) within.few within.values typed stops refl in
    ap calling_at (message_parts o j vs (10 ∷ more)) ∙ rw (object, method, values) refl

-- the text of a firing in front of what follows, part by part
firing_parts : (k : ℕ) (o : Object) (ms : List ℕ) (vs : List value.Value) (rest : List ℕ) →
    firing_text k o ms vs ++ rest ≡ decimal k ++ (32 ∷ (object_text o ++ (32 ∷ (decimal (length ms) ++ (numbers_text ms ++ (values_text vs ++ rest))))))
firing_parts k o ms vs rest =
    let lists = append_assoc (numbers_text ms) (values_text vs) rest in
    let counted = append_assoc (decimal (length ms)) (numbers_text ms ++ values_text vs) rest ∙ ap (λ b. decimal (length ms) ++ b) lists in
    let object = append_assoc (object_text o) (32 ∷ (decimal (length ms) ++ (numbers_text ms ++ values_text vs))) rest ∙ ap (λ b. object_text o ++ (32 ∷ b)) counted in
    append_assoc (decimal k) (32 ∷ (object_text o ++ (32 ∷ (decimal (length ms) ++ (numbers_text ms ++ values_text vs))))) rest ∙ ap (λ b. decimal k ++ (32 ∷ b)) object

-- firings are read at the end of a line
firing_again : (k : ℕ) (o : Object) (ms : List ℕ) (vs : List value.Value) (more : List ℕ) → IsFiringWithin k o ms vs → AreTypedValues vs →
    firing_at (firing_text k o ms vs ++ (10 ∷ more)) ≡ Some (Fired k o ms vs, 10 ∷ more)
unfolding firing_at
firing_again k o ms vs more within typed =
    let stops = line_end more in
    let behind = values_text vs ++ (10 ∷ more) in
    let chord = number_again 256 k (32 ∷ (object_text o ++ (32 ∷ (decimal (length ms) ++ (numbers_text ms ++ behind))))) within.chord (omega arith) refl in
    let object = object_again o (32 ∷ (decimal (length ms) ++ (numbers_text ms ++ behind))) within.object refl in
    let few : length ms < 9 = omega (arith, within.few_members) in
    let count = number_again 9 (length ms) (numbers_text ms ++ behind) few (omega arith) (numbers_stop ms behind (values_stop vs (10 ∷ more) stops)).decimal in
    let some : (length ms == 0) ≡ false = grind (arith, nat_tests, within.some) in
    let members = numbers_again ms behind within.members (values_stop vs (10 ∷ more) stops).decimal in
    let values = values_again 64 vs (10 ∷ more) within.few_values within.values typed stops refl in
    ap firing_at (firing_parts k o ms vs (10 ∷ more)) ∙ rw (chord, object, count, some, members, values) refl

-- ends are read at the end of a line
end_again : (x : End) (more : List ℕ) → IsEndWithin x → IsTypedEnd x → end_at (end_text x ++ (10 ∷ more)) ≡ Some (x, 10 ∷ more)
unfolding end_at
end_again (Traps DivideByZero) more within typed = refl
end_again (Traps OutOfTurns) more within typed = refl
end_again (Traps TooDeep) more within typed = refl
end_again (Traps TextTooLong) more within typed = refl
end_again (Gives a_value.Unit) more within typed = rw (value_again a_value.Unit (10 ∷ more) within typed (line_end more)) refl
end_again (Gives (a_value.Int n)) more within typed = rw (value_again (a_value.Int n) (10 ∷ more) within typed (line_end more)) refl
end_again (Gives (a_value.Flag true)) more within typed = rw (value_again (a_value.Flag true) (10 ∷ more) within typed (line_end more)) refl
end_again (Gives (a_value.Flag false)) more within typed = rw (value_again (a_value.Flag false) (10 ∷ more) within typed (line_end more)) refl
end_again (Gives (a_value.Text t)) more within typed = rw (value_again (a_value.Text t) (10 ∷ more) within typed (line_end more)) refl
end_again (Gives (a_value.Ref o)) more within typed = rw (value_again (a_value.Ref o) (10 ∷ more) within typed (line_end more)) refl

-- what happened is read at the end of a line
what_again : (w : What) (more : List ℕ) → IsWhatWithin w → IsTypedWhat w → what_at (what_text w ++ (10 ∷ more)) ≡ Some (w, 10 ∷ more)
unfolding what_at made_at printed_at ended_at
what_again Begun more within typed = refl
what_again (Made c) more within typed = rw (number_again 1024 c (10 ∷ more) within (omega arith) refl) refl
what_again (Sent o j vs) more within typed = sending_again o j vs more within typed
what_again (Called o j vs) more within typed = calling_again o j vs more within typed
what_again (Printed t) more within typed = rw (text_again t (10 ∷ more) typed refl) refl
what_again (Fired k o ms vs) more within typed = firing_again k o ms vs more within typed
what_again (Ended x) more within typed = rw (end_again x more within typed) refl

-- what stands at the front, and what was read of it
abbrev IsWhatRead : List ℕ → What → List ℕ → Type 0
IsWhatRead bytes w rest = (bytes ≡ what_text w ++ rest) × IsWhatWithin w × IsTypedWhat w

-- a message that was read
abbrev IsMessageRead : List ℕ → Object → ℕ → List value.Value → List ℕ → Type 0
IsMessageRead bytes o j vs rest = (bytes ≡ message_text o j vs ++ rest) × IsMessageWithin o j vs × AreTypedValues vs

-- an object, a blank, a method and values that were read one after another are a message that was read
message_takes : (bytes : List ℕ) (o : Object × List ℕ) (blank : List ℕ) (j : ℕ × List ℕ) (vs : List value.Value × List ℕ) →
    object_at bytes ≡ Some o → after_text (codes " ") o.1 ≡ Some blank → decimal_at 16 blank ≡ Some j → values_at 8 j.1 ≡ Some vs → IsMessageRead bytes o.0 j.0 vs.0 vs.1
message_takes bytes o blank j vs first second third fourth =
    let (text₁, object) = object_takes bytes o.0 o.1 first in
    let text₂ = after_takes (codes " ") o.1 blank second in
    let (text₃, method) = number_takes 16 blank j.0 j.1 (omega arith) third in
    let (text₄, few, values, typed) = values_takes 8 j.1 vs.0 vs.1 fourth in
    let whole : bytes ≡ object_text o.0 ++ (32 ∷ (decimal j.0 ++ (values_text vs.0 ++ vs.1))) =
    text₁ ∙ ap (λ b. object_text o.0 ++ b) (text₂ ∙ ap (λ b. 32 ∷ b) (text₃ ∙ ap (λ b. decimal j.0 ++ b) text₄)) in
    (whole ∙ sym (message_parts o.0 j.0 vs.0 vs.1), record { object = object; method = method; few = few; values = values }, typed)

-- parts of messages, as they are read
abbrev as_message : (Object → ℕ → List value.Value → What) → Object → ℕ → List value.Value × List ℕ → Read What
as_message made o j vs = Some (made o j vs.0, vs.1)

-- what is read of a message behind its method: its values
abbrev with_method : (Object → ℕ → List value.Value → What) → Object → ℕ × List ℕ → Read What
with_method made o j = values_at 8 j.1 >>= as_message made o j.0

-- what is read of a message behind the blank that follows its object: its method and its values
abbrev with_blank : (Object → ℕ → List value.Value → What) → Object → List ℕ → Read What
with_blank made o blank = decimal_at 16 blank >>= with_method made o

-- what is read of a message behind its object: a blank, its method and its values
abbrev with_object : (Object → ℕ → List value.Value → What) → Object × List ℕ → Read What
with_object made o = after_text (codes " ") o.1 >>= with_blank made o.0

-- what is read behind `sent ` is an asynchronous message
sending_takes : (bytes : List ℕ) (w : What) (rest : List ℕ) → sending_at bytes ≡ Some (w, rest) → IsWhatRead (codes "sent " ++ bytes) w rest
unfolding sending_at
sending_takes bytes w rest read =
    let (o, first, read₁) = bound (object_at bytes) (with_object Sent) (w, rest) read in
    let (blank, second, read₂) = bound (after_text (codes " ") o.1) (with_blank Sent o.0) (w, rest) read₁ in
    let (j, third, read₃) = bound (decimal_at 16 blank) (with_method Sent o.0) (w, rest) read₂ in
    let (vs, fourth, is) = bound (values_at 8 j.1) (as_message Sent o.0 j.0) (w, rest) read₃ in
    let (same, left) = same_read (Sent o.0 j.0 vs.0) w vs.1 rest is in
    let (text, within, typed) = message_takes bytes o blank j vs first second third fourth in
    subst (λ x. IsWhatRead (codes "sent " ++ bytes) x rest) same
    (ap (λ b. codes "sent " ++ b) (text ∙ ap (λ r. message_text o.0 j.0 vs.0 ++ r) left), within, typed)

-- what is read behind `called ` is a synchronous call
calling_takes : (bytes : List ℕ) (w : What) (rest : List ℕ) → calling_at bytes ≡ Some (w, rest) → IsWhatRead (codes "called " ++ bytes) w rest
unfolding calling_at
calling_takes bytes w rest read =
    let (o, first, read₁) = bound (object_at bytes) (with_object Called) (w, rest) read in
    let (blank, second, read₂) = bound (after_text (codes " ") o.1) (with_blank Called o.0) (w, rest) read₁ in
    let (j, third, read₃) = bound (decimal_at 16 blank) (with_method Called o.0) (w, rest) read₂ in
    let (vs, fourth, is) = bound (values_at 8 j.1) (as_message Called o.0 j.0) (w, rest) read₃ in
    let (same, left) = same_read (Called o.0 j.0 vs.0) w vs.1 rest is in
    let (text, within, typed) = message_takes bytes o blank j vs first second third fourth in
    subst (λ x. IsWhatRead (codes "called " ++ bytes) x rest) same
    (ap (λ b. codes "called " ++ b) (text ∙ ap (λ r. message_text o.0 j.0 vs.0 ++ r) left), within, typed)

-- what is read behind `made ` is the class of an object that is made
made_takes : (bytes : List ℕ) (w : What) (rest : List ℕ) → made_at bytes ≡ Some (w, rest) → IsWhatRead (codes "made " ++ bytes) w rest
unfolding made_at
made_takes bytes w rest read =
    let (c, number, is) = bound (decimal_at 1024 bytes) as_made (w, rest) read in
    let (same, left) = same_read (Made c.0) w c.1 rest is in
    let (text, less) = number_takes 1024 bytes c.0 c.1 (omega arith) number in
    subst (λ x. IsWhatRead (codes "made " ++ bytes) x rest) same (ap (λ b. codes "made " ++ b) (text ∙ ap (λ r. decimal c.0 ++ r) left), less, tt)
  where
    as_made : ℕ × List ℕ → Read What
    as_made c = Some (Made c.0, c.1)

-- what is read behind `printed x` is the text of a printed line
printed_takes : (bytes : List ℕ) (w : What) (rest : List ℕ) → printed_at bytes ≡ Some (w, rest) → IsWhatRead (codes "printed x" ++ bytes) w rest
unfolding printed_at
printed_takes bytes w rest read =
    let (t, found, is) = bound (text_at bytes) as_printed (w, rest) read in
    let (same, left) = same_read (Printed t.0) w t.1 rest is in
    let (text, typed) = text_takes bytes t.0 t.1 found in
    subst (λ x. IsWhatRead (codes "printed x" ++ bytes) x rest) same
    (ap (λ b. codes "printed x" ++ b) (text ∙ ap (λ r. flat_map byte_text t.0 ++ r) left), tt, typed)
  where
    as_printed : List ℕ × List ℕ → Read What
    as_printed t = Some (Printed t.0, t.1)

-- parts of a firing, as they are read
abbrev as_firing : ℕ → Object → List ℕ → List value.Value × List ℕ → Read What
as_firing k o ms vs = Some (Fired k o ms vs.0, vs.1)

-- what is read of a firing behind its members: its values
abbrev with_members : ℕ → Object → List ℕ × List ℕ → Read What
with_members k o ms = values_at 64 ms.1 >>= as_firing k o ms.0

-- what is read of a firing behind the count of its members: so many members, and its values
abbrev with_count : ℕ → Object → ℕ × List ℕ → Read What
with_count k o count = (if count.0 == 0 then None else numbers_at count.0 count.1) >>= with_members k o

-- what is read of a firing behind the blank that follows its object: the count of its members, its members and its values
abbrev with_next : ℕ → Object → List ℕ → Read What
with_next k o next = decimal_at 9 next >>= with_count k o

-- what is read of a firing behind its object: a blank, the count of its members, its members and its values
abbrev with_target : ℕ → Object × List ℕ → Read What
with_target k o = after_text (codes " ") o.1 >>= with_next k o.0

-- what is read of a firing behind the blank that follows its chord: its object and all that follows it
abbrev with_space : ℕ → List ℕ → Read What
with_space k blank = object_at blank >>= with_target k

-- what is read of a firing behind its chord: a blank, its object and all that follows it
abbrev with_chord : ℕ × List ℕ → Read What
with_chord k = after_text (codes " ") k.1 >>= with_space k.0

-- what is read behind `fired ` is a firing
firing_takes : (bytes : List ℕ) (w : What) (rest : List ℕ) → firing_at bytes ≡ Some (w, rest) → IsWhatRead (codes "fired " ++ bytes) w rest
unfolding firing_at
firing_takes bytes w rest read =
    let (k, first, read₁) = bound (decimal_at 256 bytes) with_chord (w, rest) read in
    let (blank, second, read₂) = bound (after_text (codes " ") k.1) (with_space k.0) (w, rest) read₁ in
    let (o, third, read₃) = bound (object_at blank) (with_target k.0) (w, rest) read₂ in
    let (next, fourth, read₄) = bound (after_text (codes " ") o.1) (with_next k.0 o.0) (w, rest) read₃ in
    let (count, fifth, read₅) = bound (decimal_at 9 next) (with_count k.0 o.0) (w, rest) read₄ in
    let (ms, tested, read₆) = bound (if count.0 == 0 then None else numbers_at count.0 count.1) (with_members k.0 o.0) (w, rest) read₅ in
    let (some, sixth) = passed (count.0 == 0) (numbers_at count.0 count.1) ms tested in
    let (vs, seventh, is) = bound (values_at 64 ms.1) (as_firing k.0 o.0 ms.0) (w, rest) read₆ in
    let (same, left) = same_read (Fired k.0 o.0 ms.0 vs.0) w vs.1 rest is in
    let (text₁, chord) = number_takes 256 bytes k.0 k.1 (omega arith) first in
    let text₂ = after_takes (codes " ") k.1 blank second in
    let (text₃, object) = object_takes blank o.0 o.1 third in
    let text₄ = after_takes (codes " ") o.1 next fourth in
    let (text₅, small) = number_takes 9 next count.0 count.1 (omega arith) fifth in
    let (text₆, counted, members) = numbers_takes count.0 count.1 ms.0 ms.1 sixth in
    let (text₇, few, values, typed) = values_takes 64 ms.1 vs.0 vs.1 seventh in
    let above : 0 < count.0 = grind (arith, nat_tests, some) in
    let parts : bytes ≡ decimal k.0 ++ (32 ∷ (object_text o.0 ++ (32 ∷ (decimal count.0 ++ (numbers_text ms.0 ++ (values_text vs.0 ++ vs.1)))))) =
    text₁ ∙
    ap (λ b. decimal k.0 ++ b)
    (text₂ ∙
    ap (λ b. 32 ∷ b)
    (text₃ ∙
    ap (λ b. object_text o.0 ++ b)
    (text₄ ∙ ap (λ b. 32 ∷ b) (text₅ ∙ ap (λ b. decimal count.0 ++ b) (text₆ ∙ ap (λ b. numbers_text ms.0 ++ b) text₇))))) in
    let whole : bytes ≡ firing_text k.0 o.0 ms.0 vs.0 ++ vs.1 =
    parts ∙ ap (λ n. decimal k.0 ++ (32 ∷ (object_text o.0 ++ (32 ∷ (decimal n ++ (numbers_text ms.0 ++ (values_text vs.0 ++ vs.1))))))) (sym counted) ∙
    sym (firing_parts k.0 o.0 ms.0 vs.0 vs.1) in
    let within : IsFiringWithin k.0 o.0 ms.0 vs.0 =
    record {
      chord = chord;
      object = object;
      some = omega (arith, above, counted);
      few_members = omega (arith, small, counted);
      members = members;
      few_values = few;
      values = values;
    } in
    subst (λ x. IsWhatRead (codes "fired " ++ bytes) x rest) same
    (ap (λ b. codes "fired " ++ b) (whole ∙ ap (λ r. firing_text k.0 o.0 ms.0 vs.0 ++ r) left), within, typed)

-- what a word was followed by, or what was read without it
followed : {A R : Type 0} (word bytes : List ℕ) (part : List ℕ → Read A) (other : Read A) (y : A × List ℕ) → on word bytes part other ≡ Some y →
    ((front : List ℕ) → bytes ≡ word ++ front → part front ≡ Some y → R) → (other ≡ Some y → R) → R
followed {A} {R} word bytes part other y read here there =
    elim (after_text word bytes) as (λ o. after_text word bytes ≡ o → (elim o [ Some front ↦ part front | None ↦ other ]) ≡ Some y → R) [
      | Some front ↦ λ is found. here front (after_takes word bytes front is) found
      | None ↦ λ is found. there found
    ] refl read

-- what stands at the front, and the end that was read of it
abbrev IsEndRead : List ℕ → End → List ℕ → Type 0
IsEndRead bytes x rest = (bytes ≡ end_text x ++ rest) × IsEndWithin x × IsTypedEnd x

-- where the text of a trap stands at the front, and that trap was read, it is the end that was read
trap_takes : (bytes front : List ℕ) (t : Trap) (x : End) (rest : List ℕ) → bytes ≡ trap_text t ++ front →
    ◌≡◌ {A = Option (End × List ℕ)} (Some (Traps t, front)) (Some (x, rest)) → IsEndRead bytes x rest
trap_takes bytes front t x rest text read =
    let (same, left) = same_read (Traps t) x front rest read in
    subst (λ y. IsEndRead bytes y rest) same (text ∙ ap (λ r. trap_text t ++ r) left, tt, tt)

-- a value that was read, as an end
abbrev as_end : value.Value × List ℕ → Read End
as_end v = Some (Gives v.0, v.1)

-- what is read is an end
end_takes : (bytes : List ℕ) (x : End) (rest : List ℕ) → end_at bytes ≡ Some (x, rest) → IsEndRead bytes x rest
unfolding end_at
end_takes bytes x rest read =
    followed (codes "!divide") bytes _ _ (x, rest) read (λ front text found. trap_takes bytes front DivideByZero x rest text found)
    (λ read₁. followed (codes "!turns") bytes _ _ (x, rest) read₁ (λ front text found. trap_takes bytes front OutOfTurns x rest text found)
    (λ read₂. followed (codes "!deep") bytes _ _ (x, rest) read₂ (λ front text found. trap_takes bytes front TooDeep x rest text found)
    (λ read₃. followed (codes "!long") bytes _ _ (x, rest) read₃ (λ front text found. trap_takes bytes front TextTooLong x rest text found)
    (λ read₄.
    let (v, found, is) = bound (value_at bytes) as_end (x, rest) read₄ in
    let (same, left) = same_read (Gives v.0) x v.1 rest is in
    let (text, within, typed) = value_takes bytes v.0 v.1 found in
    subst (λ y. IsEndRead bytes y rest) same (text ∙ ap (λ r. value_text v.0 ++ r) left, within, typed)))))

-- what is read behind `ended ` is how a body ended
ended_takes : (bytes : List ℕ) (w : What) (rest : List ℕ) → ended_at bytes ≡ Some (w, rest) → IsWhatRead (codes "ended " ++ bytes) w rest
unfolding ended_at
ended_takes bytes w rest read =
    let (x, found, is) = bound (end_at bytes) as_ended (w, rest) read in
    let (same, left) = same_read (Ended x.0) w x.1 rest is in
    let (text, within, typed) = end_takes bytes x.0 x.1 found in
    subst (λ y. IsWhatRead (codes "ended " ++ bytes) y rest) same (ap (λ b. codes "ended " ++ b) (text ∙ ap (λ r. end_text x.0 ++ r) left), within, typed)
  where
    as_ended : End × List ℕ → Read What
    as_ended x = Some (Ended x.0, x.1)

-- what is read is what happened
pub what_takes : (bytes : List ℕ) (w : What) (rest : List ℕ) → what_at bytes ≡ Some (w, rest) → IsWhatRead bytes w rest
unfolding what_at
what_takes bytes w rest read =
    followed (codes "begun") bytes _ _ (w, rest) read
    (λ front text found.
    let (same, left) = same_read Begun w front rest found in
    subst (λ y. IsWhatRead bytes y rest) same (text ∙ ap (λ r. codes "begun" ++ r) left, tt, tt))
    (λ read₁. followed (codes "made ") bytes made_at _ (w, rest) read₁ (λ front text found. rw text (made_takes front w rest found))
    (λ read₂. followed (codes "sent ") bytes sending_at _ (w, rest) read₂ (λ front text found. rw text (sending_takes front w rest found))
    (λ read₃. followed (codes "called ") bytes calling_at _ (w, rest) read₃ (λ front text found. rw text (calling_takes front w rest found))
    (λ read₄. followed (codes "printed x") bytes printed_at _ (w, rest) read₄ (λ front text found. rw text (printed_takes front w rest found))
    (λ read₅. followed (codes "fired ") bytes firing_at _ (w, rest) read₅ (λ front text found. rw text (firing_takes front w rest found))
    (λ read₆. followed (codes "ended ") bytes ended_at _ (w, rest) read₆ (λ front text found. rw text (ended_takes front w rest found))
    (λ none. absurd (cc))))))))

-- the text of a line in front of what follows, part by part
line_parts : (e : Entry) (rest : List ℕ) →
    entry_text e ++ rest ≡ decimal e.number ++ (32 ∷ (decimal e.body ++ (32 ∷ (what_text e.what ++ (10 ∷ rest)))))
line_parts e rest =
    let what = append_assoc (what_text e.what) (10 ∷ []) rest in
    let body = append_assoc (decimal e.body) (32 ∷ (what_text e.what ++ (10 ∷ []))) rest ∙ ap (λ b. decimal e.body ++ (32 ∷ b)) what in
    append_assoc (decimal e.number) (32 ∷ (decimal e.body ++ (32 ∷ (what_text e.what ++ (10 ∷ []))))) rest ∙ ap (λ b. decimal e.number ++ (32 ∷ b)) body

-- the number 0 and a blank, written out
zero_begins : (more : List ℕ) → decimal 0 ++ (32 ∷ more) ≡ codes "0 " ++ more
zero_begins more = ap (λ ds. ds ++ (32 ∷ more)) (decimal_digit 0 (omega arith))

-- the line of the entry with number 0 begins with its number and a blank
pub first_begins : (e : Entry) (rest : List ℕ) → e.number ≡ 0 → (more : List ℕ) × (entry_text e ++ rest ≡ codes "0 " ++ more)
first_begins e rest at_first =
    let more : List ℕ = decimal e.body ++ (32 ∷ (what_text e.what ++ (10 ∷ rest))) in
    (more, line_parts e rest ∙ ap (λ n. decimal n ++ (32 ∷ more)) at_first ∙ zero_begins more)

-- the line of an entry is read
pub entry_again : (place : ℕ) (e : Entry) (rest : List ℕ) → IsEntryAt place e → place < 65536 → entry_at place (entry_text e ++ rest) ≡ Some (e, rest)
unfolding entry_at
entry_again place e rest right few =
    let low : e.number < 65536 = omega (arith, right.number, few) in
    let number = number_again 65536 e.number (32 ∷ (decimal e.body ++ (32 ∷ (what_text e.what ++ (10 ∷ rest))))) low (omega arith) refl in
    let here : (e.number == place) ≡ true = grind (arith, nat_tests, right.number) in
    let body = number_again 65536 e.body (32 ∷ (what_text e.what ++ (10 ∷ rest))) right.body (omega arith) refl in
    let what = what_again e.what rest right.what right.typed in
    ap (λ b. entry_at place b) (line_parts e rest) ∙ rw (number, here, body, what) refl

-- parts of a line, as they are read
abbrev as_entry : ℕ → ℕ → What → List ℕ → Read Entry
as_entry number body what rest = Some (record { number = number; body = body; what = what }, rest)

-- what is read of a line behind what happened: the end of the line
abbrev with_what : ℕ → ℕ → What × List ℕ → Read Entry
with_what number body what = after_text (codes "\n") what.1 >>= as_entry number body what.0

-- what is read of a line behind the blank that follows its body: what happened, and the end of the line
abbrev with_gap : ℕ → ℕ → List ℕ → Read Entry
with_gap number body next = what_at next >>= with_what number body

-- what is read of a line behind its body: a blank, what happened, and the end of the line
abbrev with_body : ℕ → ℕ × List ℕ → Read Entry
with_body number body = after_text (codes " ") body.1 >>= with_gap number body.0

-- what is read of a line behind the blank that follows its number: its body and all that follows it
abbrev behind_number : ℕ → List ℕ → Read Entry
behind_number number blank = decimal_at 65536 blank >>= with_body number

-- what is read of a line behind its number, which is that of its place: a blank, its body and all that follows it
abbrev with_number : ℕ → ℕ × List ℕ → Read Entry
with_number place number = (if number.0 == place then after_text (codes " ") number.1 else None) >>= behind_number number.0

-- what is read is the line of an entry
pub entry_takes : (place : ℕ) (bytes : List ℕ) (e : Entry) (rest : List ℕ) → entry_at place bytes ≡ Some (e, rest) →
    (bytes ≡ entry_text e ++ rest) × IsEntryAt place e
unfolding entry_at
entry_takes place bytes e rest read =
    let (number, first, read₁) = bound (decimal_at 65536 bytes) (with_number place) (e, rest) read in
    let (blank, tested, read₂) = bound (if number.0 == place then after_text (codes " ") number.1 else None) (behind_number number.0) (e, rest) read₁ in
    let (here, second) = guarded (number.0 == place) (after_text (codes " ") number.1) blank tested in
    let (body, third, read₃) = bound (decimal_at 65536 blank) (with_body number.0) (e, rest) read₂ in
    let (next, fourth, read₄) = bound (after_text (codes " ") body.1) (with_gap number.0 body.0) (e, rest) read₃ in
    let (what, fifth, read₅) = bound (what_at next) (with_what number.0 body.0) (e, rest) read₄ in
    let (behind, sixth, is) = bound (after_text (codes "\n") what.1) (as_entry number.0 body.0 what.0) (e, rest) read₅ in
    let (same, left) = same_read (record { number = number.0; body = body.0; what = what.0 }) e behind rest is in
    let (text₁, low) = number_takes 65536 bytes number.0 number.1 (omega arith) first in
    let text₂ = after_takes (codes " ") number.1 blank second in
    let (text₃, small) = number_takes 65536 blank body.0 body.1 (omega arith) third in
    let text₄ = after_takes (codes " ") body.1 next fourth in
    let (text₅, within, typed) = what_takes next what.0 what.1 fifth in
    let text₆ = after_takes (codes "\n") what.1 behind sixth in
    let parts : bytes ≡ decimal number.0 ++ (32 ∷ (decimal body.0 ++ (32 ∷ (what_text what.0 ++ (10 ∷ behind))))) =
    text₁ ∙
    ap (λ b. decimal number.0 ++ b)
    (text₂ ∙ ap (λ b. 32 ∷ b) (text₃ ∙ ap (λ b. decimal body.0 ++ b) (text₄ ∙ ap (λ b. 32 ∷ b) (text₅ ∙ ap (λ b. what_text what.0 ++ b) text₆)))) in
    let whole = parts ∙ sym (line_parts (record { number = number.0; body = body.0; what = what.0 }) behind) ∙
    ap (λ r. entry_text (record { number = number.0; body = body.0; what = what.0 }) ++ r) left in
    let at : number.0 ≡ place = grind (arith, nat_tests, here) in
    subst (λ x. (bytes ≡ entry_text x ++ rest) × IsEntryAt place x) same (whole, record { number = at; body = small; what = within; typed = typed })

-- what is read of a line up to the blank behind its number, which is that of its place
abbrev numbered_front : ℕ → ℕ × List ℕ → Option (List ℕ)
numbered_front place number = if number.0 == place then after_text (codes " ") number.1 else None

-- where the number 0 and a blank do not stand at the front, nothing else was read as those of the first entry
nothing_read : (place : ℕ) (bytes : List ℕ) (o : Option (List ℕ)) → place ≡ 0 → ((more : List ℕ) → bytes ≡ codes "0 " ++ more → ⊥) →
    (decimal_at 65536 bytes >>= numbered_front place) ≡ o → o ≡ None
nothing_read place bytes None at_first lacks read = refl
nothing_read place bytes (Some more) at_first lacks read =
    let (number, first, tested) = bound (decimal_at 65536 bytes) (numbered_front place) more read in
    let (here, second) = guarded (number.0 == place) (after_text (codes " ") number.1) more tested in
    let (text, low) = number_takes 65536 bytes number.0 number.1 (omega arith) first in
    let blank = after_takes (codes " ") number.1 more second in
    let at : number.0 ≡ place = grind (arith, nat_tests, here) in
    absurd (lacks more (text ∙ ap (λ b. decimal number.0 ++ b) blank ∙ ap (λ n. decimal n ++ (32 ∷ more)) (at ∙ at_first) ∙ zero_begins more))

-- where the number 0 and a blank do not stand at the front, they are not read as those of the first entry
pub first_not_read : (place : ℕ) (bytes : List ℕ) → place ≡ 0 → ((more : List ℕ) → bytes ≡ codes "0 " ++ more → ⊥) →
    (decimal_at 65536 bytes >>= (λ number. if number.0 == place then after_text (codes " ") number.1 else None)) ≡ None
first_not_read place bytes at_first lacks = nothing_read place bytes (decimal_at 65536 bytes >>= numbered_front place) at_first lacks refl

-- a header is read
pub header_again : (count : ℕ) (rest : List ℕ) → count ≤ 65536 → header_at (header_text count ++ rest) ≡ Some (count, rest)
unfolding header_at
header_again count rest few =
    let regrouped = append_assoc (decimal count) (10 ∷ []) rest in
    let number = number_again 65537 count (10 ∷ rest) (omega (arith, few)) (omega arith) refl in
    rw (regrouped, number) refl

-- what is read is a header
pub header_takes : (bytes : List ℕ) (count : ℕ) (rest : List ℕ) → header_at bytes ≡ Some (count, rest) →
    (bytes ≡ header_text count ++ rest) × (count ≤ 65536)
unfolding header_at
header_takes bytes count rest read =
    let (front, first, read₁) = bound (after_text (codes "journal 1 ") bytes) after_word (count, rest) read in
    let (number, second, read₂) = bound (decimal_at 65537 front) after_count (count, rest) read₁ in
    let (behind, third, is) = bound (after_text (codes "\n") number.1) (as_header number.0) (count, rest) read₂ in
    let (same, left) = same_read number.0 count behind rest is in
    let text₁ = after_takes (codes "journal 1 ") bytes front first in
    let (text₂, low) = number_takes 65537 front number.0 number.1 (omega arith) second in
    let text₃ = after_takes (codes "\n") number.1 behind third in
    let whole : bytes ≡ header_text number.0 ++ rest =
    text₁ ∙ ap (λ b. codes "journal 1 " ++ b) (text₂ ∙ ap (λ b. decimal number.0 ++ b) (text₃ ∙ ap (λ b. 10 ∷ b) left) ∙ sym (append_assoc (decimal number.0) (10 ∷ []) rest)) in
    subst (λ n. (bytes ≡ header_text n ++ rest) × (n ≤ 65536)) same (whole, omega (arith, low))
  where
    as_header : ℕ → List ℕ → Read ℕ
    as_header count rest = Some (count, rest)

    after_count : ℕ × List ℕ → Read ℕ
    after_count count = after_text (codes "\n") count.1 >>= as_header count.0

    after_word : List ℕ → Read ℕ
    after_word front = decimal_at 65537 front >>= after_count
