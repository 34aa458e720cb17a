-- The arguments of messages are taken one after another.
use Rattle.std.proofs.Common.{◌≡◌, ℕ, zero, suc, ◌+◌, ◌<◌, ◌≤◌, List, [], ◌∷◌, ◌++◌, length, Some, sym, ap, ◌∙◌, arith, take, get_or, reverse}
use Rattle.std.proofs.lemmas.List.{append-nil, append_assoc, length-append, reverse-reverse}
use Rattle.std.specs.Prelude.{slice_get}
use Rattle.chord_base.specs.declared.value.Object.{Object}
use Rattle.chord_base.specs.declared.value.Value.{Value}
use Rattle.chord_base.specs.declared.event.Entry.{Entry}
use Rattle.chord_base.specs.Messages.{Message, pending}
use Rattle.chord_base.specs.Machine.{Takes}
use Rattle.chord_base.specs.Bounds.{AreWithin}
use Rattle.chord_lists.specs.CodeStands.{entry_message, message_at, IsMessageAt, AreMessagesAt, sent_arguments, sent_values}
use Rattle.chord_lists.proofs.PendingEntries.{pending_entry}

-- the values of one more message come last
pub values_more : (entries : List Entry) (ns : List ℕ) (n : ℕ) → sent_values entries (ns ++ n ∷ []) ≡ sent_values entries ns ++ sent_arguments (message_at entries n)
values_more entries [] n = append-nil (sent_arguments (message_at entries n))
values_more entries (i ∷ ns) n =
    ap (λ l. sent_arguments (message_at entries i) ++ l) (values_more entries ns n)
    ∙ sym (append_assoc (sent_arguments (message_at entries i)) (sent_values entries ns) (sent_arguments (message_at entries n)))

-- of numbers of messages, each is one
pub message_there : (entries : List Entry) (ns : List ℕ) (k : ℕ) → k < length ns → AreMessagesAt entries ns → IsMessageAt entries (get_or ns k 0)
message_there entries [] k l a = absurd (omega (arith, l))
message_there entries (n ∷ ns) zero l a = a.0
message_there entries (n ∷ ns) (suc k) l a = message_there entries ns k (omega (arith, l)) a.1

-- the values of the messages before one, and its own, are no more than those of all
pub few_laid : (entries : List Entry) (ns : List ℕ) (k : ℕ) → k < length ns → length (sent_values entries (take k ns)) + length (sent_arguments (message_at entries (get_or ns k 0))) ≤ length (sent_values entries ns)
few_laid entries [] k l = absurd (omega (arith, l))
few_laid entries (n ∷ ns) zero l = let all = length-append (sent_arguments (message_at entries n)) (sent_values entries ns) in omega (arith, all)
few_laid entries (n ∷ ns) (suc k) l =
    let own = sent_arguments (message_at entries n) in
    let rest = few_laid entries ns k (omega (arith, l)) in
    let before = length-append own (sent_values entries (take k ns)) in
    let all = length-append own (sent_values entries ns) in
    omega (arith, rest, before, all)

-- a pending message is the entry of its number in the list of all
pub pending_at : (entries h : List Entry) (q : ℕ) (m : Message) → reverse entries ≡ h → AreWithin h → pending q h ≡ Some m → message_at entries q ≡ Some m
pending_at entries h q m is within e =
    let x = pending_entry h q m within e in
    let there : slice_get entries q ≡ Some x.0 = ap (λ l. slice_get l q) (sym (reverse-reverse entries) ∙ ap reverse is) ∙ x.1 in
    ap entry_message there ∙ x.2

-- what a firing takes are messages, and their arguments are its values
pub takes_sent : (entries h : List Entry) (o : Object) (js ms : List ℕ) (vs : List Value) → reverse entries ≡ h → AreWithin h → Takes h o js ms vs → AreMessagesAt entries ms × (sent_values entries ms ≡ vs)
takes_sent entries h o [] [] vs is within t = (tt, sym t)
takes_sent entries h o [] (i ∷ ms) vs is within t = absurd t
takes_sent entries h o (j ∷ js) [] vs is within t = absurd t
takes_sent entries h o (j ∷ js) (i ∷ ms) vs is within t =
    let m : Message = record { object = o; method = j; arguments = t.0 } in
    let k = pending_at entries h i m is within t.2 in
    let r = takes_sent entries h o js ms t.1 is within t.4 in
    (((m, k), r.0), ap (λ x. x ++ sent_values entries ms) (ap sent_arguments k) ∙ ap (λ x. t.0 ++ x) r.1 ∙ sym t.3)
