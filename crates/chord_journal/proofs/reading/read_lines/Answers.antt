-- The lines so far are right, and then the next is right or wrong.
use Rattle.std.proofs.Common.{◌≡◌, ◌<◌, ◌+◌, ◌∷◌, [], List, ℕ, Err, Result, refl, sym, ◌∙◌, arith, subst, length, length-append}
use Rattle.std.proofs.lemmas.Grind.{common_steps}
use Rattle.chord_base.specs.declared.event.Entry.{Entry}
use Rattle.chord_journal.specs.Wrong.{IsWrongAt}
use Rattle.chord_journal.specs.declared.parts.LineFault.TheVariants as faults
use Rattle.chord_journal.specs.declared.reading.JournalFault.{JournalFault}
use Rattle.chord_journal.specs.declared.reading.JournalFault.TheVariants.{At}
use Rattle.chord_journal.proofs.LineTexts.{header_takes}
use Rattle.chord_journal.proofs.JournalTexts.{no_header, has_entries, lacks_entry, lacks_number, wrong_line, whole_text, begins_next, is_journal, entries_typed}
use Rattle.chord_journal.proofs.reading.read_lines.Goals as goal

-- a fault names one line
named : (j k : ℕ) → ◌≡◌ {A = Result (List Entry) JournalFault} (Err (At j)) (Err (At k)) → j ≡ k
named j k same = cc

pub returns-in-Err-Wrong-clause-wrong : goal.returns-in-Err-Wrong-clause-wrong
returns-in-Err-Wrong-clause-wrong c k same =
    subst (λ line. IsWrongAt c.args.bytes.now line) (named 0 k same)
    (no_header c.args.bytes.now (let read = c.in-Err-Wrong.ensures.read in rw c.in-Err-Wrong.field-0-is at read))

pub loop-place-init : goal.loop-place-init
loop-place-init c =
    let (text, few) = header_takes c.args.bytes.now c.in-Ok.header.0 c.in-Ok.header.1.now c.in-Ok.ensures.read in
    rw c.new-entries.ensures.items (record { long = refl; begun = record { counted = few; few = omega arith; right = tt; text = text } })

pub returns-in-Err-Wrong-read_entry-clause-wrong : goal.returns-in-Err-Wrong-read_entry-clause-wrong
returns-in-Err-Wrong-read_entry-clause-wrong c k same =
    let none = (let read = c.in-Err-Wrong-read_entry.ensures.read in rw c.in-Err-Wrong-read_entry.field-0-is at read) in
    subst (λ line. IsWrongAt c.args.bytes.now line) (named (c.loop-place.place + 1) k same)
    (wrong_line _ _ _ _ c.loop-place.place c.loop-place.invariant.begun c.loop-place.invariant.long c.loop-place-test.true none)

pub returns-in_err-push-in-Ok-read_entry-clause-memory : goal.returns-in_err-push-in-Ok-read_entry-clause-memory
returns-in_err-push-in-Ok-read_entry-clause-memory c memory =
    has_entries c.args.bytes.now c.in-Ok.header.0 c.loop-place.place c.in-Ok.header.1.now c.in-Ok.ensures.read c.loop-place-test.true

pub returns-in-Err-Memory-read_entry-clause-memory : goal.returns-in-Err-Memory-read_entry-clause-memory
returns-in-Err-Memory-read_entry-clause-memory c memory =
    has_entries c.args.bytes.now c.in-Ok.header.0 c.loop-place.place c.in-Ok.header.1.now c.in-Ok.ensures.read c.loop-place-test.true

pub returns-in_err-push-in-Ok-read_entry-clause-first : goal.returns-in_err-push-in-Ok-read_entry-clause-first
returns-in_err-push-in-Ok-read_entry-clause-first c missing memory =
    lacks_entry _ _ _ _ c.loop-place.place c.in-Ok-read_entry.entry c.in-Ok-read_entry.more.now c.loop-place.invariant.begun c.loop-place.invariant.long c.in-Ok-read_entry.ensures.read missing

pub returns-in-Err-Memory-read_entry-clause-first : goal.returns-in-Err-Memory-read_entry-clause-first
returns-in-Err-Memory-read_entry-clause-first c missing memory =
    let unread = lacks_number _ _ _ _ c.loop-place.place c.loop-place.invariant.begun c.loop-place.invariant.long missing in
    let other : faults.Memory ≡ faults.Wrong = sym c.in-Err-Memory-read_entry.field-0-is ∙ c.in-Err-Memory-read_entry.ensures.numbered unread in
    cc

pub loop-place-preserved : goal.loop-place-preserved
loop-place-preserved c =
    let long = c.loop-place.invariant.long in
    let entry = c.in-Ok-read_entry.entry in
    let read = rw (← long) at c.in-Ok-read_entry.ensures.read in
    let less : length c.loop-place.entries.items < c.in-Ok.header.0 = omega (arith, long, c.loop-place-test.true) in
    rw c.in_ok-push-in-Ok-read_entry.ensures.items
    (record {
      long = omega (arith, long, length-append c.loop-place.entries.items (entry ∷ []));
      begun = begins_next _ _ c.loop-place.entries.items _ _ entry c.loop-place.invariant.begun less read;
    })

pub of_entries-requires : goal.of_entries-requires
of_entries-requires c =
    let begun = c.loop-place.invariant.begun in
    is_journal c.loop-place.entries.items (omega (arith, begun.few, begun.counted)) begun.right

pub returns-clause-found : goal.returns-clause-found
returns-clause-found c =
    let begun = c.loop-place.invariant.begun in
    let all : length c.loop-place.entries.items ≡ c.in-Ok.header.0 =
    omega (arith, c.loop-place.invariant.long, c.loop-place-test.false, c.loop-place.auto.place-end) in
    let none : c.loop-place.rest.now ≡ [] = grind (arith, common_steps) in
    rw c.of_entries.ensures (
      whole_text _ _ c.loop-place.entries.items _ begun all none,
      entries_typed 0 c.loop-place.entries.items begun.right,
      is_journal c.loop-place.entries.items (omega (arith, begun.few, begun.counted)) begun.right,
    )
