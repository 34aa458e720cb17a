-- Of each answer what its cause says, and by the laws of texts that no other cause can stand.
use Rattle.std.proofs.Common.{◌≡◌, List, ℕ, Ok, Err, Result, ap, sym, ◌∙◌, refl, [], inl, inr, arith, IfOk}
use Rattle.chord_base.specs.Bounds.{IsJournal}
use Rattle.chord_base.specs.declared.event.Entry.{Entry}
use Rattle.chord_journal.specs.Text.{journal_text}
use Rattle.chord_journal.specs.Typed.{AreTyped}
use Rattle.chord_journal.specs.Wrong.{IsWrongAt, HasNoHeader, HasEntries, HasNoFirst, UnlessMemory}
use Rattle.chord_journal.specs.declared.reading.JournalFault.{JournalFault}
use Rattle.chord_journal.specs.declared.reading.JournalFault.TheVariants.{Memory, At}
use Rattle.chord_journal.proofs.JournalTexts.{is_journal, same_journal, text_not_wrong, wrong_once, none_counted, first_line_wrong}
use Rattle.chord_journal.proofs.reading.read.Goals as goal

-- what was read has these bytes as its text
abbrev Found : List ℕ → List Entry → Type 0
Found bytes journal = (bytes ≡ journal_text journal) × AreTyped journal × IsJournal journal

-- a line that is named is the least that is wrong
abbrev Named : List ℕ → Result (List Entry) JournalFault → Type 0
Named bytes answer = (k : ℕ) → answer ≡ Err (At k) → IsWrongAt bytes k

only : (bytes : List ℕ) (answer : Result (List Entry) JournalFault) → IfOk answer (Found bytes) → Named bytes answer → (journal : List Entry) →
    IsJournal journal → AreTyped journal → bytes ≡ journal_text journal → UnlessMemory answer (Ok journal)
only bytes (Ok other) found named journal is typed text =
    inr (ap (λ (es : List Entry). Ok es) (same_journal other journal found.2 found.1 is typed (sym found.0 ∙ text)))
only bytes (Err Memory) found named journal is typed text = inl refl
only bytes (Err (At k)) found named journal is typed text = absurd (text_not_wrong journal bytes k is typed text (named k refl))

only_wrong : (bytes : List ℕ) (answer : Result (List Entry) JournalFault) → IfOk answer (Found bytes) → Named bytes answer → (k : ℕ) → IsWrongAt bytes k →
    UnlessMemory answer (Err (At k))
only_wrong bytes (Ok journal) found named k wrong = absurd (text_not_wrong journal bytes k found.2 found.1 found.0 wrong)
only_wrong bytes (Err Memory) found named k wrong = inl refl
only_wrong bytes (Err (At j)) found named k wrong = inr (ap (λ (i : ℕ). Err (At i)) (wrong_once bytes j k (named j refl) wrong))

-- memory runs out behind a header that counts an entry alone
abbrev OnlyBehindHeader : List ℕ → Result (List Entry) JournalFault → Type 0
OnlyBehindHeader bytes answer = answer ≡ Err Memory → HasEntries bytes

header : (bytes : List ℕ) (answer : Result (List Entry) JournalFault) → IfOk answer (Found bytes) → Named bytes answer → OnlyBehindHeader bytes answer →
    HasNoHeader bytes → answer ≡ Err (At 0)
header bytes answer found named memory none =
    elim (only_wrong bytes answer found named 0 none) [
      | inl out ↦ let (count, rest, some, few, text) = memory out in absurd (none count rest few text)
      | inr told ↦ told
    ]

first : (bytes : List ℕ) (answer : Result (List Entry) JournalFault) → IfOk answer (Found bytes) → Named bytes answer → (HasNoFirst bytes → answer ≡ Err Memory → ⊥) →
    HasNoFirst bytes → answer ≡ Err (At 1)
first bytes answer found named held missing =
    elim (only_wrong bytes answer found named 1 (first_line_wrong bytes missing)) [
      | inl out ↦ absurd (held missing out)
      | inr told ↦ told
    ]

empty : (bytes : List ℕ) (answer : Result (List Entry) JournalFault) → IfOk answer (Found bytes) → Named bytes answer → OnlyBehindHeader bytes answer →
    bytes ≡ journal_text [] → answer ≡ Ok []
empty bytes answer found named memory text =
    elim (only bytes answer found named [] (is_journal [] (omega arith) tt) tt text) [
      | inl out ↦ absurd (none_counted bytes text (memory out))
      | inr read ↦ read
    ]

pub returns-clause-only : goal.returns-clause-only
returns-clause-only c = only c.args.bytes.now c.read_lines.result c.read_lines.ensures.found c.read_lines.ensures.wrong

pub returns-clause-only_wrong : goal.returns-clause-only_wrong
returns-clause-only_wrong c = only_wrong c.args.bytes.now c.read_lines.result c.read_lines.ensures.found c.read_lines.ensures.wrong

pub returns-clause-header : goal.returns-clause-header
returns-clause-header c = header c.args.bytes.now c.read_lines.result c.read_lines.ensures.found c.read_lines.ensures.wrong c.read_lines.ensures.memory

pub returns-clause-first : goal.returns-clause-first
returns-clause-first c = first c.args.bytes.now c.read_lines.result c.read_lines.ensures.found c.read_lines.ensures.wrong c.read_lines.ensures.first

pub returns-clause-empty : goal.returns-clause-empty
returns-clause-empty c = empty c.args.bytes.now c.read_lines.result c.read_lines.ensures.found c.read_lines.ensures.wrong c.read_lines.ensures.memory
