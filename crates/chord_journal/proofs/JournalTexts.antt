-- Journals: what is read has their text, their text is read, and one line at most is the least that is wrong.
use Rattle.std.proofs.Common.{◌≡◌, ℕ, zero, suc, ◌<◌, ◌≤◌, ◌+◌, List, [], ◌∷◌, ◌++◌, length, reverse, Some, None, refl, ap, sym, ◌∙◌, append_assoc, append-nil, arith, subst, inl, inr, length-append, add-one}
use Rattle.std.specs.Prelude.{◌==◌, codes, if◌then◌else◌}
use Rattle.std.specs.List.{flat_map}
use Rattle.std.proofs.lemmas.Grind.{flat_map-append}
use Rattle.std.proofs.lemmas.List.{reverse-append}
use Rattle.std.proofs.lemmas.Bool.{cases_lt}
use Rattle.chord_base.specs.Bounds.{AreWithin, IsJournal}
use Rattle.chord_base.specs.declared.event.Entry.{Entry}
use Rattle.chord_journal.specs.Text.{entry_text, header_text, journal_text}
use Rattle.chord_journal.specs.Typed.{AreTyped}
use Rattle.chord_journal.specs.Wrong.{IsEntryAt, AreEntriesFrom, BeginsWithLines, HasNoHeader, HasEntries, HasNoFirst, HasNoEntry, IsWrongBehind, IsWrongAt}
use Rattle.chord_journal.specs.Reading.{◌>>=◌, after_text, decimal_at, entry_at, header_at}
use Rattle.chord_journal.proofs.Binds.{same_read}
use Rattle.chord_journal.proofs.LineTexts.{entry_again, entry_takes, first_begins, first_not_read, header_again, header_takes}

-- where no header is read, none stands there
pub no_header : (bytes : List ℕ) → header_at bytes ≡ None → HasNoHeader bytes
no_header bytes none count rest few is =
    let read = header_again count rest few in
    let other = ap header_at is in
    absurd (cc)

-- a header that was read counts an entry, where a place stands below its count
pub has_entries : (bytes : List ℕ) (count place : ℕ) (rest : List ℕ) → header_at bytes ≡ Some (count, rest) → place < count → HasEntries bytes
has_entries bytes count place rest read below =
    let (text, few) = header_takes bytes count rest read in
    (count, rest, omega (arith, below), few, text)

-- the header of the journal without an entry counts none
pub none_counted : (bytes : List ℕ) → bytes ≡ journal_text [] → HasEntries bytes → ⊥
none_counted bytes text (count, rest, some, few, header) =
    let (none, last) = same_read count 0 rest [] (sym (header_again count rest few) ∙ ap header_at (sym header ∙ text) ∙ header_again 0 [] (omega arith)) in
    omega (arith, some, none)

-- where no line is read, none stands there
pub no_entry_text : (place : ℕ) (bytes : List ℕ) → place < 65536 → entry_at place bytes ≡ None → HasNoEntry place bytes
no_entry_text place bytes low none e rest right is =
    let read = entry_again place e rest right low in
    let other = ap (λ b. entry_at place b) is in
    absurd (cc)

-- one more entry behind those with the numbers before its own
entries_push : (place : ℕ) (es : List Entry) (e : Entry) → AreEntriesFrom place es → IsEntryAt (place + length es) e → AreEntriesFrom place (es ++ (e ∷ []))
entries_push place [] e all here = (let at : place + 0 ≡ place = omega arith in (subst (λ p. IsEntryAt p e) at here, tt))
entries_push place (x ∷ es) e (first, all) here =
    let at : place + length (x ∷ es) ≡ place + 1 + length es = omega arith in
    (first, entries_push (place + 1) es e all (subst (λ p. IsEntryAt p e) at here))

-- a line that is read is right behind right ones
pub begins_next : (bytes : List ℕ) (count : ℕ) (es : List Entry) (rest more : List ℕ) (e : Entry) → BeginsWithLines bytes count es rest → length es < count →
    entry_at (length es) rest ≡ Some (e, more) → BeginsWithLines bytes count (es ++ (e ∷ [])) more
begins_next bytes count es rest more e begun less read =
    let (text, right) = entry_takes (length es) rest e more read in
    let at : length es ≡ 0 + length es = omega arith in
    let lines : flat_map entry_text es ++ rest ≡ flat_map entry_text (es ++ (e ∷ [])) ++ more =
    ap (λ b. flat_map entry_text es ++ b) text ∙ sym (append_assoc (flat_map entry_text es) (entry_text e) more) ∙
    ap (λ b. b ++ more) (sym (flat_map-append entry_text es (e ∷ []) ∙ ap (λ b. flat_map entry_text es ++ b) (append-nil (entry_text e)))) in
    record {
      counted = begun.counted;
      few = omega (arith, less, length-append es (e ∷ []));
      right = entries_push 0 es e begun.right (subst (λ p. IsEntryAt p e) at right);
      text = begun.text ∙ ap (λ b. header_text count ++ b) lines;
    }

-- entries are turned round one by one
turned : (e : Entry) (es h : List Entry) → reverse (e ∷ es) ++ h ≡ reverse es ++ (e ∷ h)
turned e es h = ap (λ xs. xs ++ h) (reverse-append (e ∷ []) es) ∙ append_assoc (reverse es) (e ∷ []) h

-- entries with the numbers from 0 on are a journal's
within_from : (es h : List Entry) → AreWithin h → AreEntriesFrom (length h) es → AreWithin (reverse es ++ h)
within_from [] h before all = before
within_from (e ∷ es) h before (here, all) =
    let at : length h + 1 ≡ length (e ∷ h) = omega arith in
    rw (turned e es h) (within_from es (e ∷ h) (before, here.number, here.body, here.what) (subst (λ p. AreEntriesFrom p es) at all))

-- at most 65,536 entries that are read one after another from number 0 are a journal
pub is_journal : (es : List Entry) → length es ≤ 65536 → AreEntriesFrom 0 es → IsJournal es
is_journal es few all = record { few = few; within = rw (append-nil (reverse es)) at (within_from es [] tt all) }

-- what stands before a journal's entries is a journal
within_behind : (xs h : List Entry) → AreWithin (xs ++ h) → AreWithin h
within_behind [] h within = within
within_behind (x ∷ xs) h within = within_behind xs h within.0

-- a journal's entries have the numbers from 0 on
from_within : (es h : List Entry) → AreWithin (reverse es ++ h) → AreTyped es → AreEntriesFrom (length h) es
from_within [] h within typed = tt
from_within (e ∷ es) h within (of_e, typed) =
    let all = rw (turned e es h) at within in
    let (before, number, body, what) = within_behind (reverse es) (e ∷ h) all in
    let at : length (e ∷ h) ≡ length h + 1 = omega arith in
    (record { number = number; body = body; what = what; typed = of_e }, subst (λ p. AreEntriesFrom p es) at (from_within es (e ∷ h) all typed))

-- the entries of a journal whose parts have their types are such ones
pub journal_entries : (es : List Entry) → IsJournal es → AreTyped es → AreEntriesFrom 0 es
journal_entries es journal typed = from_within es [] (rw (append-nil (reverse es)) journal.within) typed

-- entries that were read have parts of their types
pub entries_typed : (place : ℕ) (es : List Entry) → AreEntriesFrom place es → AreTyped es
entries_typed place [] all = tt
entries_typed place (e ∷ es) (here, all) = (here.typed, entries_typed (place + 1) es all)

-- of two ways to read lines, the longer goes on where the shorter ends
record LinesGoOn (place : ℕ) (es fs : List Entry) (rest more : List ℕ) : Type 0 where
  others : List Entry
  entries : fs ≡ es ++ others
  lines : rest ≡ flat_map entry_text others ++ more
  right : AreEntriesFrom (place + length es) others

-- of two ways to read lines at the front of the same bytes, the longer goes on where the shorter ends
goes_on : (place : ℕ) (es fs : List Entry) (rest more : List ℕ) → AreEntriesFrom place es → AreEntriesFrom place fs → place + length fs ≤ 65536 →
    length es ≤ length fs → flat_map entry_text es ++ rest ≡ flat_map entry_text fs ++ more → LinesGoOn place es fs rest more
goes_on place [] fs rest more all these low few same =
    let at : place ≡ place + 0 = omega arith in
    record { others = fs; entries = refl; lines = same; right = subst (λ p. AreEntriesFrom p fs) at these }
goes_on place (e ∷ es) [] rest more all these low few same = absurd (omega (arith, few))
goes_on place (e ∷ es) (f ∷ fs) rest more (here, all) (there, these) low few same =
    let below : place < 65536 = omega (arith, low) in
    let left = append_assoc (entry_text e) (flat_map entry_text es) rest in
    let right = append_assoc (entry_text f) (flat_map entry_text fs) more in
    let first = entry_again place e (flat_map entry_text es ++ rest) here below in
    let second = entry_again place f (flat_map entry_text fs ++ more) there below in
    let both = sym first ∙ ap (λ b. entry_at place b) (sym left ∙ same ∙ right) ∙ second in
    let (entry, behind) = same_read e f (flat_map entry_text es ++ rest) (flat_map entry_text fs ++ more) both in
    let on = goes_on (place + 1) es fs rest more all these (omega (arith, low)) (omega (arith, few)) behind in
    let at : place + 1 + length es ≡ place + length (e ∷ es) = omega arith in
    record {
      others = on.others;
      entries = ap (λ xs. f ∷ xs) on.entries ∙ ap (λ x. x ∷ (es ++ on.others)) (sym entry);
      lines = on.lines;
      right = subst (λ p. AreEntriesFrom p on.others) at on.right;
    }

-- bytes have one header
same_header : (n m : ℕ) (x y : List ℕ) → n ≤ 65536 → m ≤ 65536 → header_text n ++ x ≡ header_text m ++ y → (n ≡ m) × (x ≡ y)
same_header n m x y low few same = same_read n m x y (sym (header_again n x low) ∙ ap header_at same ∙ header_again m y few)

-- no entries are left where the lengths are the same
none_left : (others : List Entry) → length others ≡ 0 → others ≡ []
none_left [] none = refl
none_left (e ∷ others) none = absurd (omega (arith, none))

-- two journals with one text are one
pub same_journal : (es fs : List Entry) → IsJournal es → AreTyped es → IsJournal fs → AreTyped fs → journal_text es ≡ journal_text fs → es ≡ fs
same_journal es fs journal typed other types same =
    let (long, lines) = same_header (length es) (length fs) (flat_map entry_text es) (flat_map entry_text fs) journal.few other.few same in
    let ended = append-nil (flat_map entry_text es) ∙ lines ∙ sym (append-nil (flat_map entry_text fs)) in
    let on = goes_on 0 es fs [] [] (journal_entries es journal typed) (journal_entries fs other types) (omega (arith, other.few)) (omega (arith, long)) ended in
    let none = none_left on.others (omega (arith, ap length on.entries, length-append es on.others, long)) in
    sym (on.entries ∙ ap (λ xs. es ++ xs) none ∙ append-nil es)

-- bytes that begin right in two ways have one count
same_count : (bytes : List ℕ) (n m : ℕ) (es fs : List Entry) (rest more : List ℕ) → BeginsWithLines bytes n es rest → BeginsWithLines bytes m fs more →
    (n ≡ m) × (flat_map entry_text es ++ rest ≡ flat_map entry_text fs ++ more)
same_count bytes n m es fs rest more begun also =
    same_header n m (flat_map entry_text es ++ rest) (flat_map entry_text fs ++ more) begun.counted also.counted (sym begun.text ∙ also.text)

-- where a line behind right ones is wrong, no more lines are right
wrong_stops : (count place : ℕ) (rest : List ℕ) (others : List Entry) (more : List ℕ) → IsWrongBehind count place rest → place + length others ≤ count →
    AreEntriesFrom place others → rest ≡ flat_map entry_text others ++ more → (place ≡ count → length more ≡ 0) → (others ≡ [] → place < count → ⊥) → ⊥
wrong_stops count place rest [] more (inl (less, none)) few all lines ended due = due refl less
wrong_stops count place rest [] more (inr (last, some)) few all lines ended due =
    let long = ap length lines in
    let nothing = ended last in
    omega (arith, some, long, nothing)
wrong_stops count place rest (e ∷ others) more (inl (less, none)) few (here, all) lines ended due =
    none e (flat_map entry_text others ++ more) here (lines ∙ append_assoc (entry_text e) (flat_map entry_text others) more)
wrong_stops count place rest (e ∷ others) more (inr (last, some)) few all lines ended due = omega (arith, few, last)

-- no line of a journal's text is wrong
pub text_not_wrong : (es : List Entry) (bytes : List ℕ) (k : ℕ) → IsJournal es → AreTyped es → bytes ≡ journal_text es → IsWrongAt bytes k → ⊥
text_not_wrong es bytes zero journal typed text none = none (length es) (flat_map entry_text es) journal.few text
text_not_wrong es bytes (suc place) journal typed text (count, front, rest, begun, long, wrong) =
    let all = journal_entries es journal typed in
    let whole : BeginsWithLines bytes (length es) es [] =
    record {
      counted = journal.few;
      few = omega arith;
      right = all;
      text = text ∙ ap (λ b. header_text (length es) ++ b) (sym (append-nil (flat_map entry_text es)));
    } in
    let (counts, lines) = same_count bytes count (length es) front es rest [] begun whole in
    let on = goes_on 0 front es rest [] begun.right all (omega (arith, journal.few)) (omega (arith, begun.few, counts)) lines in
    let at : 0 + length front ≡ place = omega (arith, long) in
    let sum = ap length on.entries ∙ length-append front on.others in
    wrong_stops count place rest on.others [] wrong (omega (arith, sum, long, counts)) (subst (λ p. AreEntriesFrom p on.others) at on.right) on.lines (λ last. refl)
    (λ none less. (let zero = ap length none in omega (arith, less, sum, long, counts, zero)))

-- of two lines that are each the least wrong one, none is before the other
wrong_first : (bytes : List ℕ) (j k : ℕ) → IsWrongAt bytes j → IsWrongAt bytes k → j < k → ⊥
wrong_first bytes j zero wrong other less = omega (arith, less)
wrong_first bytes zero (suc place) none (count, front, rest, begun, long, wrong) less =
    none count (flat_map entry_text front ++ rest) begun.counted begun.text
wrong_first bytes (suc place) (suc later) (count, front, rest, begun, long, wrong) (counted, longer, more, further, length_, also) less =
    let (counts, lines) = same_count bytes count counted front longer rest more begun further in
    let on = goes_on 0 front longer rest more begun.right further.right (omega (arith, further.few, further.counted)) (omega (arith, less, long, length_)) lines in
    let at : 0 + length front ≡ place = omega (arith, long) in
    let sum = ap length on.entries ∙ length-append front on.others in
    wrong_stops count place rest on.others more wrong (omega (arith, sum, long, length_, counts, further.few)) (subst (λ p. AreEntriesFrom p on.others) at on.right) on.lines
    (λ last. absurd (omega (arith, last, less, length_, counts, further.few)))
    (λ none due. (let zero = ap length none in omega (arith, less, sum, long, length_, zero)))

-- one line at most is the least that is wrong
pub wrong_once : (bytes : List ℕ) (j k : ℕ) → IsWrongAt bytes j → IsWrongAt bytes k → j ≡ k
wrong_once bytes j k wrong other =
    elim (cases_lt j k) [
      | inl before ↦ absurd (wrong_first bytes j k wrong other before)
      | inr behind ↦
          elim (cases_lt k j) [
            | inl after ↦ absurd (wrong_first bytes k j other wrong after)
            | inr equal ↦ omega (arith, behind, equal)
          ]
    ]

-- the line behind right ones is the least that is wrong, where it is due and not read
pub wrong_line : (bytes : List ℕ) (count : ℕ) (es : List Entry) (rest : List ℕ) (place : ℕ) → BeginsWithLines bytes count es rest → length es ≡ place → place < count →
    entry_at place rest ≡ None → IsWrongAt bytes (place + 1)
wrong_line bytes count es rest place begun long less none =
    rw (add-one place) (count, es, rest, begun, long, inl (less, no_entry_text place rest (omega (arith, less, begun.counted)) none))

-- right lines with nothing behind them are the text, where they are all
pub whole_text : (bytes : List ℕ) (count : ℕ) (es : List Entry) (rest : List ℕ) → BeginsWithLines bytes count es rest → length es ≡ count → rest ≡ [] →
    bytes ≡ journal_text es
whole_text bytes count es rest begun all none =
    begun.text ∙ ap (λ n. header_text n ++ (flat_map entry_text es ++ rest)) (sym all) ∙
    ap (λ b. header_text (length es) ++ b) (ap (λ r. flat_map entry_text es ++ r) none ∙ append-nil (flat_map entry_text es))

-- where the number of the first entry is missing, no line was read, and what follows the header is left
lacks_first : (bytes : List ℕ) (count : ℕ) (es : List Entry) (rest : List ℕ) → BeginsWithLines bytes count es rest → HasNoFirst bytes →
    (length es ≡ 0) × ((more : List ℕ) → rest ≡ codes "0 " ++ more → ⊥)
lacks_first bytes count [] rest begun (counted, behind, some, few, text, lacks) =
    let (same, left) = same_header count counted rest behind begun.counted few (sym begun.text ∙ text) in
    (refl, λ more is. lacks more (sym left ∙ is))
lacks_first bytes count (e ∷ es) rest begun (counted, behind, some, few, text, lacks) =
    let (same, left) = same_header count counted (flat_map entry_text (e ∷ es) ++ rest) behind begun.counted few (sym begun.text ∙ text) in
    let (more, line) = first_begins e (flat_map entry_text es ++ rest) begun.right.0.number in
    absurd (lacks more (sym left ∙ append_assoc (entry_text e) (flat_map entry_text es) rest ∙ line))

-- where it is missing, it is not read as that of the line that is due
pub lacks_number : (bytes : List ℕ) (count : ℕ) (es : List Entry) (rest : List ℕ) (place : ℕ) → BeginsWithLines bytes count es rest → length es ≡ place → HasNoFirst bytes →
    (decimal_at 65536 rest >>= (λ number. if number.0 == place then after_text (codes " ") number.1 else None)) ≡ None
lacks_number bytes count es rest place begun long missing =
    let (at_first, lacks) = lacks_first bytes count es rest begun missing in
    first_not_read place rest (sym long ∙ at_first) lacks

-- where it is missing, no line is read
pub lacks_entry : (bytes : List ℕ) (count : ℕ) (es : List Entry) (rest : List ℕ) (place : ℕ) (e : Entry) (more : List ℕ) → BeginsWithLines bytes count es rest → length es ≡ place →
    entry_at place rest ≡ Some (e, more) → HasNoFirst bytes → ⊥
lacks_entry bytes count es rest place e more begun long read missing =
    let (at_first, lacks) = lacks_first bytes count es rest begun missing in
    let (text, right) = entry_takes place rest e more read in
    let (behind, line) = first_begins e more (right.number ∙ sym long ∙ at_first) in
    lacks behind (text ∙ line)

-- where it is missing, the first line behind the header is the least that is wrong
pub first_line_wrong : (bytes : List ℕ) → HasNoFirst bytes → IsWrongAt bytes 1
first_line_wrong bytes (count, rest, some, few, text, lacks) =
    let none : HasNoEntry 0 rest = λ e more right is. (let (behind, line) = first_begins e more right.number in lacks behind (is ∙ line)) in
    (count, [], rest, record { counted = few; few = omega arith; right = tt; text = text }, refl, inl (some, none))
