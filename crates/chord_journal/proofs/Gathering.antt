-- In the order of their numbers, the entries of a journal are the journal.
use Rattle.std.proofs.Common.{◌≡◌, ℕ, zero, suc, ◌<◌, ◌≤◌, ◌+◌, ◌-◌, List, [], ◌∷◌, ◌++◌, length, take, reverse, get_or, refl, ap, sym, ◌∙◌, arith, add-one, inl, inr}
use Rattle.std.specs.Prelude.{All}
use Rattle.std.specs.List.Sorted.{IsNonDecreasingBy, IsPermutation}
use Rattle.std.proofs.lemmas.List.{length-reverse, reverse-append, get_or_default, length-take-le, take_all}
use Rattle.std.proofs.lemmas.List.Sorted.{All-permutation, Contains-permutation, length_permutation}
use Rattle.std.proofs.lemmas.Bool.{cases_lt}
use Rattle.chord_base.specs.Bounds.{AreWithin, IsJournal}
use Rattle.chord_base.specs.declared.event.Entry.{Entry}
use Rattle.chord_io.proofs.Joined.{before_next}
use Rattle.chord_journal.specs.Gathered.{IsEntryWithin, AreOfJournal, StandInPlace}

-- each entry has the number of its place
abbrev pub AreInPlace : List Entry → Type 0
AreInPlace es = StandInPlace (length es) es

-- each number below the length stands at a place
abbrev HasEach : List Entry → Entry → Type 0
HasEach es d = (k : ℕ) → k < length es → (j : ℕ) × (j < length es) × ((get_or es j d).number ≡ k)

-- where the numbers never fall, a place with a greater number lies behind
behind : (es : List Entry) (d : Entry) → IsNonDecreasingBy (λ e. e.number) es → (i j : ℕ) → i < length es → (get_or es i d).number < (get_or es j d).number → i < j
behind es d rising i j within less =
    elim (cases_lt i j) [ inl before ↦ before | inr after ↦ (let no = rising j i d after within in absurd (omega (arith, no, less))) ]

-- a number stands at no place before its own
not_before : (es : List Entry) (d : Entry) → IsNonDecreasingBy (λ e. e.number) es → HasEach es d → (k j : ℕ) → k < length es → j < length es → (get_or es j d).number ≡ k → k ≤ j
not_before es d rising each zero j below within at = omega arith
not_before es d rising each (suc k) j below within at =
    let (i, inside, here) = each k (omega (arith, below)) in
    let before = not_before es d rising each k i (omega (arith, below)) inside here in
    let step = behind es d rising i j inside (omega (arith, here, at)) in
    omega (arith, before, step)

-- a number stands at no place behind its own
not_behind : (es : List Entry) (d : Entry) → IsNonDecreasingBy (λ e. e.number) es → HasEach es d → (m k j : ℕ) → k + (m + 1) ≡ length es → j < length es → (get_or es j d).number ≡ k → j ≤ k
not_behind es d rising each zero k j end within at = omega (arith, end, within)
not_behind es d rising each (suc m) k j end within at =
    let (i, inside, here) = each (k + 1) (omega (arith, end)) in
    let after = not_behind es d rising each m (k + 1) i (omega (arith, end)) inside here in
    let step = behind es d rising j i within (omega (arith, here, at)) in
    omega (arith, after, step)

-- where the numbers never fall and each stands at a place, each entry has the number of its place
in_place : (es : List Entry) → IsNonDecreasingBy (λ e. e.number) es → ((d : Entry) → HasEach es d) → AreInPlace es
in_place es rising each i d within =
    let (j, inside, here) = each d i within in
    let low = not_before es d rising (each d) i j within inside here in
    let high = not_behind es d rising (each d) (length es - (i + 1)) i j (omega (arith, within)) inside here in
    let same : j ≡ i = omega (arith, low, high) in
    rw same at here

-- of entries in another order, each number stands at a place
has_each : (es sorted : List Entry) → AreOfJournal es → IsPermutation es sorted → (d : Entry) → HasEach sorted d
has_each es sorted given moved d k below =
    let long = length_permutation es sorted moved in
    let (i, e, inside, is, numbered) = given.numbered k (omega (arith, below, long)) in
    let (j, within, at) = Contains-permutation es sorted e moved (i, inside, is) in
    (j, within, ap (λ (x : Entry). x.number) (get_or_default sorted j d e within ∙ at) ∙ numbered)

-- of entries in their places within their bounds, the first ones are a journal's
within_front : (es : List Entry) (d : Entry) (n : ℕ) → n ≤ length es → AreInPlace es → All IsEntryWithin es → AreWithin (reverse (take n es))
within_front es d zero few place within = tt
within_front es d (suc n) few place within =
    let inside : n < length es = few in
    let e = get_or es n d in
    let front = within_front es d n (omega (arith, inside)) place within in
    let here = place n d inside in
    let bounds = within n d inside in
    let long : length (reverse (take n es)) ≡ n = length-reverse (take n es) ∙ length-take-le n es (omega (arith, inside)) in
    let next : take (suc n) es ≡ take n es ++ (e ∷ []) = rw (← add-one n) (before_next es n e d inside refl) in
    rw (next, reverse-append (take n es) (e ∷ [])) (front, here ∙ sym long, bounds.body, bounds.what)

-- entries in their places within their bounds are a journal's
all_within : (es : List Entry) → AreInPlace es → All IsEntryWithin es → AreWithin (reverse es)
all_within [] place within = tt
all_within (e ∷ es) place within =
    rw (take_all (length (e ∷ es)) (e ∷ es) (omega arith)) at (within_front (e ∷ es) e (length (e ∷ es)) (omega arith) place within)

-- sorted, the entries of a journal stand in their places
pub sorted_in_place : (es sorted : List Entry) → AreOfJournal es → IsPermutation es sorted → IsNonDecreasingBy (λ e. e.number) sorted → AreInPlace sorted
sorted_in_place es sorted given moved rising = in_place sorted rising (has_each es sorted given moved)

-- the entries of a journal in their places are a journal
pub placed_is_journal : (es placed : List Entry) → AreOfJournal es → IsPermutation es placed → AreInPlace placed → IsJournal placed
placed_is_journal es placed given moved place =
    let long = length_permutation es placed moved in
    record {
      few = omega (arith, long, given.few);
      within = all_within placed place (All-permutation IsEntryWithin es placed moved given.within);
    }

-- in another order, entries of a journal are of one still
pub of_journal_moved : (es moved : List Entry) → AreOfJournal es → IsPermutation es moved → AreOfJournal moved
of_journal_moved es moved given turned =
    let long = length_permutation es moved turned in
    record {
      few = rw long given.few;
      within = All-permutation IsEntryWithin es moved turned given.within;
      numbered = λ n below.
          let (i, e, inside, is, numbered) = given.numbered n (omega (arith, below, long)) in
          let (j, within, at) = Contains-permutation es moved e turned (i, inside, is) in
          (j, e, within, at, numbered);
    }
