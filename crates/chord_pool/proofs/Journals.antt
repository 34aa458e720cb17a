-- The entries of a run in some order are those of a journal, and the journal that has them is the run.
use Rattle.std.proofs.Common.{◌≡◌, inl, inr, ℕ, zero, suc, ◌<◌, ◌≤◌, List, [], ◌∷◌, ◌++◌, length, reverse, refl, sym, ap, ◌∙◌, arith, Vec, Global}
use Rattle.std.proofs.lemmas.List.{length-append}
use Rattle.std.specs.Prelude.{All, Contains}
use Rattle.std.specs.List.Sorted.{IsPermutation}
use Rattle.std.proofs.lemmas.List.Elements.{All-nil, All-cons}
use Rattle.std.proofs.lemmas.List.Sorted.{All-permutation, Contains-permutation, length_permutation, IsPermutation-trans, IsPermutation-sym, IsPermutation-reverse}
use mathlib.Core.Logic.{dite}
use native.Mathlib.Decide.{ℕ_discrete}
use Rattle.chord_base.specs.Bounds.{AreWithin, IsJournal}
use Rattle.chord_base.specs.Story.{IsIn, AreNumbered}
use Rattle.chord_base.specs.declared.event.Entry.{Entry}
use Rattle.chord_base.proofs.Collected.{collected}
use Rattle.chord_journal.specs.Gathered.{IsEntryWithin, AreOfJournal}

-- an entry that stands in a list is contained in it
pub contains_of : (e : Entry) (h : List Entry) → IsIn e h → Contains h e
contains_of e [] i = absurd i
contains_of e (x ∷ h) (inl y) = (0, omega arith, sym y)
contains_of e (x ∷ h) (inr y) = let c = contains_of e h y in (suc c.0, omega (arith, c.1), c.2)

-- and the other way round
pub contains_at : (e : Entry) (h : List Entry) → Contains h e → IsIn e h
contains_at e [] (k, inside, is) = absurd (omega (arith, inside))
contains_at e (x ∷ h) (zero, inside, is) = inl (sym is)
contains_at e (x ∷ h) (suc k, inside, is) = inr (contains_at e h (k, omega (arith, inside), is))

-- what stands in a list stands in it in any order
pub in_other_order : (e : Entry) (h g : List Entry) → IsPermutation h g → IsIn e h → IsIn e g
in_other_order e h g moved i = contains_at e g (Contains-permutation h g e moved (contains_of e h i))

-- entries within the bounds of a journal are so one by one
each_within : (h : List Entry) → AreWithin h → All IsEntryWithin h
each_within [] w = All-nil IsEntryWithin
each_within (e ∷ h) w = All-cons IsEntryWithin e h (record { body = w.2; what = w.3 }) (each_within h w.0)

-- each number below their count is that of one of them
number_there : (h : List Entry) (n : ℕ) → AreWithin h → n < length h → (e : Entry) × IsIn e h × (e.number ≡ n)
number_there [] n w l = absurd (omega (arith, l))
number_there (e ∷ h) n w l = dite (ℕ_discrete n (length h))
    (λ same. (e, inl refl, w.1 ∙ sym same))
    (λ ne. let r = number_there h n w.0 (omega (arith, l, ne)) in (r.0, inr r.1, r.2))

-- and each has the number of its place
numbered : (h : List Entry) → AreWithin h → AreNumbered h
numbered [] w = tt
numbered (e ∷ h) w = (w.1, numbered h w.0)

-- the entries of a history within the bounds, in some order, are those of a journal
pub of_journal : (es h : List Entry) → IsPermutation es h → length h ≤ 65536 → AreWithin h → AreOfJournal es
of_journal es h moved few within =
    let long = length_permutation es h moved in
    let back = IsPermutation-sym es h moved in record {
      few = omega (arith, long, few);
      within = All-permutation IsEntryWithin h es back (each_within h within);
      numbered = λ n l.
          let r = number_there h n within (omega (arith, l, long)) in
          let there = Contains-permutation h es r.0 back (contains_of r.0 h r.1) in (there.0, r.0, there.1, there.2, r.2);
    }

-- a journal that has the entries of such a history is the history, the oldest first
pub is_history : (es h out : List Entry) → IsPermutation es h → IsPermutation es out → AreWithin h → IsJournal out → reverse out ≡ h
is_history es h out moved gathered within journal =
    let same : IsPermutation (reverse out) h = IsPermutation-trans _ _ _ (IsPermutation-sym _ _ (IsPermutation-reverse out)) (IsPermutation-trans _ _ _ (IsPermutation-sym _ _ gathered) moved) in
    collected (reverse out) h (numbered (reverse out) journal.within) (numbered h within) (sym (length_permutation (reverse out) h same)) (λ e i. in_other_order e (reverse out) h same i)

-- where there is one list, the last one is all
pub last_of_one : (lists rest : List (Vec Entry Global)) (list : Vec Entry Global) → length lists ≡ 1 → lists ≡ rest ++ list ∷ [] → lists ≡ list ∷ []
last_of_one lists [] list one last = last
last_of_one lists (x ∷ rest) list one last =
    let long : length lists ≡ suc (length (rest ++ list ∷ [])) = ap length last in
    let behind = length-append rest (list ∷ []) in
    absurd (omega (arith, one, long, behind))
