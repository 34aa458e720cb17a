-- The methods of a chord: their flags, when one more is added, and where a line with one of them stands.
use Rattle.std.proofs.Common.{◌≡◌, ◌≢◌, ℕ, zero, suc, ◌+◌, ◌<◌, ◌≤◌, Bool, true, false, ◌==◌, ◌||◌, List, [], ◌∷◌, ◌++◌, length, map, get_or, Some, inl, inr, ⊎_elim, refl, sym, ap, ◌∙◌, subst, arith, set, take}
use Rattle.std.specs.Prelude.{slice_get}
use Rattle.std.proofs.lemmas.Bool.{cases_lt, eq-eqb, eqb-true}
use Rattle.std.proofs.lemmas.List.{length-take-le, take_more_set}
use Rattle.chord_base.specs.Messages.{has}
use Rattle.chord_base.proofs.Waits.{either}
use Rattle.chord_code.specs.Headers.{AreFlags, LackHeader}
use Rattle.chord_code.specs.Meaning.{methods_of}
use Rattle.chord_code.specs.declared.parts.ChordLine.{ChordLine}
use Rattle.chord_code.proofs.Places.{set_same, set_other}

-- a number that is added stands among them
has_added : (n : ℕ) (ns : List ℕ) → has n (ns ++ n ∷ []) ≡ true
has_added n [] = rw (eq-eqb n n refl) refl
has_added n (m ∷ ns) =
    elim (either (n == m)) [
      | inl y ↦ rw y refl
      | inr o ↦ rw o (has_added n ns)
    ]

-- another stands among them as before
has_other : (j n : ℕ) (ns : List ℕ) → (j == n) ≡ false → has j (ns ++ n ∷ []) ≡ has j ns
has_other j n [] d = rw d refl
has_other j n (m ∷ ns) d = ap (λ z. (j == m) || z) (has_other j n ns d)

-- two that are not the same number differ
differ : (j n : ℕ) → (j == n) ≡ false → n ≢ j
differ j n d e = (let z : (j == j) ≡ false = subst (λ x. (j == x) ≡ false) e d in let y : true ≡ false = sym (eq-eqb j j refl) ∙ z in cc)

-- a number that has a flag is added and flagged
flagged_with : (n : ℕ) (ns : List ℕ) (flags : List Bool) → n < 16 → AreFlags ns flags → AreFlags (ns ++ n ∷ []) (set flags n true)
flagged_with n ns flags low are j less =
    elim (either (j == n)) [
      | inl y ↦ (let e : j ≡ n = eqb-true j n y in subst (λ x. slice_get (set flags n true) x ≡ Some (has x (ns ++ n ∷ []))) (sym e) (set_same flags n true (has n ns) (are n low) ∙ ap (λ b. Some b) (sym (has_added n ns))))
      | inr o ↦ set_other flags n j true (differ j n o) ∙ are j less ∙ ap (λ b. Some b) (sym (has_other j n ns o))
    ]

-- a number without a flag is added
flagged_past : (n : ℕ) (ns : List ℕ) (flags : List Bool) → 16 ≤ n → AreFlags ns flags → AreFlags (ns ++ n ∷ []) flags
flagged_past n ns flags high are j less =
    elim (either (j == n)) [
      | inl y ↦ (let e : j ≡ n = eqb-true j n y in absurd (omega (arith, e, less, high)))
      | inr o ↦ are j less ∙ ap (λ b. Some b) (sym (has_other j n ns o))
    ]

-- an array of eight whose first numbers are fewer than eight has room for one more behind them
more_behind : (n count : ℕ) (numbers : List ℕ) → length numbers ≡ 8 → count ≤ 8 → length (take count numbers) < 8 → (count + 1 ≤ 8) × (take (count + 1) (set numbers count n) ≡ take count numbers ++ n ∷ [])
more_behind n count numbers eight most few =
    let long = length-take-le count numbers (omega (arith, eight, most)) in
    (omega (arith, long, few), take_more_set numbers count n (omega (arith, eight, long, few)))

-- an array to which a number with a flag was added has few numbers, and their flags
pub added_with : (n count : ℕ) (numbers : List ℕ) (flags : List Bool) → length numbers ≡ 8 → count ≤ 8 → length (take count numbers) < 8 → n < 16 → AreFlags (take count numbers) flags → (count + 1 ≤ 8) × AreFlags (take (count + 1) (set numbers count n)) (set flags n true)
added_with n count numbers flags eight most few low are =
    let more = more_behind n count numbers eight most few in
    (more.0, subst (λ ns. AreFlags ns (set flags n true)) (sym more.1) (flagged_with n (take count numbers) flags low are))

-- and so has one to which a number without a flag was added
pub added_past : (n count : ℕ) (numbers : List ℕ) (flags : List Bool) → length numbers ≡ 8 → count ≤ 8 → length (take count numbers) < 8 → 16 ≤ n → AreFlags (take count numbers) flags → (count + 1 ≤ 8) × AreFlags (take (count + 1) (set numbers count n)) flags
added_past n count numbers flags eight most few high are =
    let more = more_behind n count numbers eight most few in
    (more.0, subst (λ ns. AreFlags ns flags) (sym more.1) (flagged_past n (take count numbers) flags high are))

-- the chord of a number has the methods of the line there
pub methods_at : (lines : List ChordLine) (k : ℕ) (line : ChordLine) → k < length lines → slice_get (map methods_of lines) k ≡ Some (methods_of (get_or lines k line))
methods_at [] k line lt = absurd (omega (arith, lt))
methods_at (x ∷ lines) zero line lt = refl
methods_at (x ∷ lines) (suc k) line lt = methods_at lines k line (omega (arith, lt))

-- one chord more lacks the method
pub lack_more : (j : ℕ) (chords : List (List ℕ)) (from n : ℕ) (ms : List ℕ) → slice_get chords n ≡ Some ms → has j ms ≡ false → LackHeader j chords from n → LackHeader j chords from (n + 1)
lack_more j chords from n ms is off before k js low lt e =
    ⊎_elim (λ less. before k js low less e)
    (λ le. let q : k ≡ n = omega (arith, le, lt) in let z : Some ms ≡ Some js = sym is ∙ ap (slice_get chords) (sym q) ∙ e in let y : ms ≡ js = cc in subst (λ z. has j z ≡ false) y off)
    (cases_lt k n)
