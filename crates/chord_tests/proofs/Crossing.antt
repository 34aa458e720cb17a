-- Two lists of the entries of a journal of four entries, of which one stands between the entries of the other.
use Rattle.std.proofs.Common.{◌≡◌, ℕ, zero, suc, ◌<◌, [], ◌∷◌, length, refl, arith}
use Rattle.std.specs.Prelude.{All, Any}
use Rattle.chord_base.specs.declared.event.Entry.{Entry}
use Rattle.chord_journal.specs.Gathered.{IsEntryWithin, AreOfJournal}

-- the inner entries, of numbers 1 and 2, and the outer ones, of numbers 0 and 3, are those of a journal
pub inner_first : (a b c d : Entry) → IsEntryWithin a → IsEntryWithin b → IsEntryWithin c → IsEntryWithin d
    → a.number ≡ 1 → b.number ≡ 2 → c.number ≡ 0 → d.number ≡ 3 → AreOfJournal (a ∷ b ∷ c ∷ d ∷ [])
inner_first a b c d in_a in_b in_c in_d one two none three = record { few = omega arith; within = within; numbered = numbered }
  where
    within : All IsEntryWithin (a ∷ b ∷ c ∷ d ∷ [])
    within zero x less = in_a
    within (suc zero) x less = in_b
    within (suc (suc zero)) x less = in_c
    within (suc (suc (suc zero))) x less = in_d
    within (suc (suc (suc (suc k)))) x less = absurd (omega (arith, less))

    numbered : (n : ℕ) → n < length (a ∷ b ∷ c ∷ d ∷ []) → Any (λ e. e.number ≡ n) (a ∷ b ∷ c ∷ d ∷ [])
    numbered zero less = (2, c, omega arith, refl, none)
    numbered (suc zero) less = (0, a, omega arith, refl, one)
    numbered (suc (suc zero)) less = (1, b, omega arith, refl, two)
    numbered (suc (suc (suc zero))) less = (3, d, omega arith, refl, three)
    numbered (suc (suc (suc (suc n)))) less = absurd (omega (arith, less))
