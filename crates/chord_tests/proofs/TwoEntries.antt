-- Each of the two numbers of a journal of two entries is there, whatever their order.
use Rattle.std.proofs.Common.{◌≡◌, ℕ, zero, suc, ◌<◌, [], ◌∷◌, length, refl, arith}
use Rattle.std.specs.Prelude.{All, Any}
use Rattle.chord_base.specs.declared.event.Entry.{Entry}
use Rattle.chord_journal.specs.Gathered.{IsEntryWithin, AreOfJournal}

-- an entry of number 1 and one of number 0 are those of a journal
pub later_first : (a b : Entry) → IsEntryWithin a → IsEntryWithin b → a.number ≡ 1 → b.number ≡ 0 → AreOfJournal (a ∷ b ∷ [])
later_first a b in_a in_b first second = record { few = omega arith; within = within; numbered = numbered }
  where
    within : All IsEntryWithin (a ∷ b ∷ [])
    within zero d less = in_a
    within (suc zero) d less = in_b
    within (suc (suc k)) d less = absurd (omega (arith, less))

    numbered : (n : ℕ) → n < length (a ∷ b ∷ []) → Any (λ e. e.number ≡ n) (a ∷ b ∷ [])
    numbered zero less = (1, b, omega arith, refl, second)
    numbered (suc zero) less = (0, a, omega arith, refl, first)
    numbered (suc (suc n)) less = absurd (omega (arith, less))
