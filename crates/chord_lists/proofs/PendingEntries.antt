-- A pending message is an entry of its history.
use Rattle.std.proofs.Common.{◌≡◌, ℕ, zero, suc, ◌<◌, ◌==◌, List, [], ◌∷◌, ◌++◌, length, reverse, Option, Some, None, refl, sym, ap, ◌∙◌, subst, arith, inl, inr}
use Rattle.std.specs.Prelude.{slice_get}
use Rattle.std.proofs.lemmas.Bool.{eqb-true}
use Rattle.std.proofs.lemmas.List.{length-reverse, reverse-append}
use Rattle.std.proofs.lemmas.Option.{slice_get_within}
use Rattle.chord_base.specs.declared.event.Entry.{Entry}
use Rattle.chord_base.specs.Messages.{Message, message_of, members_of, has, pending}
use Rattle.chord_base.specs.Bounds.{AreWithin}
use Rattle.chord_base.proofs.Waits.{either}

-- the last of the entries, and the others
entry_end : (es : List Entry) (e : Entry) → slice_get (es ++ e ∷ []) (length es) ≡ Some e
entry_end [] e = refl
entry_end (x ∷ es) e = entry_end es e

-- an entry before the last one is the same entry without the last one
entry_before : (es : List Entry) (e : Entry) (n : ℕ) → n < length es → slice_get (es ++ e ∷ []) n ≡ slice_get es n
entry_before [] e n l = absurd (omega (arith, l))
entry_before (x ∷ es) e zero l = refl
entry_before (x ∷ es) e (suc n) l = entry_before es e n (omega (arith, l))

-- a pending message is the entry of its number
pub pending_entry : (h : List Entry) (n : ℕ) (m : Message) → AreWithin h → pending n h ≡ Some m
    → (e : Entry) × (slice_get (reverse h) n ≡ Some e) × (message_of e.what ≡ Some m)
pending_entry [] n m w s = let z : ◌≡◌ {A = Option Message} None (Some m) = s in cc
pending_entry (x ∷ h) n m w s =
    elim (either (x.number == n)) [
      | inl y ↦
          (let at : length (reverse h) ≡ n = length-reverse h ∙ sym w.1 ∙ eqb-true x.number n y in
          let last = subst (λ i. slice_get (reverse h ++ x ∷ []) i ≡ Some x) at (entry_end (reverse h) x) in
          (x, ap (λ es. slice_get es n) (reverse-append (x ∷ []) h) ∙ last, rw y at s))
      | inr o ↦
          elim (either (has n (members_of x.what))) [
            | inl y ↦ (let z : ◌≡◌ {A = Option Message} None (Some m) = rw (o, y) at s in cc)
            | inr a ↦
                (let f = pending_entry h n m w.0 (rw (o, a) at s) in
                let l = slice_get_within (reverse h) n f.0 f.1 in
                (f.0, ap (λ es. slice_get es n) (reverse-append (x ∷ []) h) ∙ entry_before (reverse h) x n l ∙ f.1, f.2))
          ]
    ]
