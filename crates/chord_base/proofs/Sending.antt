-- What is pending in a run, as what was sent and not taken.
use Rattle.std.proofs.Common.{◌≡◌, false, ◌==◌, List, [], ◌∷◌, Option, Some, None, refl, sym, ap, ◌∙◌, subst, arith, inl, inr}
use Rattle.std.proofs.lemmas.Bool.{eq-eqb, ne_eqb}
use Rattle.chord_base.specs.declared.event.Entry.{Entry}
use Rattle.chord_base.specs.Meaning.{Program}
use Rattle.chord_base.specs.Messages.{Message, has, message_of, members_of, pending}
use Rattle.chord_base.specs.Machine.{IsPast}
use Rattle.chord_base.specs.Served.{IsTaken}
use Rattle.chord_base.specs.Story.{IsIn}
use Rattle.chord_base.specs.Laws.{PendingIsSentNotTaken}
use Rattle.chord_base.proofs.Waits.{either}
use Rattle.chord_base.proofs.Calls.{entry_pending, number_within}
use Rattle.chord_base.proofs.Firings.{taken_for_good}

-- where the message of an entry that was sent is taken by none, it is pending
still_pending : (p : Program) (h : List Entry) (e : Entry) (m : Message) → IsPast p h → IsIn e h → message_of e.what ≡ Some m → (IsTaken e.number h → ⊥) → pending e.number h ≡ Some m
still_pending p [] e m r i s n = absurd i
still_pending p (x ∷ h) e m r i s n =
    elim i [
      | inl y ↦ subst (λ (z : Entry). pending z.number (x ∷ h) ≡ Some m) (sym y) (rw (eq-eqb x.number x.number refl) (ap (λ (z : Entry). message_of z.what) (sym y) ∙ s))
      | inr y ↦
          (let l = number_within p h e r.0 y in
          let other : (x.number == e.number) ≡ false = ne_eqb x.number e.number (λ q. let m = r.1.numbered in omega (arith, q, m, l)) in
          elim (either (has e.number (members_of x.what))) [
            | inl t ↦ absurd (n (record { entry = x; there = inl refl; takes = t }))
            | inr t ↦ rw (other, t) (still_pending p h e m r.0 y s (λ k. n (record { entry = k.entry; there = inr k.there; takes = k.takes })))
          ])
    ]

-- in a run a message is pending exactly where it was sent and not taken
pub pending_is_sent_not_taken : PendingIsSentNotTaken
pending_is_sent_not_taken p h n m r = (
  λ s.
      let k = entry_pending h n m s in
      (record { entry = k.0; there = k.1; numbered = k.2; sends = k.3 }, λ t. let z : ◌≡◌ {A = Option Message} None (Some m) = sym (taken_for_good p h t.entry n r t.there t.takes) ∙ s in cc),
  λ b.
      ap (λ i. pending i h) (sym b.0.numbered) ∙ still_pending p h b.0.entry m r b.0.there b.0.sends (λ t. b.1 (record { entry = t.entry; there = t.there; takes = ap (λ i. has i (members_of t.entry.what)) (sym b.0.numbered) ∙ t.takes })),
)
