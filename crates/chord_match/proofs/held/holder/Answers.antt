use Rattle.std.proofs.Common.{◌+◌, ◌<◌, ◌∙◌, ℕ, Option, inl, length, slice_index_or, sym, ap, subst, arith}
use Rattle.chord_match.specs.Noting.{told_by, all_told}
use Rattle.chord_match.proofs.Lists.{has_at}
use Rattle.chord_match.proofs.Noted.{told_at_place, not_told_bare, not_told_busy}
use Rattle.chord_match.proofs.Holders.{HeldSoFar, held_first, held_busy, held_other, held_all}
use Rattle.chord_match.proofs.held.holder.Goals.{in-Busy, in_default}
use Rattle.chord_match.proofs.held.holder.Goals as goal

pub loop-at-init : goal.loop-at-init
loop-at-init c = held_first c.args.methods.now (all_told c.args.known.now)

pub bounds-known-methods : goal.bounds-known-methods
bounds-known-methods c = let js = c.args.methods.now in let k = c.loop-at.at in c.requires.methods (slice_index_or js k 0) (has_at js k c.loop-at-test.true)

pub returns-in-Bare : goal.returns-in-Bare
returns-in-Bare c =
    let js = c.args.methods.now in let k = c.loop-at.at in let j = slice_index_or js k 0 in let notes = c.args.known.now in
    let low : j < length notes = (let a = c.requires.methods j (has_at js k c.loop-at-test.true) in let b = c.told-known in omega (arith, a, b)) in
    inl (j, has_at js k c.loop-at-test.true, told_at_place notes j _ low ∙ ap told_by c.in-Bare.is)

pub loop-at-preserved : goal.loop-at-preserved
loop-at-preserved c =
    let js = c.args.methods.now in let k = c.loop-at.at in let j = slice_index_or js k 0 in let notes = c.args.known.now in
    let low : j < length notes = (let a = c.requires.methods j (has_at js k c.loop-at-test.true) in let b = c.told-known in omega (arith, a, b)) in
    elim c.match-note.branch [
      | in-Busy w ↦ subst (λ (b : Option ℕ). HeldSoFar js (all_told notes) (k + 1) b) (sym w.busy-is)
          (held_busy js (all_told notes) k w.in-Busy.i c.loop-at.busy c.loop-at-test.true (told_at_place notes j _ low ∙ ap told_by w.in-Busy.is) c.loop-at.invariant)
      | in_default w ↦ subst (λ (b : Option ℕ). HeldSoFar js (all_told notes) (k + 1) b) (sym w.busy-is)
          (held_other js (all_told notes) k c.loop-at.busy (λ e. not_told_bare _ w.in_default.not-Bare (sym (told_at_place notes j _ low) ∙ e)) (λ i e. not_told_busy _ i w.in_default.not-Busy (sym (told_at_place notes j _ low) ∙ e)) c.loop-at.invariant)
    ]

pub returns : goal.returns
returns c = held_all c.args.methods.now (all_told c.args.known.now) c.loop-at.at c.loop-at.busy c.loop-at-test.false c.loop-at.invariant
