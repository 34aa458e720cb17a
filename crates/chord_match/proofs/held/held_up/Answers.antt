use Rattle.std.proofs.Common.{◌≡◌, ◌∙◌, ℕ, List, Some, true, false, map, slice_get, sym, ap, subst, arith}
use Rattle.std.proofs.lemmas.List.{length-map}
use Rattle.std.proofs.lemmas.Option.{slice_get_within}
use Rattle.chord_base.specs.Messages.{has}
use Rattle.chord_code.specs.Meaning.{methods_of}
use Rattle.chord_code.proofs.Headers.{methods_at}
use Rattle.chord_match.specs.Noting.{all_told}
use Rattle.chord_match.proofs.Chords.{chord_line_at}
use Rattle.chord_match.proofs.Holders.{same_methods, none_holds_more, holds_here, none_here}
use Rattle.chord_match.proofs.held.held_up.Goals.{then-has+else-is_some, else-has}
use Rattle.chord_match.proofs.held.held_up.Goals as goal

pub loop-at-init : goal.loop-at-init
loop-at-init c = λ q js l e h. absurd (omega (arith, l))

pub holder-busy-requires : goal.holder-busy-requires
holder-busy-requires c =
    let here = chord_line_at c.args.lines.now c.loop-at.at c.index-lines-at-then-has.result c.index-lines-at-then-has.is c.loop-at-test.true ∙ ap (λ (z : List ℕ). Some z) (ap methods_of c.index-lines-at-then-has.is ∙ sym c.items.ensures.numbers) in
    record { methods = λ j y. c.requires.lines c.loop-at.at c.items.result.now here j y }

pub returns-then-is_some : goal.returns-then-is_some
returns-then-is_some c =
    let jss = map methods_of c.args.lines.now in let at = c.loop-at.at in let js = c.items.result.now in
    let here : slice_get jss at ≡ Some js = chord_line_at c.args.lines.now c.loop-at.at c.index-lines-at-then-has.result c.index-lines-at-then-has.is c.loop-at-test.true ∙ ap (λ (z : List ℕ). Some z) (ap methods_of c.index-lines-at-then-has.is ∙ sym c.items.ensures.numbers) in
    let line = methods_at c.args.lines.now at c.index-lines-at.result c.loop-at-test.true in
    let on = subst (λ (z : List ℕ). has c.args.method z ≡ true) (same_methods jss at _ js line here) (sym c.has.ensures ∙ c.if-has.true) in
    holds_here c.args.method jss (all_told c.args.known.now) at js c.holder-busy.result here on (sym c.is_some.ensures ∙ c.if-is_some.true) c.holder-busy.ensures

pub loop-at-preserved : goal.loop-at-preserved
loop-at-preserved c =
    let jss = map methods_of c.args.lines.now in let at = c.loop-at.at in let notes = all_told c.args.known.now in
    elim c.if-has.branch [
      | then-has+else-is_some w ↦ none_holds_more c.args.method jss notes at w.items.result.now
          (chord_line_at c.args.lines.now c.loop-at.at w.index-lines-at-then-has.result w.index-lines-at-then-has.is c.loop-at-test.true ∙ ap (λ (z : List ℕ). Some z) (ap methods_of w.index-lines-at-then-has.is ∙ sym w.items.ensures.numbers))
          (λ on. none_here w.items.result.now notes w.holder-busy.result (sym w.is_some.ensures ∙ w.if-is_some.false) w.holder-busy.ensures) c.loop-at.invariant
      | else-has w ↦ none_holds_more c.args.method jss notes at _ (methods_at c.args.lines.now at c.index-lines-at.result c.loop-at-test.true) (λ on. let z : true ≡ false = sym on ∙ sym c.has.ensures ∙ w.if-has.false in absurd (cc)) c.loop-at.invariant
    ]

pub returns : goal.returns
returns c q js e h = let low = slice_get_within (map methods_of c.args.lines.now) q js e in let long = length-map c.args.lines.now methods_of in let all = c.loop-at-test.false in c.loop-at.invariant q js (omega (arith, low, long, all)) e h
