use Rattle.std.proofs.Common.{arith, sym, ap, subst, length, length-drop}
use Rattle.chord_lexer.specs.declared.scan.Stop.TheVariants as stops
use Rattle.chord_lexer.specs.Reading.{Chain, none}
use Rattle.chord_lexer.specs.Scanning.{IsAdded, IsStop}
use Rattle.chord_lexer.proofs.Chains.{grown_at, added_byte, blank_at, refused_there, whole_read, text_short}
use Rattle.chord_lexer.proofs.lexer.read.Goals as goal

pub loop-at-init : goal.loop-at-init
loop-at-init c = (omega arith, subst (λ z. Chain 0 c.args.text.now z c.args.text.now) (sym c.new-tokens.ensures.items) none)

pub loop-at-preserved-then-is_blank : goal.loop-at-preserved-then-is_blank
loop-at-preserved-then-is_blank c = grown_at _ _ _ _ _ c.loop-at.invariant.0 c.loop-at.invariant.1 (blank_at _ _ _ c.loop-at-test.true (sym c.if-is_blank.ensures))

pub overflow_cast-start : goal.overflow_cast-start
overflow_cast-start c =
    let m = text_short _ _ c.requires.few c.requires.unmarked in
    let l = c.loop-at.invariant.0 in
    omega arith

pub longest-requires-clause-some : goal.longest-requires-clause-some
longest-requires-clause-some c =
    let e = ap length c.after.ensures in
    let d = length-drop c.loop-at.at c.args.text.now in
    let l = c.loop-at-test.true in
    omega arith

pub longest-requires-clause-few : goal.longest-requires-clause-few
longest-requires-clause-few c =
    let m = text_short _ _ c.requires.few c.requires.unmarked in
    let e = ap length c.after.ensures in
    let d = length-drop c.loop-at.at c.args.text.now in
    let l = c.loop-at.invariant.0 in
    omega arith

pub overflow_add-at-in-Ok : goal.overflow_add-at-in-Ok
overflow_add-at-in-Ok c =
    let m = text_short _ _ c.requires.few c.requires.unmarked in
    let e = ap length c.after.ensures in
    let d = length-drop c.loop-at.at c.args.text.now in
    let l = c.loop-at.invariant.0 in
    let w = c.in-Ok.ensures.found.begins.within in
    omega arith

pub loop-at-smaller : goal.loop-at-smaller
loop-at-smaller c =
    let b = added_byte _ _ _ _ _ c.in-Ok.ensures.found in
    let l = c.loop-at-test.true in
    omega arith

pub loop-at-preserved : goal.loop-at-preserved
loop-at-preserved c = grown_at _ _ _ _ _ c.loop-at.invariant.0 c.loop-at.invariant.1 (subst (λ z. IsAdded z c.loop-at.at c.loop-at.tokens.items c.longest.new.tokens.items c.in-Ok.length) c.after.ensures c.in-Ok.ensures.found)

pub returns-in-Err-Nothing-clause-fault : goal.returns-in-Err-Nothing-clause-fault
returns-in-Err-Nothing-clause-fault c = refused_there _ _ _ _ c.requires.unmarked c.loop-at-test.true c.loop-at.invariant.1 (subst (λ z. IsStop z stops.Nothing) c.after.ensures (subst (λ z. IsStop c.after.result.now z) c.in-Err-Nothing.field-0-is c.in-Err-Nothing.ensures.none))

pub returns-clause-read : goal.returns-clause-read
returns-clause-read c = whole_read c.args.source.now _ _ _ c.requires.unmarked c.loop-at-test.false c.loop-at.invariant.1
