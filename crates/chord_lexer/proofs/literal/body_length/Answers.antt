use Rattle.std.proofs.Common.{arith, sym}
use Rattle.chord_lexer.proofs.Quoting.{no_body, body_byte, body_pair, unquoted_end, unquoted_byte, unquoted_escape}
use Rattle.chord_lexer.proofs.literal.body_length.Goals as goal

pub loop-at-init : goal.loop-at-init
loop-at-init c = (omega arith, no_body)

pub loop-at-preserved-then-is_plain : goal.loop-at-preserved-then-is_plain
loop-at-preserved-then-is_plain c = (omega arith, (_, body_byte _ _ _ c.loop-at-test.true (sym c.if-is_plain.ensures) c.loop-at.invariant.1.1))

pub loop-at-preserved : goal.loop-at-preserved
loop-at-preserved c = (let m = c.in-Some.ensures.some.0 in omega arith, (_, body_pair _ _ c.in-Some.field-0 _ c.in-Some.ensures.some.0 c.if-byte-eq92.true c.in-Some.ensures.some.1 c.loop-at.invariant.1.1))

pub returns-in-None-clause-none : goal.returns-in-None-clause-none
returns-in-None-clause-none c = unquoted_escape _ _ c.loop-at-test.true c.if-byte-eq92.true c.in-None.ensures.none c.loop-at.invariant.1

pub returns-else-byte-eq92-clause-none : goal.returns-else-byte-eq92-clause-none
returns-else-byte-eq92-clause-none c = unquoted_byte _ _ c.loop-at-test.true (sym c.if-is_plain.ensures) c.if-byte-eq34.false c.if-byte-eq92.false c.loop-at.invariant.1

pub returns-clause-none : goal.returns-clause-none
returns-clause-none c = unquoted_end _ _ c.loop-at-test.false c.loop-at.invariant.1
