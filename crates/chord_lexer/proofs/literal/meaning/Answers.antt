use Rattle.std.proofs.Common.{arith, sym, ◌∙◌, subst, ℕ, ◌+◌, ◌≤◌, [], length, take, IsSome, Option, refl}
use Rattle.chord_lexer.specs.Scanning.{Bytewise, end}
use Rattle.chord_lexer.proofs.Quoting.{left_pair, left_byte, body_byte, body_pair}
use Rattle.chord_lexer.proofs.literal.meaning.Goals as goal

pub loop-at-init : goal.loop-at-init
loop-at-init c = (omega arith, subst (λ z. Bytewise [] z) (sym c.in_ok-bytes.ensures.items) end, c.requires)

pub bounds-body-at-then-body-at-eq92 : goal.bounds-body-at-then-body-at-eq92
bounds-body-at-then-body-at-eq92 c = (left_pair _ _ c.loop-at-test.true c.if-body-at-eq92.true c.loop-at.invariant.2).more

pub unwrap-requires : goal.unwrap-requires
unwrap-requires c =
    let p = left_pair _ _ c.loop-at-test.true c.if-body-at-eq92.true c.loop-at.invariant.2 in
    subst (λ (z : Option ℕ). IsSome z) (sym (c.escape.ensures ∙ p.stands)) refl

pub loop-at-preserved-then-body-at-eq92 : goal.loop-at-preserved-then-body-at-eq92
loop-at-preserved-then-body-at-eq92 c =
    let p = left_pair _ _ c.loop-at-test.true c.if-body-at-eq92.true c.loop-at.invariant.2 in
    let m : c.loop-at.at + 2 ≤ length c.args.body.now = let q = p.more in omega arith in
    (m, subst (λ z. Bytewise (take (c.loop-at.at + 2) c.args.body.now) z) (sym c.in_ok-push.ensures.items) (body_pair _ _ _ _ p.more c.if-body-at-eq92.true (sym c.escape.ensures ∙ c.unwrap.ensures) c.loop-at.invariant.1), p.body)

pub loop-at-preserved : goal.loop-at-preserved
loop-at-preserved c =
    let p = left_byte _ _ c.loop-at-test.true c.if-body-at-eq92.false c.loop-at.invariant.2 in
    (omega arith, subst (λ z. Bytewise (take (c.loop-at.at + 1) c.args.body.now) z) (sym c.in_ok-push-2.ensures.items) (body_byte _ _ _ c.loop-at-test.true p.0 c.loop-at.invariant.1), p.1)
