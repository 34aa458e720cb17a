use Rattle.std.proofs.Common.{refl, sym, ap, ◌∙◌, arith}
use Rattle.chord_tree.specs.Derivation.{next}
use Rattle.chord_tree.specs.Program.{token_kinds}
use Rattle.chord_parser.proofs.Single.{none_left, stops_tall, taken}
use Rattle.chord_parser.proofs.tokens.take_known.Goals as goal

pub unreachable-requires : goal.unreachable-requires
unreachable-requires c = none_left _ _ c.in_default.ensures.cases c.requires.small c.requires.next

pub returns-then-depth-gt-MAX_DEPTH-clause-err : goal.returns-then-depth-gt-MAX_DEPTH-clause-err
returns-then-depth-gt-MAX_DEPTH-clause-err c = stops_tall _ _ _ _ _ _ refl (record { terminal = sym (ap (λ z. next (token_kinds z)) c.in-Some.ensures.cases.0) ∙ c.requires.next; same = ap token_kinds c.in-Some.ensures.cases.0 }) c.if-depth-gt-MAX_DEPTH.true

pub returns-clause-ok : goal.returns-clause-ok
returns-clause-ok c = taken _ _ _ _ _ _ _ (record { terminal = sym (ap (λ z. next (token_kinds z)) c.in-Some.ensures.cases.0) ∙ c.requires.next; same = ap token_kinds c.in-Some.ensures.cases.0 }) (let f = c.if-depth-gt-MAX_DEPTH.false in omega arith) c.requires.bare c.requires.marked c.token_number-number.ensures
