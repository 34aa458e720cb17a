use Rattle.std.proofs.Common.{refl, sym, ap, ◌∙◌}
use Rattle.chord_tree.specs.Derivation.{next}
use Rattle.chord_tree.specs.Program.{token_kinds}
use Rattle.chord_parser.proofs.Single.{stops_other, stops_tall, none_left}
use Rattle.chord_parser.proofs.tokens.one.Goals as goal

pub returns-then-terminal_of_kind-wanted-clause-err : goal.returns-then-terminal_of_kind-wanted-clause-err
returns-then-terminal_of_kind-wanted-clause-err c = stops_other _ _ _ _ refl (λ e. c.if-terminal_of_kind-wanted.true (c.terminal_of_kind.ensures ∙ sym (ap (λ z. next (token_kinds z)) c.in-Some.ensures.cases.0) ∙ e))

pub returns-then-depth-gt-MAX_DEPTH-clause-err : goal.returns-then-depth-gt-MAX_DEPTH-clause-err
returns-then-depth-gt-MAX_DEPTH-clause-err c = stops_tall _ _ _ _ _ _ refl (record { terminal = sym c.terminal_of_kind.ensures ∙ c.if-terminal_of_kind-wanted.false; same = ap token_kinds c.in-Some.ensures.cases.0 }) c.if-depth-gt-MAX_DEPTH.true

pub returns-in-None-clause-err : goal.returns-in-None-clause-err
returns-in-None-clause-err c = stops_other _ _ _ _ refl (none_left _ _ c.in-None.ensures.cases c.requires)

pub returns-else-depth-gt-MAX_DEPTH-clause-ok : goal.returns-else-depth-gt-MAX_DEPTH-clause-ok
returns-else-depth-gt-MAX_DEPTH-clause-ok c = record { terminal = sym c.terminal_of_kind.ensures ∙ c.if-terminal_of_kind-wanted.false; same = ap token_kinds c.in-Some.ensures.cases.0 }
