use Rattle.std.proofs.Common.{sym, ap, ◌∙◌}
use Rattle.chord_tree.specs.Derivation.{next}
use Rattle.chord_tree.specs.Program.{token_kinds}
use Rattle.chord_parser.proofs.Single.{end_next}
use Rattle.chord_parser.proofs.tokens.next.Goals as goal

pub returns-in-None : goal.returns-in-None
returns-in-None c = end_next _ c.in-None.ensures.cases

pub returns-in-Some : goal.returns-in-Some
returns-in-Some c = c.terminal_of_kind.ensures ∙ sym (ap (λ z. next (token_kinds z)) c.in-Some.ensures.cases.0)
