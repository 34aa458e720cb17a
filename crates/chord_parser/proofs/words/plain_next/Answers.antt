use Rattle.std.proofs.Common.{◌∙◌}
use Rattle.chord_parser.proofs.ClassLists.{no_plain}
use Rattle.chord_parser.proofs.words.plain_next.Goals as goal

pub returns-clause-none : goal.returns-clause-none
returns-clause-none c = no_plain _ (λ q. c.if-ahead-eq-ASYNC.false (c.next-ahead.ensures ∙ q)) (λ q. c.if-ahead-eq-VOID.false (c.next-ahead.ensures ∙ q)) (λ q. c.if-ahead-eq-INT.false (c.next-ahead.ensures ∙ q)) (λ q. c.if-ahead-eq-BOOL.false (c.next-ahead.ensures ∙ q)) (λ q. c.if-ahead-eq-STRING.false (c.next-ahead.ensures ∙ q))
