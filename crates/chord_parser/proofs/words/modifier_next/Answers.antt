use Rattle.std.proofs.Common.{◌∙◌}
use Rattle.chord_parser.proofs.ClassLists.{no_modifier}
use Rattle.chord_parser.proofs.words.modifier_next.Goals as goal

pub returns-clause-none : goal.returns-clause-none
returns-clause-none c = no_modifier _ (λ q. c.if-ahead-eq-PUBLIC.false (c.next-ahead.ensures ∙ q)) (λ q. c.if-ahead-eq-PRIVATE.false (c.next-ahead.ensures ∙ q)) (λ q. c.if-ahead-eq-PROTECTED.false (c.next-ahead.ensures ∙ q)) (λ q. c.if-ahead-eq-VIRTUAL.false (c.next-ahead.ensures ∙ q)) (λ q. c.if-ahead-eq-OVERRIDE.false (c.next-ahead.ensures ∙ q)) (λ q. c.if-ahead-eq-STATIC.false (c.next-ahead.ensures ∙ q))
