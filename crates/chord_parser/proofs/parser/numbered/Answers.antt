use Rattle.chord_parser.proofs.Whole.{at_parts, tall_parts}
use Rattle.chord_parser.proofs.parser.numbered.Goals as goal

pub overflow_sub-result : goal.overflow_sub-result
overflow_sub-result c = (at_parts _ _ _ c.in-At.is c.requires.stopped).0

pub overflow_sub-result-in-Tall : goal.overflow_sub-result-in-Tall
overflow_sub-result-in-Tall c = (tall_parts _ _ _ c.in-Tall.is c.requires.stopped).0

pub returns-in-At : goal.returns-in-At
returns-in-At c = let p = at_parts _ _ _ c.in-At.is c.requires.stopped in (p.1, p.2, p.3)

pub returns-in-Tall : goal.returns-in-Tall
returns-in-Tall c = let p = tall_parts _ _ _ c.in-Tall.is c.requires.stopped in (p.1, p.2, p.3)
