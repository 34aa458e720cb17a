use Rattle.std.proofs.Common.{◌∙◌}
use Rattle.chord_lexer.proofs.Reserved.{by_first}
use Rattle.chord_lexer.proofs.identifier.keyword.Goals as goal

pub returns : goal.returns
returns c = c.find_with.ensures ∙ by_first _ c.requires
