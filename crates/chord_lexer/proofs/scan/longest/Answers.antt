use Rattle.std.proofs.Common.{sym}
use Rattle.chord_lexer.proofs.Adding.{blank_added, comment_added}
use Rattle.chord_lexer.proofs.scan.longest.Goals as goal

pub returns-in-Blank-clause-found : goal.returns-in-Blank-clause-found
returns-in-Blank-clause-found c = blank_added _ _ _ c.requires.some (sym c.in-Blank.ensures)

pub returns-in-Comment-clause-found : goal.returns-in-Comment-clause-found
returns-in-Comment-clause-found c = comment_added _ _ _ _ c.comment.ensures.found
