-- Which sources are accepted, and what the join machine of each is.
use Rattle.std.specs.Prelude.{◌≡◌, ℕ, ◌≤◌, List, length}
use Rattle.chord_base.specs.Meaning.{Program}
use Rattle.chord_base.specs.declared.event.Limits.{Limits}
use Rattle.chord_classes.specs.Breaks.{KeepsEveryRule}
use Rattle.chord_classes.specs.Plan.{resolved_program}
use Rattle.chord_lexer.specs.Reading.{IsRead}
use Rattle.chord_lexer.specs.declared.token.Token.{Token}
use Rattle.chord_parser.specs.Answers.{IsNotTall}
use Rattle.chord_source.specs.Source.{source_program}
use Rattle.chord_tree.specs.Program.{IsProgram, spelling, token_kinds}
use Rattle.chord_tree.specs.Tree.{ProgramTree}

-- a source has at most 1,048,576 bytes, a leading mark included
abbrev pub IsShort : List ℕ → Type 0
IsShort source = length source ≤ 1048576

-- the program of a source: the source reads as tokens, whose kinds the program spells, and no token of it is deeper than 200
pub record IsProgramOf (source : List ℕ) (program : ProgramTree) : Type 0 where
  pub short : IsShort source
  pub tokens : List Token
  pub read : IsRead source tokens
  pub is_program : IsProgram program
  pub not_tall : IsNotTall program
  pub spelled : spelling program ≡ token_kinds tokens

-- a source is accepted as this program: that is its program, and breaks no rule
pub record IsAcceptedAs (source : List ℕ) (program : ProgramTree) : Type 0 where
  pub of_source : IsProgramOf source program
  pub kept : KeepsEveryRule program

-- a source is accepted: it has a program, which breaks no rule
abbrev pub IsAccepted : List ℕ → Type 0
IsAccepted source = (program : ProgramTree) × IsAcceptedAs source program

-- the join machine of a source within these limits on turns and depth: what its program means, with all names resolved
abbrev pub IsMachine : List ℕ → Limits → Program → Type 0
IsMachine source limits machine = (program : ProgramTree) × IsAcceptedAs source program × (machine ≡ source_program (resolved_program program) limits)
