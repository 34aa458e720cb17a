-- Why a source is refused, and the line that says so.
use Rattle.std.specs.Prelude.{◌≡◌, ℕ, ◌+◌, ◌/◌, ◌%◌, ◌<◌, ◌≤◌, ◌++◌, List, [], ◌∷◌, codes, decimal, length, slice_get, unwrap_or, option_map}
use Rattle.chord_classes.specs.Breaks.{IsBreak, every_rule}
use Rattle.chord_lexer.specs.Reading.{IsRead, IsRefused, after_byte_order_mark}
use Rattle.chord_lexer.specs.declared.token.Token.{Token}
use Rattle.chord_run.specs.Positions.{position_of}
use Rattle.chord_parser.specs.Answers.{IsAnswer}
use Rattle.chord_parser.specs.declared.parser.ParseFault.{ParseFault}
use Rattle.chord_parser.specs.declared.parser.ParseFault.TheVariants as parser
use Rattle.chord_run.specs.Sources.{IsProgramOf, IsShort}
use Rattle.chord_tree.specs.Program.{token_kinds}
use Rattle.chord_tree.specs.Tree.{ProgramTree}
use Rattle.chord_run.specs.declared.front.FrontFault.{FrontFault}
use Rattle.chord_run.specs.declared.front.FrontFault.TheVariants.{Memory, Refused}
use Rattle.chord_run.specs.declared.position.Position.{Position}
use Rattle.chord_run.specs.declared.refusal.Refusal.{Refusal}
use Rattle.chord_run.specs.declared.refusal.Refusal.TheVariants.{Long, Bad, Syntax, Tall, Rule}

-- a source of at most 1,048,576 bytes reads as tokens that the parser answers so
pub record IsAnsweredBy (source : List ℕ) (fault : ParseFault) : Type 0 where
  pub short : IsShort source
  pub tokens : List Token
  pub read : IsRead source tokens
  pub answer : IsAnswer (token_kinds tokens) fault

-- the program of a source breaks this rule at this token, and none at an earlier token, nor a lesser one there
pub record IsBroken (source : List ℕ) (rule k : ℕ) : Type 0 where
  pub program : ProgramTree
  pub of_source : IsProgramOf source program
  pub first : IsBreak every_rule program rule k

-- the cause of a refusal: too many bytes; a byte at which nothing begins; a token with which no program goes on; a token that
-- is too deep; a rule that the program breaks
abbrev pub IsCause : List ℕ → Refusal → Type 0
IsCause source Long = 1048576 < length source
IsCause source (Bad k) = IsShort source × IsRefused source k
IsCause source (Syntax k) = IsAnsweredBy source (parser.At k)
IsCause source (Tall k) = IsAnsweredBy source (parser.Tall k)
IsCause source (Rule r k) = IsBroken source r k

-- the byte at which token k begins; where k is the number of tokens, the end of the text
abbrev pub token_start : List Token → ℕ → ℕ → ℕ
token_start tokens k end = unwrap_or (option_map (λ token. token.start) (slice_get tokens k)) end

-- the byte is in the text of a source, or at its end
pub record IsWithin (source : List ℕ) (byte : ℕ) : Type 0 where
  pub short : IsShort source
  pub within : byte ≤ length (after_byte_order_mark source)

-- the byte at which the tokens of a source refuse it
pub record IsTokenAt (source : List ℕ) (k byte : ℕ) : Type 0 where
  pub tokens : List Token
  pub read : IsRead source tokens
  pub at : byte ≡ token_start tokens k (length (after_byte_order_mark source))

-- the byte at which a refusal points, where it points at one
abbrev pub PointsAt : List ℕ → Refusal → ℕ → Type 0
PointsAt source Long byte = Unit {0}
PointsAt source (Bad k) byte = IsWithin source byte × (byte ≡ k)
PointsAt source (Syntax k) byte = IsWithin source byte × IsTokenAt source k byte
PointsAt source (Tall k) byte = IsWithin source byte × IsTokenAt source k byte
PointsAt source (Rule r k) byte = IsWithin source byte × IsTokenAt source k byte

-- a line that ends with a place: its line, `:` and its column
abbrev pub with_position : List ℕ → Position → List ℕ
with_position front place = front ++ decimal place.line ++ codes ":" ++ decimal place.column ++ codes "\n"

-- a line that ends with the place of a byte at which the refusal points
abbrev pub PointsIn : List ℕ → Refusal → List ℕ → List ℕ → Type 0
PointsIn source refusal front line = (byte : ℕ) × PointsAt source refusal byte × (line ≡ with_position front (position_of (after_byte_order_mark source) byte))

-- the two digits of a number below 100
abbrev pub two_digits : ℕ → List ℕ
two_digits n = (48 + n / 10) ∷ (48 + n % 10) ∷ []

-- the line of a refusal by a rule up to its place: `refused C`, the two digits of the rule, and a blank
abbrev pub rule_front : ℕ → List ℕ
rule_front rule = codes "refused C" ++ (two_digits rule ++ codes " ")

-- the line of a refusal
abbrev pub IsLine : List ℕ → Refusal → List ℕ → Type 0
IsLine source Long line = line ≡ codes "refused long\n"
IsLine source (Bad k) line = PointsIn source (Bad k) (codes "refused byte ") line
IsLine source (Syntax k) line = PointsIn source (Syntax k) (codes "refused syntax ") line
IsLine source (Tall k) line = PointsIn source (Tall k) (codes "refused tall ") line
IsLine source (Rule r k) line = PointsIn source (Rule r k) (rule_front r) line

-- what a fault of the front says: of a refusal its cause, and the byte at which it points
abbrev pub IsFrontFault : List ℕ → FrontFault → Type 0
IsFrontFault source Memory = Unit {0}
IsFrontFault source (Refused refusal byte) = IsCause source refusal × PointsAt source refusal byte
