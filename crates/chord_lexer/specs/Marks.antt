-- Marks.
use Rattle.std.specs.Prelude.{ℕ, List, codes}
use Rattle.chord_lexer.specs.declared.token.Mark.{Mark}
use Rattle.chord_lexer.specs.declared.token.Mark.TheVariants as marks

-- The bytes of a mark.
abbrev pub mark_bytes : Mark → List ℕ
mark_bytes marks.OpenBrace = codes "{"
mark_bytes marks.CloseBrace = codes "}"
mark_bytes marks.OpenParenthesis = codes "("
mark_bytes marks.CloseParenthesis = codes ")"
mark_bytes marks.Semicolon = codes ";"
mark_bytes marks.Comma = codes ","
mark_bytes marks.Dot = codes "."
mark_bytes marks.Colon = codes ":"
mark_bytes marks.Assign = codes "="
mark_bytes marks.Equal = codes "=="
mark_bytes marks.NotEqual = codes "!="
mark_bytes marks.Less = codes "<"
mark_bytes marks.Greater = codes ">"
mark_bytes marks.LessOrEqual = codes "<="
mark_bytes marks.GreaterOrEqual = codes ">="
mark_bytes marks.Plus = codes "+"
mark_bytes marks.Minus = codes "-"
mark_bytes marks.Times = codes "*"
mark_bytes marks.Divide = codes "/"
mark_bytes marks.Remainder = codes "%"
mark_bytes marks.Not = codes "!"
mark_bytes marks.And = codes "&&"
mark_bytes marks.Or = codes "||"
mark_bytes marks.Ampersand = codes "&"
mark_bytes marks.Increment = codes "++"
mark_bytes marks.Decrement = codes "--"
