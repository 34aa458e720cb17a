-- Which copies of kinds never fail.
use Rattle.std.specs.Prelude.{◌≤◌, length}
use Rattle.chord_lexer.specs.declared.token.Kind.{Kind}
use Rattle.chord_lexer.specs.declared.token.Kind.TheVariants as kinds

-- a copy of the kind never fails: it is no literal, and no name of more than eight bytes
abbrev pub IsSurelyCopied : Kind → Type 0
IsSurelyCopied (kinds.Word keyword) = Unit {0}
IsSurelyCopied (kinds.Name name) = length name ≤ 8
IsSurelyCopied (kinds.Number n) = Unit {0}
IsSurelyCopied (kinds.Literal bytes) = ⊥
IsSurelyCopied (kinds.Mark mark) = Unit {0}
