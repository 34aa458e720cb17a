-- A kind of token of each terminal. Made by tools/grammar.py.
use Rattle.std.specs.Prelude.{ℕ, List, [], ◌∷◌, get_or}
use Rattle.chord_lexer.specs.declared.token.Kind.{Kind}
use Rattle.chord_lexer.specs.declared.token.Kind.TheVariants as kinds
use Rattle.chord_lexer.specs.declared.token.Keyword.TheVariants as keywords
use Rattle.chord_lexer.specs.declared.token.Mark.TheVariants as marks

abbrev pub samples : List Kind
samples =
    kinds.Word keywords.Using ∷
    kinds.Name [] ∷
    kinds.Mark marks.Semicolon ∷
    kinds.Mark marks.Dot ∷
    kinds.Word keywords.Class ∷
    kinds.Mark marks.OpenBrace ∷
    kinds.Mark marks.CloseBrace ∷
    kinds.Word keywords.Public ∷
    kinds.Mark marks.Colon ∷
    kinds.Word keywords.Private ∷
    kinds.Word keywords.Protected ∷
    kinds.Word keywords.Virtual ∷
    kinds.Word keywords.Override ∷
    kinds.Word keywords.Static ∷
    kinds.Mark marks.Ampersand ∷
    kinds.Word keywords.Async ∷
    kinds.Word keywords.Void ∷
    kinds.Word keywords.Int ∷
    kinds.Word keywords.Bool ∷
    kinds.Word keywords.String ∷
    kinds.Mark marks.OpenParenthesis ∷
    kinds.Mark marks.CloseParenthesis ∷
    kinds.Mark marks.Comma ∷
    kinds.Mark marks.Assign ∷
    kinds.Word keywords.If ∷
    kinds.Word keywords.While ∷
    kinds.Word keywords.Return ∷
    kinds.Word keywords.This ∷
    kinds.Word keywords.New ∷
    kinds.Word keywords.Else ∷
    kinds.Mark marks.Or ∷
    kinds.Mark marks.And ∷
    kinds.Mark marks.Equal ∷
    kinds.Mark marks.NotEqual ∷
    kinds.Mark marks.Less ∷
    kinds.Mark marks.Greater ∷
    kinds.Mark marks.LessOrEqual ∷
    kinds.Mark marks.GreaterOrEqual ∷
    kinds.Mark marks.Plus ∷
    kinds.Mark marks.Minus ∷
    kinds.Mark marks.Times ∷
    kinds.Mark marks.Divide ∷
    kinds.Mark marks.Remainder ∷
    kinds.Mark marks.Not ∷
    kinds.Number 0 ∷
    kinds.Literal [] ∷
    kinds.Word keywords.True ∷
    kinds.Word keywords.False ∷
    kinds.Word keywords.Do ∷
    kinds.Word keywords.Unused ∷
    kinds.Mark marks.Increment ∷
    kinds.Mark marks.Decrement ∷
    []

abbrev pub sample : ℕ → Kind
sample c = get_or samples c (kinds.Number 0)
