-- The terminal of each kind of token.
use Rattle.std.specs.Prelude.{ℕ}
use Rattle.chord_lexer.specs.declared.token.Kind.{Kind}
use Rattle.chord_lexer.specs.declared.token.Kind.TheVariants as kinds
use Rattle.chord_lexer.specs.declared.token.Keyword.{Keyword}
use Rattle.chord_lexer.specs.declared.token.Keyword.TheVariants as keywords
use Rattle.chord_lexer.specs.declared.token.Mark.{Mark}
use Rattle.chord_lexer.specs.declared.token.Mark.TheVariants as marks
use Rattle.chord_tree.specs.Symbol.{Symbol, number_of}
use Rattle.chord_tree.specs.Symbols.{USING, CLASS, PUBLIC, PRIVATE, PROTECTED, VIRTUAL, OVERRIDE, STATIC, ASYNC, VOID, INT, BOOL, STRING, IF, WHILE, RETURN, THIS, NEW, ELSE, TRUE, FALSE, DO, UNUSED, OPEN_BRACE, CLOSE_BRACE, OPEN, CLOSE, SEMICOLON, COMMA, DOT, COLON, ASSIGN, EQUAL, NOT_EQUAL, LESS, GREATER, LESS_OR_EQUAL, GREATER_OR_EQUAL, PLUS, MINUS, TIMES, DIVIDE, REMAINDER, NOT, AND, OR, AMPERSAND, INCREMENT, DECREMENT, NAME, NUMBER, LITERAL}

-- a reserved word
abbrev pub keyword_symbol : Keyword → Symbol
keyword_symbol keywords.Using = USING
keyword_symbol keywords.Class = CLASS
keyword_symbol keywords.Public = PUBLIC
keyword_symbol keywords.Private = PRIVATE
keyword_symbol keywords.Protected = PROTECTED
keyword_symbol keywords.Virtual = VIRTUAL
keyword_symbol keywords.Override = OVERRIDE
keyword_symbol keywords.Static = STATIC
keyword_symbol keywords.Async = ASYNC
keyword_symbol keywords.Void = VOID
keyword_symbol keywords.Int = INT
keyword_symbol keywords.Bool = BOOL
keyword_symbol keywords.String = STRING
keyword_symbol keywords.If = IF
keyword_symbol keywords.While = WHILE
keyword_symbol keywords.Return = RETURN
keyword_symbol keywords.This = THIS
keyword_symbol keywords.New = NEW
keyword_symbol keywords.Else = ELSE
keyword_symbol keywords.True = TRUE
keyword_symbol keywords.False = FALSE
keyword_symbol keywords.Do = DO
keyword_symbol keywords.Unused = UNUSED

-- a mark
abbrev pub mark_symbol : Mark → Symbol
mark_symbol marks.OpenBrace = OPEN_BRACE
mark_symbol marks.CloseBrace = CLOSE_BRACE
mark_symbol marks.OpenParenthesis = OPEN
mark_symbol marks.CloseParenthesis = CLOSE
mark_symbol marks.Semicolon = SEMICOLON
mark_symbol marks.Comma = COMMA
mark_symbol marks.Dot = DOT
mark_symbol marks.Colon = COLON
mark_symbol marks.Assign = ASSIGN
mark_symbol marks.Equal = EQUAL
mark_symbol marks.NotEqual = NOT_EQUAL
mark_symbol marks.Less = LESS
mark_symbol marks.Greater = GREATER
mark_symbol marks.LessOrEqual = LESS_OR_EQUAL
mark_symbol marks.GreaterOrEqual = GREATER_OR_EQUAL
mark_symbol marks.Plus = PLUS
mark_symbol marks.Minus = MINUS
mark_symbol marks.Times = TIMES
mark_symbol marks.Divide = DIVIDE
mark_symbol marks.Remainder = REMAINDER
mark_symbol marks.Not = NOT
mark_symbol marks.And = AND
mark_symbol marks.Or = OR
mark_symbol marks.Ampersand = AMPERSAND
mark_symbol marks.Increment = INCREMENT
mark_symbol marks.Decrement = DECREMENT

-- any kind of token: a name, a number or a literal stands for all of its kind
abbrev pub terminal_of : Kind → ℕ
terminal_of (kinds.Word keyword) = number_of (keyword_symbol keyword)
terminal_of (kinds.Name bytes) = number_of NAME
terminal_of (kinds.Number value) = number_of NUMBER
terminal_of (kinds.Literal bytes) = number_of LITERAL
terminal_of (kinds.Mark mark) = number_of (mark_symbol mark)
