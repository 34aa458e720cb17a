-- Identifiers: reserved words and names.
use Rattle.std.specs.Prelude.{◌≡◌, ℕ, ◌≤◌, true, cond, List, [], ◌∷◌, ◌++◌, map, length, Option, Some, None, bytes_eq, codes}
use Rattle.chord_lexer.specs.declared.token.Keyword.{Keyword}
use Rattle.chord_lexer.specs.declared.token.Keyword.TheVariants as keywords
use Rattle.chord_lexer.specs.Letters.{is_letter, is_identifier_byte, IsMaximalRun}

-- The reserved words that have a keyword of their own: those of the grammar, and `do`.
abbrev pub named_words : List (List ℕ × Keyword)
named_words =
    (codes "async", keywords.Async) ∷
    (codes "bool", keywords.Bool) ∷
    (codes "class", keywords.Class) ∷
    (codes "else", keywords.Else) ∷
    (codes "false", keywords.False) ∷
    (codes "if", keywords.If) ∷
    (codes "int", keywords.Int) ∷
    (codes "new", keywords.New) ∷
    (codes "override", keywords.Override) ∷
    (codes "private", keywords.Private) ∷
    (codes "protected", keywords.Protected) ∷
    (codes "public", keywords.Public) ∷
    (codes "return", keywords.Return) ∷
    (codes "static", keywords.Static) ∷
    (codes "string", keywords.String) ∷
    (codes "this", keywords.This) ∷
    (codes "true", keywords.True) ∷
    (codes "using", keywords.Using) ∷
    (codes "virtual", keywords.Virtual) ∷
    (codes "void", keywords.Void) ∷
    (codes "while", keywords.While) ∷
    (codes "do", keywords.Do) ∷ []

-- The other reserved words. No program has one of them.
abbrev pub unused_words : List (List ℕ)
unused_words =
    codes "abstract" ∷ codes "as" ∷ codes "base" ∷ codes "break" ∷ codes "byte" ∷ codes "case" ∷
    codes "catch" ∷ codes "char" ∷ codes "checked" ∷ codes "const" ∷ codes "continue" ∷ codes "decimal" ∷
    codes "default" ∷ codes "delegate" ∷ codes "double" ∷ codes "enum" ∷ codes "event" ∷ codes "explicit" ∷
    codes "extern" ∷ codes "finally" ∷ codes "fixed" ∷ codes "float" ∷ codes "for" ∷ codes "foreach" ∷
    codes "goto" ∷ codes "implicit" ∷ codes "in" ∷ codes "interface" ∷ codes "internal" ∷ codes "is" ∷
    codes "lock" ∷ codes "long" ∷ codes "namespace" ∷ codes "null" ∷ codes "object" ∷ codes "operator" ∷
    codes "out" ∷ codes "params" ∷ codes "readonly" ∷ codes "ref" ∷ codes "sbyte" ∷ codes "sealed" ∷
    codes "short" ∷ codes "sizeof" ∷ codes "stackalloc" ∷ codes "struct" ∷ codes "switch" ∷ codes "throw" ∷
    codes "try" ∷ codes "typeof" ∷ codes "uint" ∷ codes "ulong" ∷ codes "unchecked" ∷ codes "unsafe" ∷
    codes "ushort" ∷ codes "volatile" ∷ []

-- Each reserved word, with its keyword.
abbrev pub reserved_words : List (List ℕ × Keyword)
reserved_words = named_words ++ map (λ identifier. (identifier, keywords.Unused)) unused_words

-- what the list has for the identifier
abbrev pub find_reserved : List (List ℕ × Keyword) → List ℕ → Option Keyword
find_reserved [] identifier = None
find_reserved (entry ∷ entries) identifier = cond (bytes_eq identifier entry.0) (Some entry.1) (find_reserved entries identifier)

-- The keyword of an identifier, if it is reserved.
unfoldable pub keyword_of : List ℕ → Option Keyword
keyword_of identifier = find_reserved reserved_words identifier

-- An identifier is a letter and then letters and digits, as many as there are, and has at most 255 bytes.
pub record IsIdentifier (identifier rest : List ℕ) : Type 0 where
  pub first : ℕ
  pub others : List ℕ
  pub begins : identifier ≡ first ∷ others
  pub letter : is_letter first ≡ true
  pub run : IsMaximalRun is_identifier_byte identifier rest
  pub short : length identifier ≤ 255
