-- The grammar, a production a line. A nonterminal stands for each repeated or optional part; a capital is a terminal. Made by tools/grammar.py.
use Rattle.std.specs.Prelude.{ℕ, List, [], ◌∷◌}
use Rattle.chord_tree.specs.Symbol.{Production, ◌⟶◌, number_of}
use Rattle.chord_tree.specs.Symbols.{Whole_program, Usings, Classes, Using, Name_parts, Class, Optional_public, Optional_base, Members, Member, Modifiers, Modifier, Rest, After, Headers, Header, Result, Plain, Formals, Optional_formals, More_formals, Formal, Value_type, Block, Items, Item, After_name, Stmt, Tail, Other, Optional_else, Optional_expr, Dot, Dots, Actuals, Optional_exprs, More_exprs, Expr, More_or, And, More_and, Equal, More_equal, Order, More_order, Sum, More_sum, Product, More_product, Unary, Primary, Operand_start, Optional_actuals, USING, NAME, SEMICOLON, DOT, CLASS, OPEN_BRACE, CLOSE_BRACE, PUBLIC, COLON, PRIVATE, PROTECTED, VIRTUAL, OVERRIDE, STATIC, AMPERSAND, ASYNC, VOID, INT, BOOL, STRING, OPEN, CLOSE, COMMA, ASSIGN, IF, WHILE, RETURN, THIS, NEW, ELSE, OR, AND, EQUAL, NOT_EQUAL, LESS, GREATER, LESS_OR_EQUAL, GREATER_OR_EQUAL, PLUS, MINUS, TIMES, DIVIDE, REMAINDER, NOT, NUMBER, LITERAL, TRUE, FALSE}

unfoldable pub productions : List Production
productions =
    -- Program = { Using } Class { Class }
    (Whole_program ⟶ Usings ∷ Class ∷ Classes ∷ []) ∷
    (Usings ⟶ []) ∷
    (Usings ⟶ Using ∷ Usings ∷ []) ∷
    (Classes ⟶ []) ∷
    (Classes ⟶ Class ∷ Classes ∷ []) ∷
    -- Using = "using" Name { "." Name } ";"
    (Using ⟶ USING ∷ NAME ∷ Name_parts ∷ SEMICOLON ∷ []) ∷
    (Name_parts ⟶ []) ∷
    (Name_parts ⟶ DOT ∷ NAME ∷ Name_parts ∷ []) ∷
    -- Class = [ "public" ] "class" Name [ ":" Name ] "{" { Member } "}"
    (Class ⟶ Optional_public ∷ CLASS ∷ NAME ∷ Optional_base ∷ OPEN_BRACE ∷ Members ∷ CLOSE_BRACE ∷ []) ∷
    (Optional_public ⟶ []) ∷
    (Optional_public ⟶ PUBLIC ∷ []) ∷
    (Optional_base ⟶ []) ∷
    (Optional_base ⟶ COLON ∷ NAME ∷ []) ∷
    (Members ⟶ []) ∷
    (Members ⟶ Member ∷ Members ∷ []) ∷
    -- Member = { Modifier } Rest
    (Member ⟶ Modifiers ∷ Rest ∷ []) ∷
    (Modifiers ⟶ []) ∷
    (Modifiers ⟶ Modifier ∷ Modifiers ∷ []) ∷
    -- Modifier = "public" | "private" | "protected" | "virtual" | "override" | "static"
    (Modifier ⟶ PUBLIC ∷ []) ∷
    (Modifier ⟶ PRIVATE ∷ []) ∷
    (Modifier ⟶ PROTECTED ∷ []) ∷
    (Modifier ⟶ VIRTUAL ∷ []) ∷
    (Modifier ⟶ OVERRIDE ∷ []) ∷
    (Modifier ⟶ STATIC ∷ []) ∷
    -- Rest = Name After | Plain Name Formals { "&" Header } Block
    (Rest ⟶ NAME ∷ After ∷ []) ∷
    (Rest ⟶ Plain ∷ NAME ∷ Formals ∷ Headers ∷ Block ∷ []) ∷
    -- After = Formals Block | Name Formals { "&" Header } Block
    (After ⟶ Formals ∷ Block ∷ []) ∷
    (After ⟶ NAME ∷ Formals ∷ Headers ∷ Block ∷ []) ∷
    (Headers ⟶ []) ∷
    (Headers ⟶ AMPERSAND ∷ Header ∷ Headers ∷ []) ∷
    -- Header = { Modifier } Result Name Formals
    (Header ⟶ Modifiers ∷ Result ∷ NAME ∷ Formals ∷ []) ∷
    -- Result = Plain | Name
    (Result ⟶ Plain ∷ []) ∷
    (Result ⟶ NAME ∷ []) ∷
    -- Plain = "async" | "void" | "int" | "bool" | "string"
    (Plain ⟶ ASYNC ∷ []) ∷
    (Plain ⟶ VOID ∷ []) ∷
    (Plain ⟶ INT ∷ []) ∷
    (Plain ⟶ BOOL ∷ []) ∷
    (Plain ⟶ STRING ∷ []) ∷
    -- Formals = "(" [ Formal { "," Formal } ] ")"
    (Formals ⟶ OPEN ∷ Optional_formals ∷ CLOSE ∷ []) ∷
    (Optional_formals ⟶ []) ∷
    (Optional_formals ⟶ Formal ∷ More_formals ∷ []) ∷
    (More_formals ⟶ []) ∷
    (More_formals ⟶ COMMA ∷ Formal ∷ More_formals ∷ []) ∷
    -- Formal = ValueType Name
    (Formal ⟶ Value_type ∷ NAME ∷ []) ∷
    -- ValueType = "int" | "bool" | "string" | Name
    (Value_type ⟶ INT ∷ []) ∷
    (Value_type ⟶ BOOL ∷ []) ∷
    (Value_type ⟶ STRING ∷ []) ∷
    (Value_type ⟶ NAME ∷ []) ∷
    -- Block = "{" { Item } "}"
    (Block ⟶ OPEN_BRACE ∷ Items ∷ CLOSE_BRACE ∷ []) ∷
    (Items ⟶ []) ∷
    (Items ⟶ Item ∷ Items ∷ []) ∷
    -- Item = ( "int" | "bool" | "string" ) Name "=" Expr ";" | Name ( Name "=" Expr | Tail ) ";" | Other
    (Item ⟶ INT ∷ NAME ∷ ASSIGN ∷ Expr ∷ SEMICOLON ∷ []) ∷
    (Item ⟶ BOOL ∷ NAME ∷ ASSIGN ∷ Expr ∷ SEMICOLON ∷ []) ∷
    (Item ⟶ STRING ∷ NAME ∷ ASSIGN ∷ Expr ∷ SEMICOLON ∷ []) ∷
    (Item ⟶ NAME ∷ After_name ∷ SEMICOLON ∷ []) ∷
    (Item ⟶ Other ∷ []) ∷
    (After_name ⟶ NAME ∷ ASSIGN ∷ Expr ∷ []) ∷
    (After_name ⟶ Tail ∷ []) ∷
    -- Stmt = Name Tail ";" | Other
    (Stmt ⟶ NAME ∷ Tail ∷ SEMICOLON ∷ []) ∷
    (Stmt ⟶ Other ∷ []) ∷
    -- Tail = "=" Expr | Actuals { Dot } | Dot { Dot }
    (Tail ⟶ ASSIGN ∷ Expr ∷ []) ∷
    (Tail ⟶ Actuals ∷ Dots ∷ []) ∷
    (Tail ⟶ Dot ∷ Dots ∷ []) ∷
    -- Other = Block | ";" | "if" "(" Expr ")" Stmt [ "else" Stmt ] | "while" "(" Expr ")" Stmt | "return" [ Expr ] ";" | "this" Dot { Dot } ";" | "new" Name Actuals { Dot } ";"
    (Other ⟶ Block ∷ []) ∷
    (Other ⟶ SEMICOLON ∷ []) ∷
    (Other ⟶ IF ∷ OPEN ∷ Expr ∷ CLOSE ∷ Stmt ∷ Optional_else ∷ []) ∷
    (Other ⟶ WHILE ∷ OPEN ∷ Expr ∷ CLOSE ∷ Stmt ∷ []) ∷
    (Other ⟶ RETURN ∷ Optional_expr ∷ SEMICOLON ∷ []) ∷
    (Other ⟶ THIS ∷ Dot ∷ Dots ∷ SEMICOLON ∷ []) ∷
    (Other ⟶ NEW ∷ NAME ∷ Actuals ∷ Dots ∷ SEMICOLON ∷ []) ∷
    (Optional_else ⟶ []) ∷
    (Optional_else ⟶ ELSE ∷ Stmt ∷ []) ∷
    (Optional_expr ⟶ []) ∷
    (Optional_expr ⟶ Expr ∷ []) ∷
    -- Dot = "." Name Actuals
    (Dot ⟶ DOT ∷ NAME ∷ Actuals ∷ []) ∷
    (Dots ⟶ []) ∷
    (Dots ⟶ Dot ∷ Dots ∷ []) ∷
    -- Actuals = "(" [ Expr { "," Expr } ] ")"
    (Actuals ⟶ OPEN ∷ Optional_exprs ∷ CLOSE ∷ []) ∷
    (Optional_exprs ⟶ []) ∷
    (Optional_exprs ⟶ Expr ∷ More_exprs ∷ []) ∷
    (More_exprs ⟶ []) ∷
    (More_exprs ⟶ COMMA ∷ Expr ∷ More_exprs ∷ []) ∷
    -- Expr = And { "||" And }
    (Expr ⟶ And ∷ More_or ∷ []) ∷
    (More_or ⟶ []) ∷
    (More_or ⟶ OR ∷ And ∷ More_or ∷ []) ∷
    -- And = Equal { "&&" Equal }
    (And ⟶ Equal ∷ More_and ∷ []) ∷
    (More_and ⟶ []) ∷
    (More_and ⟶ AND ∷ Equal ∷ More_and ∷ []) ∷
    -- Equal = Order { ( "==" | "!=" ) Order }
    (Equal ⟶ Order ∷ More_equal ∷ []) ∷
    (More_equal ⟶ []) ∷
    (More_equal ⟶ EQUAL ∷ Order ∷ More_equal ∷ []) ∷
    (More_equal ⟶ NOT_EQUAL ∷ Order ∷ More_equal ∷ []) ∷
    -- Order = Sum { ( "<" | ">" | "<=" | ">=" ) Sum }
    (Order ⟶ Sum ∷ More_order ∷ []) ∷
    (More_order ⟶ []) ∷
    (More_order ⟶ LESS ∷ Sum ∷ More_order ∷ []) ∷
    (More_order ⟶ GREATER ∷ Sum ∷ More_order ∷ []) ∷
    (More_order ⟶ LESS_OR_EQUAL ∷ Sum ∷ More_order ∷ []) ∷
    (More_order ⟶ GREATER_OR_EQUAL ∷ Sum ∷ More_order ∷ []) ∷
    -- Sum = Product { ( "+" | "-" ) Product }
    (Sum ⟶ Product ∷ More_sum ∷ []) ∷
    (More_sum ⟶ []) ∷
    (More_sum ⟶ PLUS ∷ Product ∷ More_sum ∷ []) ∷
    (More_sum ⟶ MINUS ∷ Product ∷ More_sum ∷ []) ∷
    -- Product = Unary { ( "*" | "/" | "%" ) Unary }
    (Product ⟶ Unary ∷ More_product ∷ []) ∷
    (More_product ⟶ []) ∷
    (More_product ⟶ TIMES ∷ Unary ∷ More_product ∷ []) ∷
    (More_product ⟶ DIVIDE ∷ Unary ∷ More_product ∷ []) ∷
    (More_product ⟶ REMAINDER ∷ Unary ∷ More_product ∷ []) ∷
    -- Unary = ( "-" | "!" ) Unary | Primary
    (Unary ⟶ MINUS ∷ Unary ∷ []) ∷
    (Unary ⟶ NOT ∷ Unary ∷ []) ∷
    (Unary ⟶ Primary ∷ []) ∷
    -- Primary = Start { Dot }
    (Primary ⟶ Operand_start ∷ Dots ∷ []) ∷
    -- Start = Name [ Actuals ] | "this" | "new" Name Actuals | Number | Literal | "true" | "false" | "(" Expr ")"
    (Operand_start ⟶ NAME ∷ Optional_actuals ∷ []) ∷
    (Operand_start ⟶ THIS ∷ []) ∷
    (Operand_start ⟶ NEW ∷ NAME ∷ Actuals ∷ []) ∷
    (Operand_start ⟶ NUMBER ∷ []) ∷
    (Operand_start ⟶ LITERAL ∷ []) ∷
    (Operand_start ⟶ TRUE ∷ []) ∷
    (Operand_start ⟶ FALSE ∷ []) ∷
    (Operand_start ⟶ OPEN ∷ Expr ∷ CLOSE ∷ []) ∷
    (Optional_actuals ⟶ []) ∷
    (Optional_actuals ⟶ Actuals ∷ []) ∷
    []

-- the depth of a token counts the nodes of these nonterminals around it
unfoldable pub counted : List ℕ
counted = number_of Item ∷ number_of Stmt ∷ number_of Expr ∷ number_of Unary ∷ []

-- how many productions there are
unfoldable pub rule_count : ℕ
rule_count = 121

-- how many nonterminals there are
unfoldable pub nonterminal_count : ℕ
nonterminal_count = 53

-- how many terminals there are
unfoldable pub terminal_count : ℕ
terminal_count = 52

-- the terminal of `else`
unfoldable pub else_terminal : ℕ
else_terminal = number_of ELSE

-- the place among the productions of `Optional_else ⟶ []`: an `if` without `else`
unfoldable pub no_else : ℕ
no_else = 70
