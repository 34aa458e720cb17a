-- The nonterminals and the terminals of the grammar, by name. Made by tools/grammar.py.
use Rattle.chord_tree.specs.Symbol.{Symbol, Terminal, Nonterminal}

abbrev pub Whole_program : Symbol
Whole_program = Nonterminal 0

abbrev pub Usings : Symbol
Usings = Nonterminal 1

abbrev pub Classes : Symbol
Classes = Nonterminal 2

abbrev pub Using : Symbol
Using = Nonterminal 3

abbrev pub Name_parts : Symbol
Name_parts = Nonterminal 4

abbrev pub Class : Symbol
Class = Nonterminal 5

abbrev pub Optional_public : Symbol
Optional_public = Nonterminal 6

abbrev pub Optional_base : Symbol
Optional_base = Nonterminal 7

abbrev pub Members : Symbol
Members = Nonterminal 8

abbrev pub Member : Symbol
Member = Nonterminal 9

abbrev pub Modifiers : Symbol
Modifiers = Nonterminal 10

abbrev pub Modifier : Symbol
Modifier = Nonterminal 11

abbrev pub Rest : Symbol
Rest = Nonterminal 12

abbrev pub After : Symbol
After = Nonterminal 13

abbrev pub Headers : Symbol
Headers = Nonterminal 14

abbrev pub Header : Symbol
Header = Nonterminal 15

abbrev pub Result : Symbol
Result = Nonterminal 16

abbrev pub Plain : Symbol
Plain = Nonterminal 17

abbrev pub Formals : Symbol
Formals = Nonterminal 18

abbrev pub Optional_formals : Symbol
Optional_formals = Nonterminal 19

abbrev pub More_formals : Symbol
More_formals = Nonterminal 20

abbrev pub Formal : Symbol
Formal = Nonterminal 21

abbrev pub Value_type : Symbol
Value_type = Nonterminal 22

abbrev pub Block : Symbol
Block = Nonterminal 23

abbrev pub Items : Symbol
Items = Nonterminal 24

abbrev pub Item : Symbol
Item = Nonterminal 25

abbrev pub After_name : Symbol
After_name = Nonterminal 26

abbrev pub Stmt : Symbol
Stmt = Nonterminal 27

abbrev pub Tail : Symbol
Tail = Nonterminal 28

abbrev pub Other : Symbol
Other = Nonterminal 29

abbrev pub Optional_else : Symbol
Optional_else = Nonterminal 30

abbrev pub Optional_expr : Symbol
Optional_expr = Nonterminal 31

abbrev pub Dot : Symbol
Dot = Nonterminal 32

abbrev pub Dots : Symbol
Dots = Nonterminal 33

abbrev pub Actuals : Symbol
Actuals = Nonterminal 34

abbrev pub Optional_exprs : Symbol
Optional_exprs = Nonterminal 35

abbrev pub More_exprs : Symbol
More_exprs = Nonterminal 36

abbrev pub Expr : Symbol
Expr = Nonterminal 37

abbrev pub More_or : Symbol
More_or = Nonterminal 38

abbrev pub And : Symbol
And = Nonterminal 39

abbrev pub More_and : Symbol
More_and = Nonterminal 40

abbrev pub Equal : Symbol
Equal = Nonterminal 41

abbrev pub More_equal : Symbol
More_equal = Nonterminal 42

abbrev pub Order : Symbol
Order = Nonterminal 43

abbrev pub More_order : Symbol
More_order = Nonterminal 44

abbrev pub Sum : Symbol
Sum = Nonterminal 45

abbrev pub More_sum : Symbol
More_sum = Nonterminal 46

abbrev pub Product : Symbol
Product = Nonterminal 47

abbrev pub More_product : Symbol
More_product = Nonterminal 48

abbrev pub Unary : Symbol
Unary = Nonterminal 49

abbrev pub Primary : Symbol
Primary = Nonterminal 50

abbrev pub Operand_start : Symbol
Operand_start = Nonterminal 51

abbrev pub Optional_actuals : Symbol
Optional_actuals = Nonterminal 52

abbrev pub USING : Symbol
USING = Terminal 0

abbrev pub NAME : Symbol
NAME = Terminal 1

abbrev pub SEMICOLON : Symbol
SEMICOLON = Terminal 2

abbrev pub DOT : Symbol
DOT = Terminal 3

abbrev pub CLASS : Symbol
CLASS = Terminal 4

abbrev pub OPEN_BRACE : Symbol
OPEN_BRACE = Terminal 5

abbrev pub CLOSE_BRACE : Symbol
CLOSE_BRACE = Terminal 6

abbrev pub PUBLIC : Symbol
PUBLIC = Terminal 7

abbrev pub COLON : Symbol
COLON = Terminal 8

abbrev pub PRIVATE : Symbol
PRIVATE = Terminal 9

abbrev pub PROTECTED : Symbol
PROTECTED = Terminal 10

abbrev pub VIRTUAL : Symbol
VIRTUAL = Terminal 11

abbrev pub OVERRIDE : Symbol
OVERRIDE = Terminal 12

abbrev pub STATIC : Symbol
STATIC = Terminal 13

abbrev pub AMPERSAND : Symbol
AMPERSAND = Terminal 14

abbrev pub ASYNC : Symbol
ASYNC = Terminal 15

abbrev pub VOID : Symbol
VOID = Terminal 16

abbrev pub INT : Symbol
INT = Terminal 17

abbrev pub BOOL : Symbol
BOOL = Terminal 18

abbrev pub STRING : Symbol
STRING = Terminal 19

abbrev pub OPEN : Symbol
OPEN = Terminal 20

abbrev pub CLOSE : Symbol
CLOSE = Terminal 21

abbrev pub COMMA : Symbol
COMMA = Terminal 22

abbrev pub ASSIGN : Symbol
ASSIGN = Terminal 23

abbrev pub IF : Symbol
IF = Terminal 24

abbrev pub WHILE : Symbol
WHILE = Terminal 25

abbrev pub RETURN : Symbol
RETURN = Terminal 26

abbrev pub THIS : Symbol
THIS = Terminal 27

abbrev pub NEW : Symbol
NEW = Terminal 28

abbrev pub ELSE : Symbol
ELSE = Terminal 29

abbrev pub OR : Symbol
OR = Terminal 30

abbrev pub AND : Symbol
AND = Terminal 31

abbrev pub EQUAL : Symbol
EQUAL = Terminal 32

abbrev pub NOT_EQUAL : Symbol
NOT_EQUAL = Terminal 33

abbrev pub LESS : Symbol
LESS = Terminal 34

abbrev pub GREATER : Symbol
GREATER = Terminal 35

abbrev pub LESS_OR_EQUAL : Symbol
LESS_OR_EQUAL = Terminal 36

abbrev pub GREATER_OR_EQUAL : Symbol
GREATER_OR_EQUAL = Terminal 37

abbrev pub PLUS : Symbol
PLUS = Terminal 38

abbrev pub MINUS : Symbol
MINUS = Terminal 39

abbrev pub TIMES : Symbol
TIMES = Terminal 40

abbrev pub DIVIDE : Symbol
DIVIDE = Terminal 41

abbrev pub REMAINDER : Symbol
REMAINDER = Terminal 42

abbrev pub NOT : Symbol
NOT = Terminal 43

abbrev pub NUMBER : Symbol
NUMBER = Terminal 44

abbrev pub LITERAL : Symbol
LITERAL = Terminal 45

abbrev pub TRUE : Symbol
TRUE = Terminal 46

abbrev pub FALSE : Symbol
FALSE = Terminal 47

abbrev pub DO : Symbol
DO = Terminal 48

abbrev pub UNUSED : Symbol
UNUSED = Terminal 49

abbrev pub INCREMENT : Symbol
INCREMENT = Terminal 50

abbrev pub DECREMENT : Symbol
DECREMENT = Terminal 51
