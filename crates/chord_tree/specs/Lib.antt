-- ## What callers read

-- terminals, nonterminals and productions
pub mod Symbol
-- the symbols of the grammar by name
pub mod Symbols
-- the grammar, a production a line
pub mod Grammar
-- the terminal of each kind of token
pub mod Terminals
-- what the grammar derives, and how deep each token stands in it
pub mod Derivation
-- trees of the grammar, and what they spell
pub mod Node
-- programs as trees, without where their parts lie in memory
pub mod Tree
-- the tree of an expression in memory
pub mod ViewExprs
-- the tree of a statement in memory
pub mod ViewStmts
-- the tree of a class and of a program in memory
pub mod View
-- the nodes of the grammar that an expression stands for
pub mod ExprNodes
-- the nodes that a statement stands for
pub mod StmtNodes
-- the nodes that a class and a program stand for
pub mod ClassNodes
-- what a program spells, and what holds of every program
pub mod Program
-- expressions as rules and meanings take them: operators and calls one by one, grouped from the left
pub mod Terms
-- a walk over a program
pub mod Walk
-- what holds of each walk
pub mod Laws
-- where the tokens of a program stand
pub mod Positions
-- ## What only the code's own contracts use

-- the tables of one token ahead
pub mod OneAhead
