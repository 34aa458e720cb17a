-- What tools/grammar.py makes: how the grammar's symbols begin, a group of them a file.
pub mod ClassSteps
pub mod MemberSteps
pub mod StmtSteps
pub mod ChainSteps
pub mod ExprSteps
-- how many productions follow each other at one token
pub mod Ranks
