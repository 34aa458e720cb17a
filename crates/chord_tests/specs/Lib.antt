-- What tests use.

-- the codes of the tests, and what their desks know
pub mod Pairs
-- a program of two classes as a tree
pub mod Example
-- the walk over it
pub mod Walked
-- the code that prints 7
pub mod Seven
