-- ## What callers read
-- What follows a part of a body, and the ways in which it is chosen.
pub mod Continuing
-- How expressions are evaluated.
pub mod Expressions
-- How statements are executed, and how a body begins.
pub mod Statements
-- How `new` makes and builds an object.
pub mod Objects
-- The join machine of a source.
pub mod Source
-- Bodies that keep to their types never go wrong, and come to an end; their join machine is sound.
pub mod Laws
-- What a run of a sound machine says of its messages and of its callers.
pub mod Callers
-- What a run of a source's machine says of types, and what its bodies do.
pub mod TypedRuns
-- What a trap does in a run of a machine that hands traps on, as the machine of a source does.
pub mod Traps
-- Code that does what a source does, and its runs.
pub mod Sources
