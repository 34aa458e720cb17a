-- ## What callers read
-- The code of expressions and statements.
pub mod Emitted
-- The code of a source.
pub mod Translation
-- Sources that have a code.
pub mod TypedSource
-- What the code of a source keeps of it.
pub mod Laws
-- The listing of a code.
pub mod Listing
-- ## What only the code's own contracts use
-- What the code does while it emits instructions.
pub mod Emitting
-- What the code does while it builds blocks.
pub mod Building
