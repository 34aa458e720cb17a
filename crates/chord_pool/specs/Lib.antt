-- What the pool gives its callers, in the order in which it is to be read.

-- ## What only the code's own contracts use

-- workers of one run
pub mod Players
-- when the first worker may close the table
pub mod Ending
