-- What a walk through a bag tells, in the order in which it is to be read.

-- ## What callers read

-- what a way has read, and how far the walks of duties have come
pub mod Reads
-- what each answer of a walk says
pub mod Seeking
-- ## What only the code's own contracts use

-- a walk on its way
pub mod Walking
