-- What each word of the shared table says, in the order in which it is to be read.

-- ## What callers read

-- the bits of a word
pub mod Bits
-- the words of cells
pub mod Cells
-- the words of places
pub mod Places

-- ## What only the code's own contracts use
