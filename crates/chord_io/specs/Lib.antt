-- Sources and sinks, in the order in which it is to be read.

-- ## What callers read

-- what a count of faults tells
pub mod Faults
-- what a source gives and a sink takes, piece by piece
pub mod Pieces
-- a source and a sink in memory
pub mod Memory
-- what a pen does
pub mod Pen
-- how bytes are written in digits
pub mod Digits

-- ## What only the code's own contracts use
