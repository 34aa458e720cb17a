-- The engine of one thread and the codes that it plays, in the order in which it is to be read.

-- ## What only the code's own contracts use

-- the bag of pending messages
pub mod Bag
-- what the engine keeps from entry to entry, over any program
pub mod Engine
-- what the bodies of a run of a code are
pub mod CodeStands
-- whether a run of a code may go on
pub mod CodeGoes
