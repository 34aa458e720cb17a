-- How chords are found and fired, in the order in which it is to be read.

-- ## What callers read

-- what a desk has read and been answered since a moment, and which members it has seen
pub mod Seen
-- what each answer of a search says
pub mod Findings
-- what each answer of an attempt to fire says
pub mod Fires
-- ## What only the code's own contracts use

-- what the notes of a search say of the bags
pub mod Noting
-- what is known while a chord is looked for
pub mod Searching
-- members are claimed one after another
pub mod Claiming
-- members are consumed one after another
pub mod Consuming
