-- What a worker is, in the order in which it is to be read.

-- ## What callers read

-- a worker at rest
pub mod Resting
-- what a step leaves behind
pub mod Stepping
-- ## What only the code's own contracts use

-- messages that are sent off
pub mod Sending
-- when a message that is minded is minded on
pub mod Hindered
-- a firing that was drawn, before its body begins
pub mod Firing
-- a firing's parcels, and its body before it is played or posted
pub mod Beginning
-- a task while it is played
pub mod Playing
-- entries that are made of parts
pub mod Parted
