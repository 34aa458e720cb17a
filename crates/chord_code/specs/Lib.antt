-- ## What callers read
-- which code is valid
pub mod Valid
-- the slots of a block
pub mod Slots
-- the methods of a chord
pub mod Headers
-- what each instruction does to a machine
pub mod Machine
-- a bound on the instructions up to the next ask
pub mod Fuel
-- what code means to the join machine
pub mod Meaning
-- which code is sound
pub mod Sound
-- what a valid code gives a scheduler
pub mod Laws
-- the bounds of what code names and asks
pub mod Within
-- what a body does, whatever it is answered
pub mod Plays
-- what holds in every run of a code whose bodies keep to their types
pub mod Runs
