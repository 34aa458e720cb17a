-- ## What callers read
-- what the bodies of a task did
pub mod Past
-- the arguments of messages, held twice
pub mod Arguments
-- stacks of bodies of any program
pub mod Stacks
-- what the bodies of a task stand for
pub mod Standing
-- what a parcel keeps and holds
pub mod Parcels
-- a turn of a task
pub mod Turning
-- what was gathered from the parcels of a firing
pub mod Gathering
-- where the arguments of a message on its way lie
pub mod Contents
-- what a parcel has in its place
pub mod Freight
