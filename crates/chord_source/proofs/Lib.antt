mod SlotTypes
mod OperatorTypes
mod GoodWays
mod GoodExpressions
mod GoodStatements
mod GoodObjects
pub mod GoodPlays
mod Ends
mod Firings
mod TypedRuns
pub mod SoundRuns
mod Callers
mod SourceRuns
mod Traps
