mod Every
pub mod Facts
mod Lists
pub mod Breaks
pub mod Leasts
mod LeastBreak
mod Free
mod Terms
mod Scopes
mod Stmts
mod Returns
mod Declared
mod Bodies
pub mod Kept
pub mod Inherits
pub mod Headers
pub mod Planned
pub mod Heads
pub mod Limits
pub mod Mains
pub mod Whole
pub mod Plans
mod NamePlaces
mod NamedMethods
mod TableLookups
pub mod Search
pub mod GrownMethods
mod Adding
mod SharedForks
mod OwnedNames
mod Mapped
