mod TypesShow
mod ScopesStay
pub mod Viewed
mod Lasts
mod ChainTypes
mod Slots
