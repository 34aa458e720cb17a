pub mod Popping
pub mod Onward
