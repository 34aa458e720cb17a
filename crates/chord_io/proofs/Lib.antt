pub mod Joined
pub mod Bytes
pub mod Pens
