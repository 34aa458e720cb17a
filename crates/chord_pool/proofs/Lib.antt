pub mod Crossing
pub mod Journals
pub mod Ended
pub mod Handing
pub mod Looking
pub mod Crews
pub mod Endings
pub mod Rounds
