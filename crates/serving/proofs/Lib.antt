pub mod Written
pub mod Exchanged
pub mod Turned
pub mod Ended
pub mod Bounded
pub mod Talked
