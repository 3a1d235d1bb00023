pub mod Calls
pub mod Refused
pub mod Libraries
pub mod Isolated
pub mod Kept
