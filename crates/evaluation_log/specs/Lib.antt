pub mod Tallies
pub mod Notes
pub mod Logs
