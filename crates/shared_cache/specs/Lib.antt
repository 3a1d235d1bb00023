pub mod Digests
pub mod Readings
pub mod Refusals
pub mod Entries
