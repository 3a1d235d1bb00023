pub mod Entries
pub mod Files
pub mod Props
pub mod Puts
pub mod Tables
pub mod OpenFaults
pub mod Refusals
pub mod Making
