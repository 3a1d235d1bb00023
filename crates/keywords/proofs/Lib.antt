pub mod Names
pub mod Grouped
pub mod Likely
