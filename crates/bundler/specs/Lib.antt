pub mod Constituents
pub mod Alone
