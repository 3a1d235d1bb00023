pub mod Alone
pub mod Refusals
