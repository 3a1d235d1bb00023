mod Alone
pub mod Judged
mod Listened
mod Restored
