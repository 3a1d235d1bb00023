pub mod Kept
pub mod Going
pub mod Needed
pub mod Present
pub mod Rounds
pub mod Steps
pub mod Serving
