pub mod Folders
pub mod Outputs
pub mod Forms
pub mod Answers
