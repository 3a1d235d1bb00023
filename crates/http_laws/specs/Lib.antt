pub mod Spelling
pub mod Taking
pub mod Answering
