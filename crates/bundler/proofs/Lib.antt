pub mod Docs
pub mod Puts
pub mod Others
pub mod Making
pub mod LinkedDocuments
