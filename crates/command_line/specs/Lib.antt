pub mod Commands
pub mod Calls
pub mod Forms
pub mod Conflicts
