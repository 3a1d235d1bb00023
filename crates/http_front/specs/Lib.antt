pub mod Calls
pub mod HubAnswers
pub mod Isolation
pub mod Servers
pub mod Running
pub mod SideBySide
pub mod Libraries
pub mod Stored
