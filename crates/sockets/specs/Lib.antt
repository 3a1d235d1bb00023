pub mod Interruptions
pub mod Numbers
pub mod Rest
pub mod Socket
pub mod Sockets
pub mod Table
pub mod Endings
