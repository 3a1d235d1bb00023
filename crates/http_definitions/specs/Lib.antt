pub mod Heads
pub mod Routes
pub mod Streams
pub mod ReplyTexts
pub mod Connections
