mod Walks
mod Sized
pub mod Transcripts
