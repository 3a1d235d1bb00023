mod Carried
mod Formed
pub mod Mistakes
pub mod Ended
pub mod EndedStored
mod Written
