pub mod Ordered
pub mod Sorting
pub mod Searching
pub mod Ended
pub mod Repeats
