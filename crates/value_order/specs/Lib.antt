pub mod Orders
pub mod Sorts
pub mod Searched
