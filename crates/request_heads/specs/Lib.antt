pub mod Searches
pub mod Methods
pub mod Fields
pub mod Headings
pub mod Fronts
