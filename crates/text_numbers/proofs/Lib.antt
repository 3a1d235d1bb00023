pub mod Members
pub mod Sameness
pub mod Telling
pub mod TreeViews
