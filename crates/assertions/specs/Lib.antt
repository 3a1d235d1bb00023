pub mod AssertionView
pub mod Dependents
pub mod Limits
