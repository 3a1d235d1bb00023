pub mod Equality
pub mod Identifying
pub mod Registered
pub mod Standing
pub mod Served
