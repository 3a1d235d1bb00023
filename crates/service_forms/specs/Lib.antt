pub mod StoreStops
pub mod Stops
pub mod Endings
pub mod Files
pub mod Services
pub mod Stored
pub mod Logs
