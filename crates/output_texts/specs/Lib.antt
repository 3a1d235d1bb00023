pub mod NoUnits
pub mod Outputs
