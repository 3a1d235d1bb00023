pub mod Limits
pub mod Lines
pub mod FieldValues
pub mod Windows
pub mod KeptHeadings
pub mod TargetRoutes
