pub mod Elements
pub mod Sizes
pub mod Shapes
pub mod SharedNames
pub mod Dependents
