pub mod Shapes
pub mod Rows
pub mod Groups
pub mod Annotating
