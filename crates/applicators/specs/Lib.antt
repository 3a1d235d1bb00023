pub mod Subjects
pub mod Origins
pub mod Plans
pub mod Annotations
pub mod Applications
