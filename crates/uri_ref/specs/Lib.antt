pub mod Escapes
pub mod FragmentViews
pub mod Places
pub mod Soundness
pub mod Views
pub mod ResolvedViews
pub mod AbsoluteReferences
