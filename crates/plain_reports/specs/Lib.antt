pub mod Commands
pub mod ErrorUnits
pub mod Escapes
pub mod JsonLines
pub mod Shown
pub mod Told
pub mod UnitViews
