pub mod Rows
pub mod Restoring
pub mod Laws
pub mod RowViews
pub mod StoreFaults
