pub mod Located
pub mod PlacesViews
pub mod Positions
pub mod PositionsViews
