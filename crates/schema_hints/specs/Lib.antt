pub mod HintViews
pub mod NearNames
pub mod SchemaPlaces
