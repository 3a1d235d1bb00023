pub mod ShapeLists
