pub mod name_map
