pub mod Escaped
pub mod Unescaped
pub mod Fragments
