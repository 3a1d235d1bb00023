pub mod Places
pub mod Turns
pub mod Trees
pub mod TextNumbers
