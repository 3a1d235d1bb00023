pub mod Tenants
pub mod Entries
