pub mod Registries
pub mod Puts
pub mod Sources
pub mod EntryRefusals
pub mod Batches
pub mod HeldBeside
pub mod StoredTexts
