pub mod NewServers
pub mod RefusedOpenings
pub mod Storing
pub mod DigestedKeys
pub mod Opening
pub mod RefusalTexts
