pub mod SameTokens
pub mod WayLaws
pub mod Indexes
