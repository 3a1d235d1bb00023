pub mod TextSets
pub mod StoredDocuments
pub mod SharedStored
pub mod OrderedDocuments
pub mod Claims
pub mod DocumentLists
pub mod StaleClaims
pub mod KeptDocuments
