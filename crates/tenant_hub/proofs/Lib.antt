mod Positions
mod Courses
mod NewServers
mod RegisteredDocuments
mod KeptRegistries
mod ServedBundles
mod Refusals
mod LinkedReplies
mod CachedLinks
mod NamedDocuments
mod ValidationReplies
mod BundleReplies
mod ArrayLengths
pub mod PutBack
pub mod KeptHubs
