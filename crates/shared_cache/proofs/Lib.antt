mod KeyUses
mod ReadValues
mod DeepDocuments
