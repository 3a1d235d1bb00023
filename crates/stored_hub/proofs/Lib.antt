mod StoredRegistries
mod WrittenRows
mod OpenedRows
mod RepeatedDigests
mod EmptyServers
