pub mod Queues
mod Settled
mod Taken
