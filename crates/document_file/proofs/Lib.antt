mod Commits
mod Found
mod Members
mod Puts
mod Refusals
mod Rows
mod Seeks
mod Turns
