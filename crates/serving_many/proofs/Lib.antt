mod Lists
mod Needed
mod Present
mod Kept
mod Changes
mod Turns
mod Among
mod Steps
