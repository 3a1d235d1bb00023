mod Each
mod RepeatedKeys
mod Refusals
