mod Bulk
mod Spelled
mod Tokens
mod Named
