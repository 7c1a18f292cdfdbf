mod Built
mod Fails
