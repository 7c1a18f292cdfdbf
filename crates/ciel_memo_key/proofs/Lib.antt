mod Taking
mod Searching
