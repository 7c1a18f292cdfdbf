pub mod Learn
pub mod Numbers
pub mod Found
pub mod Places
pub mod KnownAt
