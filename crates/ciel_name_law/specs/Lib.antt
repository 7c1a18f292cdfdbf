pub mod Typed
pub mod Laws
pub mod Told
