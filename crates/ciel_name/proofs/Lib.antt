pub mod Numbers
pub mod Tags
pub mod PrefixFreeBytes
pub mod DecodeSteps
pub mod DescSteps
pub mod Items
pub mod Canon
