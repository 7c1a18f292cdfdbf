pub mod Ends
pub mod Whole
pub mod UsesLaw
pub mod KeysLaw
