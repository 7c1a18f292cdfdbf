pub mod NonemptyNames
pub mod Ordered
