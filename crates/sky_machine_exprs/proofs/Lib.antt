pub mod Chains
pub mod LastSigns
pub mod Firsts
pub mod Leaves
