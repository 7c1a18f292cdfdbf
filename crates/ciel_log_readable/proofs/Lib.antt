pub mod Names
pub mod Nodes
pub mod Stacks
pub mod Jobs
pub mod Events
pub mod Read
