pub mod Real
pub mod Inner
pub mod RealLaws
pub mod Histories
pub mod Report
pub mod Laws
pub mod Names
