mod Swept
pub mod Alone
pub mod Nexts
pub mod Choices
pub mod LostLemmas
pub mod Listed
pub mod Stays
