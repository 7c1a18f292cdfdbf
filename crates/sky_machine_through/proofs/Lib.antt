pub use Rattle.sky_machine.proofs.Knows
pub mod Goes
pub mod Turns
pub mod KnownNames
pub mod Wholes
pub mod AskedLemmas
