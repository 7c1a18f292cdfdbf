pub mod FormLaw
pub mod Signs
pub mod Awaits
