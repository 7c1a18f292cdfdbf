pub mod HeldLaw
pub mod NamesLaw
pub mod MadeLaw
