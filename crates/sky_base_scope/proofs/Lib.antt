pub mod OpLaw
pub mod Vars
pub mod Catches
pub mod FunPlaces
