pub mod Builds
pub mod Wholes
pub mod Moves
pub mod ReadsLaw
pub mod ExpLaw
pub mod ParamsLaw
pub mod FunctionLaw
pub mod LevelsLaw
