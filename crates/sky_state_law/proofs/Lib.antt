pub mod MadeSegments
pub mod Before
pub mod HeldDescriptions
