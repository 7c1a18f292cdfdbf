pub mod GroundView
