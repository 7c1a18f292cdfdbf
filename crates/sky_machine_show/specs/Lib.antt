pub mod Given
pub mod Shows
pub mod Standing
