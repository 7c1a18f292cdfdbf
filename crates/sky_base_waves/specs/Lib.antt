pub mod Wave
pub mod WaveView
pub mod Seen
