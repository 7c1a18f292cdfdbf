pub mod Exact
mod Over
mod Modest
mod Headline
mod Troubles
mod Others
mod Recalled
mod Remembered
mod Kept
