mod Told
mod Written
pub mod Began
mod Standing
mod Alone
mod Onward
mod Opened
mod OrdersBy
mod Left
