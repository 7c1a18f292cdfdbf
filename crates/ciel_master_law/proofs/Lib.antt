pub mod ShopLaws
pub mod Binds
mod CallVariables
pub mod DescriptionsTold
