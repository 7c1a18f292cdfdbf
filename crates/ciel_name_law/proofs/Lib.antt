pub mod Bare
pub mod Made
pub mod TokenKinds
pub mod Scripts
pub mod Lowered
pub mod JsonTexts
pub mod JsonTokens
pub mod JsonTyped
