mod Rows
pub mod Leaves
pub mod TextUtf8
pub mod Spans
pub mod Places
pub mod LexingSteps
pub mod SpellingUtf8
pub mod Decimal
pub mod SpellingLaw
pub mod PartsLaw
pub mod Within
