pub mod Inside
pub mod FilledLemmas
pub mod NodesByNumber
pub mod PartsLemmas
pub mod BlockSearch
