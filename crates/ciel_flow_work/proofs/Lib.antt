pub mod AheadLaw
pub mod OrderAhead
