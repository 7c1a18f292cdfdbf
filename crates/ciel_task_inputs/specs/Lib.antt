pub use Rattle.ciel_journal_walks.specs.Walk
pub use Rattle.ciel_journal_walks.specs.Laws as JournalWalksLaws
pub mod Lies
pub mod Index
pub mod Gathers
pub mod Brought
pub mod Copies
pub mod Laws
pub mod Fetched
