mod SearchInvariants
mod UnmetWalks
pub mod SeenFlags
pub mod Rows
pub mod PickedLists
pub mod WaitedRows
pub mod ReachedRows
pub mod FlaggedTasks
pub mod RowCircles
pub mod Listed
pub mod OutFlags
pub mod RunnableTasks
pub mod ReadyFlags
pub mod ReadyRows
pub mod WantAnswers
pub mod NamedWaits
pub mod WholenessTest
pub mod HistoryAgreement
pub mod HistoryTables
