pub mod GivenObjects
pub mod Copied
pub mod OrderTask
pub mod ReportTruth
pub mod ReportPlaces
pub mod ReportPromise
mod ReportSafety
