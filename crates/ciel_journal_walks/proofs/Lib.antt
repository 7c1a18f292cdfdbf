pub mod ReportContents
pub mod Middle
pub mod Right
pub mod WalkResults
