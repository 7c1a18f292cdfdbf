pub mod KeptReports
