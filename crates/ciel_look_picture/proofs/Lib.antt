pub mod Drawing
pub mod NodeTitles
