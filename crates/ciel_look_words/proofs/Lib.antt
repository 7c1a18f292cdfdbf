pub mod KeptBytes
pub mod ManyWords
