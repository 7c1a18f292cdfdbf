pub mod EndLemmas
pub mod SceneParts
