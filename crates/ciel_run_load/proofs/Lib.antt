mod Loaded
mod Taken
mod LinesLemmas
