pub mod Numbers
pub mod Apart
pub mod ImageLemmas
pub mod FreshWords
pub mod Counters
pub mod SetRuns
pub mod Blank
pub mod SameWords
