-- A stop: rebuilt words are exact and fit the seats of the new opening, and what is known and lost over stops.
pub mod Rebuilding
pub mod Reopened
pub mod Known
pub mod Between
pub mod Stop
pub mod Survival
pub mod Existing
pub mod Reopening
pub mod Sample
