-- Worked runs: what their steps ask for, and each run.
pub mod Pieces
pub mod Rebuilding
pub mod Adopting
pub mod Lost
pub mod Takes
pub mod Stops
pub mod Splits
