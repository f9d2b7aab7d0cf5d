-- A run that does happen, which uses every kind of step, cut and join.
pub mod Pieces
pub mod Steps
pub mod Whole
