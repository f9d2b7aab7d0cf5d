pub mod Image
pub mod Moves
pub mod Mover
pub mod Acts
pub mod Movers
