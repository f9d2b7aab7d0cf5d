pub mod Laid
pub mod Effects
pub mod Lifting
pub mod Becoming
pub mod RunEnds
pub mod Clearing
pub mod Handing
pub mod Dealing
pub mod Parting
pub mod Words
pub mod Gathering
pub mod Imaged
mod Kept
mod Left
pub mod Stopped
