pub mod Bounds
pub mod BoundNumbers
pub mod Caches
pub mod Uses
