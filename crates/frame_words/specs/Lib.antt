pub mod Faults
pub mod Geometry
pub mod Runs
pub mod Words
