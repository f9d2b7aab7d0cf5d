pub mod Memory
pub mod Nodes
pub mod Knowing
pub mod Searches
