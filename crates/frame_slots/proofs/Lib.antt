pub mod GapBits
pub mod HeldBack
pub mod Overlaps
pub mod Replaying
pub mod Searches
pub mod SlotLists
