pub mod Claims
pub mod Numbers
pub mod SlotLists
pub mod Slots
pub mod Reopenings
