pub mod Label
pub mod LabelledBlocks
pub mod Desk
pub mod LabelChains
pub mod Pages
pub mod SlotPages
pub mod Slots
pub mod BlockStore
