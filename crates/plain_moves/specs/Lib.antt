pub mod Acts
pub mod Allowed
pub mod Apart
pub mod Plain
pub mod PlainLaws
pub mod PlainState
pub mod Readers
