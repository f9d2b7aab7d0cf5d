pub mod Fields
pub mod Behind
pub mod Parsing
pub mod Cutting
pub mod Joining
pub mod InParts
pub mod Spelling
