pub mod Devices
pub mod Numbers
pub mod Records
pub mod BitWords
pub mod ImageText
