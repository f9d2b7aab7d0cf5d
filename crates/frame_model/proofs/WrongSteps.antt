-- Wrong steps, by the word that they write or the seat that they cut.
pub mod Shared
pub mod Claims
pub mod Entries
pub mod Trees
pub mod Seats
pub mod Met
