pub mod Desks
pub mod Moving
pub mod Running
pub mod Commands
mod FilterLemmas
pub mod Boot
mod Replies
pub mod Workers
pub mod Merging
pub mod Interleaving
mod NewDesks
pub mod MovingDesks
pub mod GoingOn
mod Ended
mod Tallies
pub mod WrongRecords
pub mod WrongEnds
pub mod WrongTexts
pub mod WorkedOutcome
