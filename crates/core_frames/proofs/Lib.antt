pub mod PlainBytes
pub mod PlainCalls
pub mod PlainHeld
pub mod PlainKeys
pub mod PlainPermutations
pub mod PlainSums
pub mod Carried
pub mod KeptFrames
pub mod Exhausted
mod Missed
mod WorkedMisses
pub mod AloneSearch
pub mod SureSteps
pub mod SearchSteps
pub mod SplitLemmas
pub mod SplitAlone
pub mod JoinLemmas
pub mod RangeLemmas
mod EntriesRead
mod FreePlain
mod CoreLemmas
mod LeftLemmas
mod Adopting
mod DeskLemmas
mod FoundLemmas
pub mod LookLemmas
pub mod PlaceLemmas
pub mod FillLemmas
pub mod GivenWords
