pub mod Lying
pub mod Placing
pub mod Sums
pub mod Rounds
pub mod Staying
pub mod Counted
pub mod Apart
pub mod Dealing
pub mod Begun
pub mod Gathering
pub mod Parted
pub mod Closed
pub mod Reopened
pub mod Stopped
pub mod Found
pub mod Placed
mod Looked
pub mod Pairing
