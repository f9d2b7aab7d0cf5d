-- One lemma for each kind of step: it keeps the fit. One file for each class.
pub mod Shared
pub mod Counting
pub mod Trees
pub mod Locals
pub mod Marking
pub mod Huge
pub mod Seats
pub mod SeatViews
pub mod Cutting
pub mod Joining
pub mod Every
pub mod Untouched
pub mod SeatsFrames
