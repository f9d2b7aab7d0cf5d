-- What the words leave free where nothing is in flight, and what a charge, a run and a flag change of it.
pub mod Fits
pub mod Free
pub mod Charged
pub mod Claimed
pub mod Taken
pub use Rattle.low_frames.proofs.ViewLemmas.{is_covered, covered_from}
pub use Rattle.low_frames.proofs.RoomLemmas.Fits.{FitsAlone, entries_alone, range_alone}
pub use Rattle.low_frames.proofs.RoomLemmas.Free.{held_room, free_block_counts, none_of_few, none_of_part, free_is_run, none_of_runs}
pub use Rattle.low_frames.proofs.RoomLemmas.Charged.{runs_before, refund_back}
pub use Rattle.low_frames.proofs.RoomLemmas.Claimed.{bits_more}
pub use Rattle.low_frames.proofs.RoomLemmas.Taken.{small_taken, huge_taken}
