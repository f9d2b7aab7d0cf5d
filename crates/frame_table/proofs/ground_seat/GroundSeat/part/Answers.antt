use Rattle.frame_model.specs.Block.{block}
use Rattle.frame_model.proofs.Steps.SeatViews.{blocks_are}
use Rattle.frame_model.proofs.Without.{without_leaves}
use Rattle.frame_table.specs.Seats.{key_at}
use Rattle.frame_table.specs.Openings.{ground_view}
use Rattle.frame_table.proofs.ground_seat.GroundSeat.part.Goals as goal

pub cut_seat-seat-requires-clause-may : goal.cut_seat-seat-requires-clause-may
cut_seat-seat-requires-clause-may c =
    let key = key_at c.args.table.now in
    let b = block c.args.frame c.args.order in
    let left = c.requires.block in
    let own = (ground_view c.args.self.now).own in
    record {
      share = c.requires.seat.share;
      is_ground = c.requires.seat.is_ground;
      is_block = left.is_block;
      inside = left.exists;
      leaves = without_leaves key b own left.is_block
          (blocks_are key (ground_view c.args.self.now) c.requires.seat.at.is_view).0 left.held;
    }
