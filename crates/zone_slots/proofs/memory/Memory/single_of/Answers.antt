use Rattle.zone_slots.proofs.Rested.{single_of}
use Rattle.zone_slots.proofs.memory.Memory.single_of.Goals as goal

pub returns-clause-single : goal.returns-clause-single
returns-clause-single c =
    single_of c.args.self.now.zones c.args.held c.frame_at-frame.result c.into_seat-seat.result c.requires.out c.requires.single
    c.frame_at-frame.ensures c.into_seat-seat.ensures
