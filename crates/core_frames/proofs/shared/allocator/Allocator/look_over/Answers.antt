use Rattle.std.proofs.Common.{◌≡◌, ◌+◌, refl, subst, ◌∙◌, rules}
use Rattle.frame_model.specs.Words.{entry_word_count}
use Rattle.frame_table.specs.Seats.{key_at, view_of}
use Rattle.frame_table.specs.declared.seats.CoreSeat.{CoreSeat}
use Rattle.frame_table.specs.declared.table.FrameTable.{FrameTable}
use Rattle.core_frames.proofs.EntriesRead.{loads_counted}
use Rattle.core_frames.proofs.shared.allocator.Allocator.look_over.Goals as goal

pub returns-clause-view : goal.returns-clause-view
returns-clause-view c =
    let looks = c.free_counts_by-counts.ensures in
    let begun = c.new-m.ensures.same in
    let old = c.new-m.result in
    let now = view_of c.free_counts_by-counts.new.m.seat.now in
    subst (λ (s : CoreSeat). now ≡ record (view_of s) { moves = (view_of s).moves + entry_word_count (key_at c.args.self.now.table) })
    begun.1
    (subst (λ (t : FrameTable). now ≡ record (view_of old.seat.now) { moves = (view_of old.seat.now).moves + entry_word_count (key_at t) })
    begun.0 (looks.view ∙ loads_counted (entry_word_count (key_at old.table.now)) (view_of old.seat.now)))

pub returns-clause-core : goal.returns-clause-core
returns-clause-core c =
    let view = returns-clause-view c in
    record {
      is_core = record {
        seat = record {
          sits = search rules;
          idle = search rules;
        };
        number = c.requires.number;
      };
      same_number = refl;
      stays_alone = search rules;
    }
