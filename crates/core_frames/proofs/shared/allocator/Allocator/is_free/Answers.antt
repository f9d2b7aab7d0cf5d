use Rattle.std.proofs.Common.{◌≡◌, ◌<◌, sym, refl, subst, ap, arith, rules}
use Rattle.frame_model.specs.declared.view.View.{View}
use Rattle.frame_model.specs.Block.{block}
use Rattle.frame_table.specs.Seats.{key_at, view_of, reads_of}
use Rattle.frame_table.specs.declared.seats.CoreSeat.{CoreSeat}
use Rattle.frame_table.specs.declared.table.FrameTable.{FrameTable}
use Rattle.core_frames.specs.Bounds.{most_to_look}
use Rattle.core_frames.specs.Looks.{IsSameWithin, TellsRead}
use Rattle.core_frames.specs.Places.{HasSuchBlock}
use Rattle.core_frames.proofs.LookLemmas.{loaded_counted, loaded_moved}
use Rattle.core_frames.proofs.shared.allocator.Allocator.is_free.Goals as goal

pub returns-clause-looks : goal.returns-clause-looks
returns-clause-looks c =
    let looks = c.is_free_by.ensures in
    let begun = c.new-m.ensures.same in
    let old = c.new-m.result in
    let now = view_of c.is_free_by.new.m.seat.now in
    record {
      view = subst (λ (s : CoreSeat). IsSameWithin (most_to_look c.args.order) (view_of s) now) begun.1
          (loaded_counted (most_to_look c.args.order) (view_of old.seat.now) now looks.view);
      same_habit = refl;
      moved = λ has.
          subst (λ (s : CoreSeat). (view_of s).moves < now.moves) begun.1
          (loaded_moved (view_of old.seat.now) now
          (looks.loaded (subst (λ (t : FrameTable). HasSuchBlock (key_at t) (block c.args.frame c.args.order)) (sym begun.0) has)));
      no_place = λ no.
          subst (λ (s : CoreSeat). now ≡ view_of s) begun.1
          (looks.no_place (λ has. no (subst (λ (t : FrameTable). HasSuchBlock (key_at t) (block c.args.frame c.args.order)) begun.0 has)));
      has = λ e. subst (λ (t : FrameTable). HasSuchBlock (key_at t) (block c.args.frame c.args.order)) begun.0 (looks.has e);
      seen = subst (λ (t : FrameTable). TellsRead (key_at t) (reads_of c.is_free_by.new.m.seat.now)
          (block c.args.frame c.args.order) c.is_free_by.result) begun.0 looks.seen;
      alone = search rules;
    }

pub returns-clause-moves : goal.returns-clause-moves
returns-clause-moves c =
    let same = (returns-clause-looks c).view in
    omega (arith, same.1.0, ap (λ (v : View). v.moves) same.1.1)

pub returns-clause-core : goal.returns-clause-core
returns-clause-core c =
    let view = (returns-clause-looks c).view in
    let same = view.1.1 in
    record {
      is_core = record {
        seat = record {
          sits = search rules;
          idle = search rules;
        };
        number = c.requires.number;
      };
      same_number = refl;
      stays_alone = search rules;
    }
