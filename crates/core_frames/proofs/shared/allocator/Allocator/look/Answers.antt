use Rattle.std.proofs.Common.{◌∙◌, ap, subst}
use Rattle.frame_core.specs.Mover.{IsApart}
use Rattle.frame_model.specs.declared.view.View.{View}
use Rattle.frame_table.specs.Seats.{key_at, view_of}
use Rattle.frame_table.specs.declared.seats.CoreSeat.{CoreSeat}
use Rattle.frame_table.specs.declared.table.FrameTable.{FrameTable}
use Rattle.core_frames.specs.Cores.{memory_of, view_in}
use Rattle.core_frames.proofs.DeskLemmas.{kept_apart}
use Rattle.core_frames.proofs.shared.allocator.Allocator.look.Goals as goal

pub returns-clause-apart : goal.returns-clause-apart
returns-clause-apart c =
    let seen = c.load.ensures in
    let begun = c.new-m.ensures.same in
    kept_apart (memory_of c.args.self.now) (view_in c.args.core.now) (view_of c.load.new.self.seat.now)
    (ap (λ (v : View). v.own) seen.view ∙ ap (λ (s : CoreSeat). (view_of s).own) begun.1 ∙ c.requires.seat.idle.own)
    (ap (λ (v : View). v.kept) seen.view ∙ ap (λ (s : CoreSeat). (view_of s).kept) begun.1)
    c.requires.seat.sits.at.is_view
    (subst (λ (t : FrameTable). IsApart (key_at t) (view_of c.load.new.self.seat.now)) begun.0 seen.apart)
