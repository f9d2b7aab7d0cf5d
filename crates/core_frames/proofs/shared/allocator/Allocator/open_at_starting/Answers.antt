use Rattle.std.proofs.Common.{ap, sym, subst, rules}
use Rattle.frame_model.specs.declared.key.Key.{Key}
use Rattle.frame_model.specs.declared.view.View.{View}
use Rattle.frame_model.specs.Openings.{held_blocks}
use Rattle.frame_table.specs.Openings.{unsealed_key}
use Rattle.core_frames.specs.Cores.{memory_of}
use Rattle.core_frames.specs.LeftFrames.{Shows}
use Rattle.core_frames.proofs.CoreLemmas.{opened_with}
use Rattle.core_frames.proofs.LeftLemmas.{shown_at_first}
use Rattle.core_frames.proofs.shared.allocator.Allocator.open_at_starting.Goals as goal

pub returns-clause-opened : goal.returns-clause-opened
returns-clause-opened c =
    opened_with (unsealed_key c.args.image.now.geometry) (record { table = c.in_ok-table.table })
    c.in_ok-cores.cores.items c.in_ok-table.seats.items c.in_ok-table.ensures.opened
    c.in_ok-cores.ensures.seats c.in_ok-cores.ensures.numbers

pub returns-clause-survivors : goal.returns-clause-survivors
returns-clause-survivors c =
    let image = c.args.image.now in
    let key : Key = unsealed_key image.geometry in
    let opened = c.in_ok-table.ensures in
    let left = c.in_ok-left.left in
    let own = ap (λ (v : View). v.own) opened.held in
    let shown : Shows key left.bits.items left.huge.items (held_blocks key image.words) =
    shown_at_first image.geometry image.words left.bits.items left.huge.items c.requires
    c.in_ok-left.ensures.bits c.in_ok-left.ensures.huge in (
      record {
        seat = opened.ground_seat;
        sizes = search rules;
        shown = subst (Shows (memory_of (record { table = c.in_ok-table.table })) left.bits.items left.huge.items) (sym own)
            (subst (λ (k : Key). Shows k left.bits.items left.huge.items (held_blocks key image.words)) (sym opened.opened.memory) shown);
      },
      own,
    )
