use Rattle.std.proofs.Common.{refl, ap, sym, subst, ◌∙◌, rules}
use Rattle.std.proofs.lemmas.List.Elements.{All-contains}
use Rattle.frame_model.specs.Block.{block, IsBlock}
use Rattle.frame_model.proofs.Steps.SeatViews.{blocks_are}
use Rattle.frame_model.proofs.Without.{contains_times, less_one_leaves}
use Rattle.frame_table.specs.Seats.{key_at, view_of}
use Rattle.frame_table.proofs.shared.SharedMoves.recall.Goals as goal

pub cut_as-seat-requires-clause-may : goal.cut_as-seat-requires-clause-may
cut_as-seat-requires-clause-may c =
    let m = c.args.self.now in
    let key = key_at m.table.now in
    let b = block c.args.frame c.args.order in
    let kept = (view_of m.seat.now).kept in
    let blocks = (blocks_are key (view_of m.seat.now) m.sits.at.is_view).1 in
    record {
      share = m.sits.some;
      not_ground = m.sits.not_ground;
      is_kept = c.requires;
      is_block = All-contains (IsBlock key) kept b blocks c.requires;
      leaves = less_one_leaves key b kept blocks (contains_times kept b c.requires);
    }

pub returns : goal.returns
returns c =
    let m = c.args.self.now in
    let key = key_at m.table.now in
    let b = block c.args.frame c.args.order in
    let kept = (view_of m.seat.now).kept in
    let blocks = (blocks_are key (view_of m.seat.now) m.sits.at.is_view).1 in
    let is = ap (λ f. block f c.of.result.order) c.of.ensures.0 ∙ ap (block c.args.frame) c.of.ensures.1 in
    record {
      keeps = search rules;
      missed = refl;
      view = c.cut_as-seat.ensures.view;
      is_block = is;
      is_out = record {
        table = search rules;
        about = search rules;
        is_block = subst (IsBlock key) (sym is) (All-contains (IsBlock key) kept b blocks c.requires);
      };
      reads = c.cut_as-seat.ensures.reads;
    }
