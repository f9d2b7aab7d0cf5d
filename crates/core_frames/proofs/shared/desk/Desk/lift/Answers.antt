use Rattle.std.proofs.Common.{sym, ap}
use Rattle.frame_model.specs.declared.view.View.{View}
use Rattle.held_blocks.specs.Desk.{GivesFirst}
use Rattle.core_frames.proofs.DeskLemmas.{is_kept, lifted}
use Rattle.core_frames.proofs.shared.desk.Desk.lift.Goals as goal

pub recall-requires-clause-kept : goal.recall-requires-clause-kept
recall-requires-clause-kept c =
    is_kept c.args.allocator.now c.args.self.now c.remove_oldest.new.self.entries c.in-Some.oldest _ c.requires c.in-Some.ensures.taken

pub returns-in-Some-clause-desk : goal.returns-in-Some-clause-desk
returns-in-Some-clause-desk c = record {
  is_desk =
      lifted c.args.allocator.now c.args.self.now c.remove_oldest.new.self
      c.in-Some.oldest _ c.recall.new.core c.requires c.in-Some.ensures.taken
      c.recall.ensures.core.is_core (ap (λ (v : View). v.kept) c.recall.ensures.recalls);
  same_number = c.recall.ensures.core.same_number;
}

pub returns-in-Some-clause-lifts : goal.returns-in-Some-clause-lifts
unfolding GivesFirst
returns-in-Some-clause-lifts c = (c.in-Some.oldest, sym c.recall.ensures.block.0, c.in-Some.ensures.taken)

pub returns-in-None-clause-lifts : goal.returns-in-None-clause-lifts
unfolding GivesFirst
returns-in-None-clause-lifts c = (c.in-None.ensures.none, c.in-None.ensures.unchanged)
