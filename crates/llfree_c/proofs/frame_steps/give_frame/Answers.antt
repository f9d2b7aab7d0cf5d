use Rattle.std.proofs.Common.{rules}
use Rattle.llfree_c.proofs.RestingFrames.{frame_given}
use Rattle.llfree_c.proofs.frame_steps.give_frame.Goals as goal

pub returns-clause-given : goal.returns-clause-given
returns-clause-given c =
    λ _. (
      search rules,
      search rules,
      search rules,
      frame_given c.args.held.now.frame _ c.args.state.now c.give_frame.new.self (search rules) c.give_frame.ensures.rests
          c.give_frame.ensures.full,
    )
