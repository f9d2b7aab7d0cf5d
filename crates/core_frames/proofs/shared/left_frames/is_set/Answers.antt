use Rattle.core_frames.proofs.LeftLemmas.{set_or_clear}
use Rattle.core_frames.proofs.shared.left_frames.is_set.Goals as goal

pub returns : goal.returns
returns c = set_or_clear c.args.bits.now c.args.frame
