use Rattle.core_frames.proofs.DeskLemmas.{new_desk}
use Rattle.core_frames.proofs.shared.desk.Desk.new.Goals as goal

pub returns-clause-desk : goal.returns-clause-desk
returns-clause-desk c = λ a is. new_desk a _ is c.new.ensures.entries c.requires
