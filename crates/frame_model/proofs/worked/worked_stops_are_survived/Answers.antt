use Rattle.frame_model.proofs.WorkedLaws.{loses_a_claim_beside_a_stranger, loses_a_claim, loses_no_block, rebuilds_to_exact}
use Rattle.frame_model.proofs.WorkedStops.{stop_adopt_stop}
use Rattle.frame_model.proofs.worked.worked_stops_are_survived.Goals as goal

pub returns-clause-claim : goal.returns-clause-claim
returns-clause-claim c =
    let law = c.every_stop_is_survived.ensures in loses_a_claim law.survived law.exact law.can_stop

pub returns-clause-block : goal.returns-clause-block
returns-clause-block c =
    let law = c.every_stop_is_survived.ensures in loses_no_block law.survived law.exact law.can_stop

pub returns-clause-adopted : goal.returns-clause-adopted
returns-clause-adopted c = stop_adopt_stop c.every_stop_is_survived.ensures.survived

pub returns-clause-rebuilds : goal.returns-clause-rebuilds
returns-clause-rebuilds c =
    let law = c.every_stop_is_survived.ensures in rebuilds_to_exact law.exists law.rebuilt

pub returns-clause-stranger : goal.returns-clause-stranger
returns-clause-stranger c =
    let law = c.every_stop_is_survived.ensures in loses_a_claim_beside_a_stranger law.survived law.exact law.can_stop
