use Rattle.frame_model.proofs.WorkedLaws.{loses_at_most_none, loses_at_most_once, loses_at_most_twice}
use Rattle.frame_model.proofs.WorkedLaws.{loses_at_most_beside_strangers}
use Rattle.frame_model.proofs.worked.worked_stops_lose_few.Goals as goal

pub returns-clause-no_stop : goal.returns-clause-no_stop
returns-clause-no_stop c = loses_at_most_none c.every_stop_is_survived.ensures.survived

pub returns-clause-one_stop : goal.returns-clause-one_stop
returns-clause-one_stop c = loses_at_most_once c.every_stop_is_survived.ensures.survived

pub returns-clause-two_stops : goal.returns-clause-two_stops
returns-clause-two_stops c = loses_at_most_twice c.every_stop_is_survived.ensures.few_lost

pub returns-clause-beside_strangers : goal.returns-clause-beside_strangers
returns-clause-beside_strangers c = loses_at_most_beside_strangers c.every_stop_is_survived.ensures.survived
