use Rattle.plain_moves.proofs.PlainOthers.{unmoved_self}
use Rattle.script_moves.proofs.script.stage.Stage.acts.Goals as goal

pub returns-then-who-lt-STRANGERS-clause-allowed : goal.returns-then-who-lt-STRANGERS-clause-allowed
returns-then-who-lt-STRANGERS-clause-allowed c = λ yes. (c.if-who-lt-STRANGERS.true, search (c.stranger.ensures.allowed yes))

pub returns-else-who-lt-STRANGERS-clause-same : goal.returns-else-who-lt-STRANGERS-clause-same
returns-else-who-lt-STRANGERS-clause-same c = λ no. unmoved_self c.args.self.now.plain
