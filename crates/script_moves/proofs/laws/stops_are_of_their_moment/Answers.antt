use Rattle.std.proofs.Common.{⊎_elim, ◌≡◌, ◌<◌, ◌+◌, inl, arith}
use Rattle.plain_moves.specs.PlainState.{view_by}
use Rattle.script_moves.specs.ScriptMoves.{plain_by}
use Rattle.script_moves.proofs.Stops.{steps_counted, steps_keep}
use Rattle.script_moves.proofs.laws.stops_are_of_their_moment.Goals as goal

pub returns-clause-stops : goal.returns-clause-stops
returns-clause-stops c = λ m ws s. (s.is_cue, (s.stops, s.in_count))

pub returns-clause-moved : goal.returns-clause-moved
returns-clause-moved c = λ m ws s. s.moves

pub returns-clause-fits : goal.returns-clause-fits
returns-clause-fits c = λ m ws s. s.fit

pub returns-clause-since : goal.returns-clause-since
returns-clause-since c = λ m ws s exact. steps_counted s.steps s.caller (view_by (plain_by m)) s.since exact

pub returns-clause-same : goal.returns-clause-same
returns-clause-same c = λ m ws s. steps_keep s.steps s.caller (view_by (plain_by m)) s.since

pub returns-clause-latest : goal.returns-clause-latest
returns-clause-latest c = λ m ws s k cue is stops reached.
    ⊎_elim (λ (lt : cue.at < s.cue.at). omega (arith, lt))
    (λ (at : (cue.at ≡ s.cue.at) × (k < s.place + 1)). omega (arith, at.0))
    (s.last k cue is stops (inl reached))

pub returns-clause-last : goal.returns-clause-last
returns-clause-last c = λ m ws s k cue is stops reached same.
    ⊎_elim (λ (lt : cue.at < s.cue.at). absurd (omega (arith, lt, same)))
    (λ (at : (cue.at ≡ s.cue.at) × (k < s.place + 1)). omega (arith, at.1))
    (s.last k cue is stops (inl reached))
