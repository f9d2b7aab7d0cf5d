use Rattle.std.proofs.lemmas.Result.{IfOk-weaker}
use Rattle.llfree_trace.proofs.many_streams.run_many_text.Goals as goal

pub returns-clause-ok : goal.returns-clause-ok
returns-clause-ok g c =
    IfOk-weaker c.shown_apart.result _ _
    (λ out spells. record {
      lines = c.in_ok-trace.trace;
      answers = c.in_ok-outcome.outcome.answers.items;
      image = c.in_ok-outcome.outcome.image;
      says = c.in_ok-trace.ensures.found;
      of = c.in_ok-outcome.ensures.geometry;
      ranges = c.in_ok-outcome.ensures.lawful;
      fits = c.in_ok-outcome.ensures.fits;
      counters = c.in_ok-outcome.ensures.counters;
      spells = spells;
    }) c.shown_apart.ensures.text
