use Rattle.std.proofs.Common.{inl, inr, ap, sym, subst, ◌∙◌}
use Rattle.plain_moves.specs.declared.plain.PlainMoves.{PlainMoves}
use Rattle.script_moves.specs.declared.script.cue.What.{What}
use Rattle.plain_moves.specs.PlainState.{IsStill, IsUnmoved}
use Rattle.script_moves.specs.ScriptState.{one_skipped, CountsCue}
use Rattle.script_moves.proofs.script.stage.Stage.play.Goals as goal

pub returns-then-not-acts-clause-happens : goal.returns-then-not-acts-clause-happens
returns-then-not-acts-clause-happens c =
    let stranger = c.in-Stranger.is in
    let asked = c.acts.ensures in
    let after = c.skip-then-not-acts.ensures in
    record {
      still = subst (λ (m : PlainMoves). IsStill c.args.self.now.plain m) (sym after.plain) asked.still;
      untold = record {
        cues = after.untold.cues ∙ asked.only.untold.cues;
        read = after.untold.read ∙ asked.only.untold.read;
        begun = after.untold.begun ∙ asked.only.untold.begun;
        missed = after.untold.missed ∙ asked.only.untold.missed;
      };
      counts = subst (λ (w : What). CountsCue w c.args.is_exchange c.args.self.now c.skip-then-not-acts.new.self)
          (sym stranger) (inr (
            after.skipped ∙ ap one_skipped asked.only.skipped,
            (
              asked.refused c.if-not-acts.true,
              subst (λ (m : PlainMoves). IsUnmoved c.args.self.now.plain m) (sym after.plain)
                  (asked.same c.if-not-acts.true),
            ),
          ));
      loses = λ is. absurd (cc);
      stops = λ is. absurd (cc);
      goes_on = λ on. record {
        has_stopped = after.shows.has_stopped ∙ asked.only.has_stopped;
        stop = after.shows.stop ∙ asked.only.stop;
      };
    }

pub returns-else-not-acts-clause-happens : goal.returns-else-not-acts-clause-happens
returns-else-not-acts-clause-happens c =
    let stranger = c.in-Stranger.is in
    let asked = c.acts.ensures in
    record {
      still = asked.still;
      untold = asked.only.untold;
      counts = subst (λ (w : What). CountsCue w c.args.is_exchange c.args.self.now c.acts.new.self) (sym stranger)
          (inl (asked.only.skipped, (asked.allowed c.if-not-acts.false, asked.made c.if-not-acts.false)));
      loses = λ is. absurd (cc);
      stops = λ is. absurd (cc);
      goes_on = λ on. record { has_stopped = asked.only.has_stopped; stop = asked.only.stop };
    }
