use Rattle.std.proofs.Common.{◌≡◌, ℕ, length, refl, sym, subst, ◌∙◌, arith}
use Rattle.script_moves.specs.ScriptState.{at_by, MeetsFirst}
use Rattle.script_moves.proofs.Cues.{met_next, loses_now, lost_before, lost_still, loses_at, loses_in, ready_by}
use Rattle.script_moves.proofs.script.stage.Stage.prompt.Goals.{then-meet, else-meet}
use Rattle.script_moves.proofs.script.stage.Stage.prompt.Goals as goal

pub loop-i-init : goal.loop-i-init
loop-i-init c = record { met = refl; loses = λ yes. absurd (cc); all = λ is some. absurd (omega (arith, some.1.1.0)) }

pub loop-i-preserved : goal.loop-i-preserved
loop-i-preserved c =
    let inv = c.loop-i.invariant in
    let m = c.args.self.now in
    let l = c.loop-i.self in
    let n = c.meet.new.self in
    let cue = c.cue_at-cue.result in
    record {
      met = met_next c.args.is_exchange m l n cue c.loop-i.i inv.met c.cue_at-cue.ensures c.meet.ensures.met;
      loses = elim c.if-meet.branch [
        | then-meet w ↦ λ yes. loses_now c.args.is_exchange m l n cue c.loop-i.i inv.met c.cue_at-cue.ensures
            (c.meet.ensures.loses.0 w.if-meet.true)
        | else-meet w ↦ λ yes. let old = inv.loses (sym w.loses-is ∙ yes) in
            (old.0, lost_still c.loop-i.i (at_by m) m.cues.items old.1)
      ];
      all = elim c.if-meet.branch [
        | then-meet w ↦ λ is some. w.loses-is
        | else-meet w ↦ λ is some. w.loses-is ∙ inv.all is
            (lost_before c.args.is_exchange m l n cue c.loop-i.i inv.met c.cue_at-cue.ensures
            (λ by. let yes = c.meet.ensures.loses.1 by in absurd (cc)) is some)
      ];
    }

pub returns-clause-ready : goal.returns-clause-ready
returns-clause-ready c =
    let m = c.args.self.now in
    let all : c.loop-i.i ≡ length m.cues.items =
    omega (arith, c.loop-i-test.false, c.loop-i.auto.i-end, c.len-i-end.ensures, m.cues.ok) in
    ready_by m c.loop-i.self c.args.is_exchange
    (subst (λ (n : ℕ). MeetsFirst m.cues.items c.args.is_exchange n m c.loop-i.self) all c.loop-i.invariant.met)

pub returns-clause-loses : goal.returns-clause-loses
returns-clause-loses c =
    let m = c.args.self.now in
    let inv = c.loop-i.invariant in
    let all : c.loop-i.i ≡ length m.cues.items =
    omega (arith, c.loop-i-test.false, c.loop-i.auto.i-end, c.len-i-end.ensures, m.cues.ok) in (
      λ yes. let some = inv.loses yes in (some.0, loses_at c.loop-i.i (at_by m) m.cues.items some.1),
      λ by. inv.all by.0 (loses_in c.loop-i.i (at_by m) m.cues.items all by.1),
    )
