use Rattle.std.specs.Prelude.{◌<◌, IfSome}
use Rattle.frame_model.specs.View.{IsIdle}
use Rattle.plain_moves.specs.Plain.{IsOutIn}
use Rattle.plain_moves.specs.PlainState.{key_by, view_by, IsByItself}
use Rattle.frame_tests.proofs.tests.stops.open_after.Given as goal

abbrev pub invariant-loop-order : goal.invariant-loop-order
invariant-loop-order l = record {
  company : IsByItself l.m;
  core : 0 < (key_by l.m).cores;
  idle : IsIdle (view_by l.m);
  out : IfSome l.last (λ b. IsOutIn l.m.outs.items b);
}
