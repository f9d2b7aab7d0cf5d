use Rattle.std.proofs.Common.{◌≡◌, true}
use Rattle.script_moves.specs.ScriptState.{at_by, MeetsFirst}
use Rattle.script_moves.proofs.Cues.{LosesIn}
use Rattle.script_moves.proofs.script.stage.Stage.prompt.Given as goal

abbrev pub invariant-loop-i : goal.invariant-loop-i
invariant-loop-i l = record {
  met : MeetsFirst l.initial.self.cues.items l.initial.is_exchange l.i l.initial.self l.self;
  loses : l.loses ≡ true → (l.initial.is_exchange ≡ true) × LosesIn l.i (at_by l.initial.self) l.initial.self.cues.items;
  all : l.initial.is_exchange ≡ true → LosesIn l.i (at_by l.initial.self) l.initial.self.cues.items → l.loses ≡ true;
}
