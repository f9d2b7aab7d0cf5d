use Rattle.std.proofs.Common.{rules}
use Rattle.frame_table.proofs.Words.{fits_before}
use Rattle.frame_table.proofs.shared.SharedMoves.add.Goals as goal

pub returns : goal.returns
returns g c = record {
  keeps = search rules;
  missed = search rules;
  view = search rules;
  reads = search rules;
  words = search rules;
  recalled = search rules;
  fits = λ all ws e. fits_before c.args.self.now _ _ _ _ all c.add_as.ensures.stays.learns ws e;
  knows = search rules;
  apart = search rules;
}
