use Rattle.std.proofs.Common.{refl, sym, subst}
use Rattle.frame_model.specs.declared.place.Place.TheVariants.{Local}
use Rattle.frame_model.specs.Words.{IsRest}
use Rattle.frame_table.specs.Seats.{key_at, words_known_by}
use Rattle.frame_table.proofs.Words.{swapped_rest}
use Rattle.frame_table.proofs.shared.moves.SharedMovesMoves.swap_local.Goals as goal

pub returns : goal.returns
returns c = let s = c.swap.ensures.finds in record {
  keeps = s.keeps;
  missed = s.missed;
  view = (c.swap.result, sym c.local_of.ensures, s.view);
  is_rest = subst (IsRest (key_at c.args.self.now.table.now)) (sym c.local_of.ensures)
      (c.swap.ensures.found (Local c.args.core) c.requires.may.inside refl);
  reads = s.reads;
  words = λ all. swapped_rest (words_known_by c.args.self.now.seat.now) (words_known_by c.swap.new.self.seat.now) (key_at c.args.self.now.table.now)
      c.args.core c.args.put c.swap.result c.local_of.result (sym c.local_of.ensures) (c.swap.ensures.words all);
  apart = s.apart;
}
