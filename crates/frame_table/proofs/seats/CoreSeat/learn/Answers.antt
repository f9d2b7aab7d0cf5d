use Rattle.std.proofs.Common.{arith}
use Rattle.frame_model.specs.declared.view.View.{View}
use Rattle.frame_model.specs.Words.{word_count}
use Rattle.frame_model.proofs.Steps.Shared.{at-le-total}
use Rattle.frame_table.specs.Seats.{key_at, view_of}
use Rattle.frame_table.proofs.seats.CoreSeat.learn.Goals as goal

pub returns-clause-share : goal.returns-clause-share
returns-clause-share c =
    let key = key_at c.args.table.now in
    let fits = c.load.ensures.learns.fits in
    omega (
      arith,
      at-le-total key key.cores _ fits.0 fits.1.0 (view_of c.load.new.self) fits.1.1.0 fits.1.1.1 (λ (v : View). v.share),
      fits.1.1.0.shares_add_up,
    )

pub load-requires-clause-word : goal.load-requires-clause-word
unfolding word_count
load-requires-clause-word c = omega arith
