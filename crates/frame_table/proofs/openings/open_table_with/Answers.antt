use Rattle.std.proofs.Common.{sym, subst}
use Rattle.frame_words.specs.declared.geometry.Geometry.{Geometry}
use Rattle.frame_model.specs.Key.{sealed_key, AreRanges}
use Rattle.frame_model.specs.Openings.{IsSealedOpening}
use Rattle.frame_table.proofs.openings.open_table_with.Goals as goal

pub open_sealed-requires-clause-ranges : goal.open_sealed-requires-clause-ranges
open_sealed-requires-clause-ranges c =
    subst (λ (g : Geometry). AreRanges 0 g.frames c.args.ranges.now) (sym c.in_ok-image.ensures.geometry) c.requires.ranges

pub open_sealed-requires-clause-opens : goal.open_sealed-requires-clause-opens
open_sealed-requires-clause-opens c =
    let made = c.in_ok-image.ensures in
    subst (λ (g : Geometry). IsSealedOpening (sealed_key g c.args.ranges.now) c.in_ok-image.image.words) (sym made.geometry) made.opens
