use Rattle.std.proofs.Common.{sym, subst}
use Rattle.std.specs.List.{All}
use Rattle.std.proofs.lemmas.List.Elements.{All-push}
use Rattle.frame_zones.specs.Reopening.{IsReopenable}
use Rattle.zone_tests.proofs.tests.reopenings.rebuilt.Goals as goal

pub loop-zone-preserved : goal.loop-zone-preserved
loop-zone-preserved c =
    subst (All IsReopenable) (sym c.in_ok-push.ensures.items)
    (All-push IsReopenable _ _ c.loop-zone.invariant c.in_ok-image.ensures)
