use Rattle.std.specs.List.{All}
use Rattle.frame_zones.specs.Reopening.{IsReopenable}
use Rattle.zone_tests.proofs.tests.reopenings.rebuilt.Given as goal

abbrev pub invariant-loop-zone : goal.invariant-loop-zone
invariant-loop-zone l = All IsReopenable l.rebuilt.items
