use Rattle.std.proofs.Common.{arith}
use Rattle.frame_words.specs.declared.geometry.Geometry.{Geometry}
use Rattle.frame_model.specs.declared.key.Key.{Key}
use Rattle.frame_model.specs.Key.{key_of}
use Rattle.frame_core.proofs.SetRuns.{range_inside, range_set}
use Rattle.frame_core.proofs.image.fresh.hold_ranges.Goals as goal

pub hold-requires-clause-inside : goal.hold-requires-clause-inside
hold-requires-clause-inside c =
    let g : Geometry = c.args.geometry in
    omega (
      arith,
      range_inside 0 g.frames c.args.ranges.now c.loop-from.from-index c.requires.ranges c.loop-from-test.true,
      g.frames_in_children,
    )

pub loop-from-preserved : goal.loop-from-preserved
loop-from-preserved c =
    let key : Key = key_of c.args.geometry in
    let inv = c.loop-from.invariant in
    record {
      uncounted = c.hold.ensures.uncounted;
      set = range_set key c.args.ranges.now c.loop-from.from-index c.args.words.now.items c.loop-from.words.items c.hold.new.words.items
          c.loop-from-test.true inv.set c.hold.ensures.set;
    }
