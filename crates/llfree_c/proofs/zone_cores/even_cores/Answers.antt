use Rattle.std.proofs.Common.{◌∙◌}
use Rattle.llfree_c.proofs.OpenedZones.{refused_even}
use Rattle.llfree_c.proofs.Options.{if_err}
use Rattle.llfree_c.specs.OpenCores.{HasNoCores}
use Rattle.llfree_c.specs.Openings.{IsUnopenedOnceRead}
use Rattle.llfree_c.proofs.zone_cores.even_cores.Goals as goal

pub returns-clause-err : goal.returns-clause-err
returns-clause-err c = if_err c.cores_in.result (IsUnopenedOnceRead c.in_ok-count.count c.deref.result.now c.deref-2.result.now)
    (HasNoCores c.args.frames c.args.ranges.now c.args.handles.now)
    (λ status never. refused_even c.args.frames c.in_ok-count.count c.deref.result.now c.in-Ok.zones.items c.deref-2.result.now
    c.args.ranges.now c.args.handles.now status c.in_ok-count.ensures.count c.deref.ensures.value
    (c.deref-2.ensures.value ∙ c.in_ok-ranges.ensures.pairs) c.in-Ok.ensures.lawful c.in-Ok.ensures.zones
    (record {
      zone_frames = c.if-not-are_zone_frames.ensures;
      some_cores = c.in_ok-count.ensures.some;
      few_cores = c.in_ok-count.ensures.few;
    }) never)
    c.cores_in.ensures.err
