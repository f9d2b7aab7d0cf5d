use Rattle.std.proofs.Common.{◌≡◌, ◌<◌, slice_index_or, ◌∙◌, arith}
use Rattle.std.proofs.lemmas.List.{get_or_default}
use Rattle.frame_zones.specs.Zones.{zone_count, first_frame_of}
use Rattle.frame_zones.proofs.Found.{not_in}
use Rattle.frame_zones.proofs.zones.Zones.number_in.Goals as goal

pub returns-then-local-from-clause-none : goal.returns-then-local-from-clause-none
returns-then-local-from-clause-none c =
    let zs = c.args.self.now in
    let within : c.args.zone < zone_count zs = omega (arith, c.if-zone-len.false, c.len.ensures) in
    let first : c.index-first.result.now ≡ first_frame_of zs c.args.zone =
    c.index-first.ensures
    ∙ get_or_default zs.firsts.items c.args.zone c.index-first.result.now 0 (omega (arith, within, zs.laid_out.count)) in
    let frames : c.index.result.now ≡ slice_index_or zs.frames.items c.args.zone 0 =
    c.index.ensures
    ∙ get_or_default zs.frames.items c.args.zone c.index.result.now 0 (omega (arith, within, zs.sized.count)) in
    not_in zs c.args.frame c.args.zone (omega (arith, first, c.if-frame-first.false))
    (omega (arith, first, frames, c.from.ensures, c.if-local-from.true))
