use Rattle.std.proofs.Common.{rules, ◌≡◌, ℕ, ◌+◌, ◌/◌, ◌<◌, List, drop, sym, ◌∙◌, ap, subst, arith}
use Rattle.std.specs.declared.alloc.Global.{Global}
use Rattle.std.specs.declared.vec.Vec.{Vec}
use Rattle.std.proofs.lemmas.List.{get_or_default}
use Rattle.frame_model.specs.declared.block.FrameBlock.{FrameBlock}
use Rattle.frame_table.specs.Ties.{table_sizes}
use Rattle.core_frames.specs.declared.shared.allocator.Allocator.{Allocator}
use Rattle.core_frames.specs.Cores.{memory_of}
use Rattle.frame_slots.specs.Reopenings.{KeepsHeldBeside}
use Rattle.frame_slots.specs.declared.receipt.Receipt.{Receipt}
use Rattle.frame_zones.specs.Zones.{zone_count, zone_at, core_at}
use Rattle.frame_zones.specs.declared.zones.Zones.{Zones}
use Rattle.frame_zones.specs.declared.zones.ZoneCore.{ZoneCore}
use Rattle.frame_zones.proofs.Parted.{some_of}
use Rattle.zone_slots.specs.ImageParts.{numbers_from}
use Rattle.zone_slots.specs.Reopenings.{claims_in, KeepsRestIn, HasLaidIn}
use Rattle.zone_slots.proofs.Reopened.{rest_more, unused_more, laid_more, children_of, before_more}
use Rattle.zone_slots.proofs.memory.Memory.replay.Goals as goal

pub loop-zone-preserved : goal.loop-zone-preserved
loop-zone-preserved c =
    let inv = c.loop-zone.invariant in
    let zs : Zones = c.args.self.now.zones in
    let i : ℕ = c.loop-zone.zone in
    let numbers : List ℕ = c.args.numbers.now in
    let claimed : List (Vec FrameBlock Global) = c.args.claimed.now in
    let d : ZoneCore = c.replay_in.new.core in
    let within : i < zone_count zs = omega (arith, c.loop-zone-test.true, c.count-zone-end.ensures) in
    let a : Allocator = some_of zs.zones.items (omega (arith, within)) in
    let blocks : (v : Vec FrameBlock Global) → c.deref.result.now ≡ claims_in claimed i v =
    λ v. c.deref.ensures.value
    ∙ ap (λ (w : Vec FrameBlock Global). w.items) (c.index-claimed-zone.is
    ∙ get_or_default claimed i c.index-claimed-zone.result v (omega (arith, within, c.requires.claimed))) in
    let from : c.behind.result.now ≡ numbers_from zs numbers i = c.behind.ensures ∙ ap (λ n. drop n numbers) inv.from in
    let here : KeepsRestIn numbers claimed zs d i =
    λ b x v. subst (λ (l : List ℕ). KeepsHeldBeside (memory_of (zone_at zs i b)).frames l (claims_in claimed i v) (core_at d i x)) from
    (subst (λ (bs : List FrameBlock). KeepsHeldBeside (memory_of (zone_at zs i b)).frames c.behind.result.now bs (core_at d i x)) (blocks v)
    (c.in_ok-row.ensures.rest b x)) in
    let frames : c.index.result.now ≡ (memory_of (zone_at zs i a)).frames =
    c.index.ensures ∙ get_or_default zs.frames.items i c.index.result.now 0 (omega (arith, within, zs.sized.count))
    ∙ zs.sized.each i a within in
    let children : (c.index.result.now + 511) / 512 ≡ (memory_of (zone_at zs i a)).children =
    children_of (zone_at zs i a) c.index.result.now frames in
    let few = (table_sizes (zone_at zs i a).table).few_children in
    record {
      are_cores = c.replay_in.ensures.core.are_cores;
      home = c.replay_in.ensures.home ∙ inv.home;
      rest = rest_more numbers claimed zs c.loop-zone.core d i within inv.rest c.replay_in.ensures.core.others here;
      unused = unused_more zs c.loop-zone.core d i c.replay_in.ensures.core.others inv.unused;
      laid = subst (λ (l : List (Vec Receipt Global)). (z : ℕ) → z < i + 1 → HasLaidIn claimed l z)
          (sym c.push_reserved.ensures.items)
          (laid_more claimed c.loop-zone.rows.items i c.in_ok-row.row inv.count inv.laid
          (λ v. c.in_ok-row.ensures.laid ∙ blocks v));
      count = search rules;
      from = omega (arith, inv.from, before_more zs i a within, children, c.div_ceil.ensures);
      small = omega (arith, inv.small, few, children, c.div_ceil.ensures);
      room = search rules;
    }

pub returns-clause-rest : goal.returns-clause-rest
returns-clause-rest c =
    λ z within. c.loop-zone.invariant.rest z
    (omega (arith, within, c.loop-zone-test.false, c.loop-zone.auto.zone-end, c.count-zone-end.ensures))
