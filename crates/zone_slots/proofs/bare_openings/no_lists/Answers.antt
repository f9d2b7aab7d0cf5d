use Rattle.std.proofs.Common.{rules, ◌≡◌, ℕ, ◌+◌, ◌<◌, List, length, slice_index_or, sym, subst}
use Rattle.std.specs.Prelude.{false}
use Rattle.core_frames.specs.declared.shared.allocator.Allocator.{Allocator}
use Rattle.frame_slots.specs.declared.slots.SlotList.{SlotList}
use Rattle.zone_slots.specs.Openings.{IsListIn}
use Rattle.zone_slots.proofs.Opened.{list_more, list_here}
use Rattle.zone_slots.proofs.bare_openings.no_lists.Goals as goal

pub loop-zone-preserved : goal.loop-zone-preserved
loop-zone-preserved c =
    let inv = c.loop-zone.invariant in
    let zs = c.args.zones.now in
    record {
      count = search rules;
      each = subst (λ (l : List SlotList). (z : ℕ) (list : SlotList) → z < c.loop-zone.zone-index + 1
          → IsListIn false zs z (slice_index_or l z list)) (sym c.push_reserved.ensures.items)
          (list_more false zs c.loop-zone.lists.items c.loop-zone.zone-index c.none.result inv.count inv.each
          (list_here false zs c.loop-zone.zone-index c.zone-item.result c.none.result
          (subst (λ (l : List Allocator). c.loop-zone.zone-index < length l) c.as_slice-zone-items.ensures.value c.loop-zone-test.true)
          (subst (λ (l : List Allocator). c.zone-item.result ≡ slice_index_or l c.loop-zone.zone-index c.zone-item.result)
          c.as_slice-zone-items.ensures.value c.zone-item.is) c.none.ensures.slots c.none.ensures.room));
      room = search rules;
    }
