use Rattle.std.proofs.Common.{rules, ℕ, ◌+◌, ◌<◌, List, slice_index_or, sym, ◌∙◌, subst}
use Rattle.std.specs.Prelude.{true}
use Rattle.frame_slots.specs.declared.slots.SlotList.{SlotList}
use Rattle.zone_slots.specs.Openings.{IsListIn}
use Rattle.zone_slots.proofs.Opened.{used_then, list_more}
use Rattle.zone_slots.proofs.openings.lists_of.Goals as goal

pub loop-zone-preserved : goal.loop-zone-preserved
loop-zone-preserved c =
    let inv = c.loop-zone.invariant in
    record {
      are_cores = c.list_in.ensures.core;
      home = c.list_in.ensures.home ∙ inv.home;
      used = used_then c.args.zones.now c.args.core.now c.loop-zone.core c.list_in.new.core inv.used c.in_ok-list.ensures.used;
      count = search rules;
      each = subst (λ (l : List SlotList). (z : ℕ) (list : SlotList) → z < c.loop-zone.zone + 1
          → IsListIn true c.args.zones.now z (slice_index_or l z list)) (sym c.push_reserved.ensures.items)
          (list_more true c.args.zones.now c.loop-zone.lists.items c.loop-zone.zone c.in_ok-list.list inv.count inv.each
          c.in_ok-list.ensures.list);
      room = search rules;
    }
