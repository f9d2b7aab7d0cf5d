use Rattle.std.proofs.Common.{rules, ◌≡◌, ℕ, ◌+◌, ◌<◌, List, length, slice_index_or, sym, ap, subst, arith}
use Rattle.std.specs.declared.alloc.Global.{Global}
use Rattle.std.specs.declared.vec.Vec.{Vec}
use Rattle.frame_table.specs.Stopping.{IsRoomFor}
use Rattle.core_frames.specs.declared.shared.allocator.Allocator.{Allocator}
use Rattle.core_frames.specs.Cores.{memory_of}
use Rattle.frame_zones.proofs.Stopped.{room_one}
use Rattle.frame_zones.proofs.zones.Zones.make_room.Goals as goal

pub loop-zone-preserved : goal.loop-zone-preserved
loop-zone-preserved c =
    let inv = c.loop-zone.invariant in
    record {
      count = search rules;
      each = subst (λ (l : List (Vec ℕ Global)). (z : ℕ) (a : Allocator) (list : Vec ℕ Global) → z < c.loop-zone.zone-index + 1
          → IsRoomFor (memory_of (slice_index_or c.args.self.now.zones.items z a)) (slice_index_or l z list))
          (sym c.push_reserved.ensures.items)
          (room_one c.args.self.now.zones.items c.loop-zone.words.items c.loop-zone.zone-index c.zone-item.result c.in_ok-room.room
          inv.count (subst (λ (l : List Allocator). c.loop-zone.zone-index < length l) c.as_slice-zone-items.ensures.value c.loop-zone-test.true)
          (subst (λ (l : List Allocator). c.zone-item.result ≡ slice_index_or l c.loop-zone.zone-index c.zone-item.result)
          c.as_slice-zone-items.ensures.value c.zone-item.is) c.in_ok-room.ensures.room inv.each);
      room = search rules;
    }

pub returns-clause-room : goal.returns-clause-room
returns-clause-room c =
    let last : c.loop-zone.zone-index ≡ length c.args.self.now.zones.items =
    omega (
      arith,
      c.loop-zone-test.false,
      c.loop-zone.auto.zone-index-end,
      ap length c.as_slice-zone-items.ensures.value,
    ) in
    record {
      words = record {
        count = omega (arith, c.loop-zone.invariant.count, last);
        each = λ z a list within. c.loop-zone.invariant.each z a list (subst (λ n. z < n) (sym last) within);
      };
      none = c.in-Ok-with_capacity.ensures.items;
      images = search rules;
    }
