use Rattle.std.proofs.Common.{◌≡◌, List, sym, subst, arith}
use Rattle.frame_zones.specs.Closing.{AreClosedFrom, HasClosedLast}
use Rattle.frame_zones.specs.Zones.{zone_count}
use Rattle.frame_zones.specs.declared.image.ZoneImage.{ZoneImage}
use Rattle.frame_zones.proofs.Closed.{IsClosing, closing_one, left_then, in_order}
use Rattle.frame_zones.proofs.zones.Zones.close.Goals as goal

pub loop-alloc-preserved : goal.loop-alloc-preserved
loop-alloc-preserved c =
    let inv = c.loop-alloc.invariant in
    let last : HasClosedLast c.loop-alloc.zones c.loop-alloc.cores.items c.in-Ok-close_last.left c.close_last.new.cores.items c.in-Ok-close_last.image =
    c.in-Ok-close_last.ensures.closed in
    record {
      are_left = left_then c.args.self c.loop-alloc.zones c.in-Ok-close_last.left c.args.cores.items c.loop-alloc.cores.items
          c.close_last.new.cores.items inv.are_left last.are_left (omega (arith, last.one));
      closed = subst (λ (l : List ZoneImage). IsClosing c.args.self c.args.cores.items (zone_count c.in-Ok-close_last.left) l)
          (sym c.push_reserved.ensures.items)
          (closing_one c.args.self c.loop-alloc.zones c.in-Ok-close_last.left c.args.cores.items c.loop-alloc.cores.items
          c.close_last.new.cores.items c.loop-alloc.images.items c.in-Ok-close_last.image inv.closed inv.are_left last);
      enough = omega (
        arith,
        inv.enough,
        last.are_left.as_many,
        last.are_left.count,
        c.close_last.new.cores.ok.0,
        c.loop-alloc.cores.ok.0,
      );
      room = omega (arith, inv.room, c.push_reserved.ensures.capacity);
    }

pub returns-in-Err-clause-left : goal.returns-in-Err-clause-left
returns-in-Err-clause-left c =
    left_then c.args.self c.loop-alloc.zones c.in-Err.rest c.args.cores.items c.loop-alloc.cores.items
    c.close_last.new.cores.items c.loop-alloc.invariant.are_left c.in-Err.ensures.same.are_left
    (omega (arith, c.in-Err.ensures.same.all))

pub returns-in-Err-clause-images : goal.returns-in-Err-clause-images
returns-in-Err-clause-images c =
    subst (λ (l : List ZoneImage). AreClosedFrom (zone_count c.in-Err.rest) c.args.self c.args.cores.items l)
    (sym c.reverse.ensures.items)
    (in_order c.args.self c.args.cores.items (zone_count c.in-Err.rest) c.loop-alloc.images.items
    (subst (λ n. IsClosing c.args.self c.args.cores.items n c.loop-alloc.images.items) (sym c.in-Err.ensures.same.all)
    c.loop-alloc.invariant.closed))

pub returns-clause-closed : goal.returns-clause-closed
returns-clause-closed c =
    let none : zone_count c.loop-alloc.zones ≡ 0 = omega (arith, c.loop-alloc-test.false, c.count-in-loop-alloc.ensures) in
    subst (λ (l : List ZoneImage). AreClosedFrom 0 c.args.self c.args.cores.items l) (sym c.reverse-2.ensures.items)
    (in_order c.args.self c.args.cores.items 0 c.loop-alloc.images.items
    (subst (λ n. IsClosing c.args.self c.args.cores.items n c.loop-alloc.images.items) none c.loop-alloc.invariant.closed))
