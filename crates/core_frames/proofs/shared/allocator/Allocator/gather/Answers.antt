use Rattle.std.proofs.Common.{◌≡◌, ◌<◌, ◌≤◌, List, length, map, ap, sym, subst, arith, rules}
use Rattle.std.specs.List.{All}
use Rattle.std.proofs.lemmas.List.{nil_from_length, length-map}
use Rattle.std.proofs.lemmas.List.Elements.{All-map}
use Rattle.frame_model.specs.declared.view.View.{View}
use Rattle.frame_model.specs.Steps.{next, after_load}
use Rattle.frame_model.specs.Seats.{join_idle, joined_by}
use Rattle.frame_table.specs.declared.seats.CoreSeat.{CoreSeat}
use Rattle.frame_table.specs.Seats.{view_of, IsIdleSeat}
use Rattle.frame_table.specs.Closing.{share_through, IsGathered}
use Rattle.frame_table.proofs.Gathering.{all_front, all_last, last_of, some_each, IsGathering, gather_first, gather_more, gathered_all}
use Rattle.core_frames.specs.declared.shared.allocator.Allocator.{Allocator}
use Rattle.core_frames.specs.declared.shared.allocator.Core.{Core}
use Rattle.core_frames.specs.Cores.{memory_of, seat_of, IsCoreOf}
use Rattle.core_frames.proofs.shared.allocator.Allocator.gather.Goals as goal

pub loop-next-init : goal.loop-next-init
loop-next-init c =
    let a = c.args.self.now in
    let x : Core = c.in-Some.last in
    let all = c.args.cores.items in
    let ys = c.pop.new.self.items in
    let e = c.in-Some.ensures.items in
    let is : IsCoreOf a x = all_last (IsCoreOf a) all ys x e c.requires in
    record {
      idle = is.seat;
      gathering = gather_first (map seat_of all) (map seat_of all) (map seat_of ys) x.seat is.seat.sits.not_ground (last_of seat_of all ys x e) is.seat.idle;
      others = all_front (IsCoreOf a) all ys x e c.requires;
      room = search rules;
    }

pub gather-requires-clause-other : goal.gather-requires-clause-other
gather-requires-clause-other c =
    let a = c.args.self.now in
    subst (IsIdleSeat a.table) (sym c.into_seat.ensures)
    (all_last (IsCoreOf a) c.loop-next.cores.items c.pop-in-loop-next.new.self.items c.in-Some-pop.next c.in-Some-pop.ensures.items
    c.loop-next.invariant.others).seat

pub loop-next-preserved : goal.loop-next-preserved
loop-next-preserved c =
    let a = c.args.self.now in
    let x : Core = c.in-Some-pop.next in
    let all = map seat_of c.args.cores.items in
    let xs = c.loop-next.cores.items in
    let ys = c.pop-in-loop-next.new.self.items in
    let e = c.in-Some-pop.ensures.items in
    let inv = c.loop-next.invariant in
    let is : IsCoreOf a x = all_last (IsCoreOf a) xs ys x e inv.others in
    let was : View = view_of c.loop-next.seat in
    record {
      idle = c.gather.ensures.seat;
      gathering = subst (IsGathering all (map seat_of ys)) (sym c.gather.ensures.view)
          (subst (λ (s : CoreSeat). IsGathering all (map seat_of ys) (joined_by next join_idle was (view_of s)))
          (sym c.into_seat.ensures)
          (gather_more all (map seat_of xs) (map seat_of ys) x.seat is.seat.sits.not_ground was inv.gathering (last_of seat_of xs ys x e)));
      others = all_front (IsCoreOf a) xs ys x e inv.others;
      room = search rules;
    }

-- each core has a share
all_shares : (a : Allocator) (cores : List Core) → All (IsCoreOf a) cores → length cores ≤ share_through (map seat_of cores)
all_shares a cores all = omega (
  arith,
  length-map cores seat_of,
  some_each (map seat_of cores) (All-map (λ (s : CoreSeat). 0 < (view_of s).share) seat_of cores (λ k d h. (all k d h).seat.sits.some)),
)

-- a load changes nothing but the count of moves
looked_on : (seats : List CoreSeat) (v w : View) → w ≡ after_load next v → IsGathered seats v → IsGathered seats w
looked_on seats v w e g = subst (IsGathered seats) (sym e)
    (record {
      idle = record { share = g.idle.share; paid = g.idle.paid; charged = g.idle.charged; reserving = g.idle.reserving; own = g.idle.own };
      not_ground = g.not_ground;
      share = g.share;
      lent = g.lent;
      smalls = g.smalls;
      wholes = g.wholes;
    })

pub returns-clause-gathered : goal.returns-clause-gathered
returns-clause-gathered c =
    let none = nil_from_length c.loop-next.cores.items (search rules) in
    looked_on (map seat_of c.args.cores.items) (view_of c.loop-next.seat) (view_of c.learn.new.self) c.learn.ensures.view
    (gathered_all (map seat_of c.args.cores.items) (map seat_of c.loop-next.cores.items) (view_of c.loop-next.seat)
    c.loop-next.invariant.gathering (ap (map seat_of) none))

pub returns-clause-sure : goal.returns-clause-sure
returns-clause-sure c =
    let a = c.args.self.now in
    let shares = all_shares a c.args.cores.items c.requires in
    let many : (memory_of a).cores ≤ length c.args.cores.items = search rules in
    (omega (arith, (returns-clause-gathered c).share, shares, c.learn.ensures.share, many), c.learn.ensures.knows)
