use Rattle.std.proofs.Common.{map, ap, sym, subst, rules}
use Rattle.std.proofs.lemmas.List.{nil_from_length}
use Rattle.atomic_table.specs.Table.{Me}
use Rattle.frame_table.specs.declared.rule.Watch.{Watch}
use Rattle.frame_model.specs.declared.view.View.{View}
use Rattle.frame_model.specs.Steps.{next}
use Rattle.frame_model.specs.Seats.{join_idle, joined_by}
use Rattle.frame_model.proofs.Steps.SeatViews.{blocks_are}
use Rattle.frame_table.specs.declared.seats.CoreSeat.{CoreSeat}
use Rattle.frame_table.specs.Seats.{key_at, id_of, view_of, IsSeat, IsIdleSeat}
use Rattle.frame_table.proofs.Gathering.{all_front, all_last, last_of, IsGathering, gather_first, gather_more, gathered_all}
use Rattle.frame_table.proofs.closings.gather.Given as given
use Rattle.frame_table.proofs.closings.gather.Goals as goal

pub loop-next-init : goal.loop-next-init
loop-next-init g c =
    let S = g.S.Seated in
    let t = c.args.table.now in
    let x = c.in-Some.last in
    let all = c.args.seats.items in
    let ys = c.pop.new.self.items in
    let e = c.in-Some.ensures.items in
    let idle : IsIdleSeat t (S.seat_of x) = all_last (λ s. IsIdleSeat t (S.seat_of s)) all ys x e c.requires.idle in
    let same = sym c.into_seat-all.ensures in
    record {
      at = subst (λ (s : CoreSeat). IsSeat (id_of t) (key_at t) s.seat.table_id s.seat.me) same idle.sits.at;
      gathering = subst (λ (s : CoreSeat). IsGathering (map S.seat_of all) (map S.seat_of ys) (view_of s)) same
          (gather_first (map S.seat_of all) (map S.seat_of all) (map S.seat_of ys) (S.seat_of x) idle.sits.not_ground
          (last_of S.seat_of all ys x e) idle.idle);
      others = all_front (λ s. IsIdleSeat t (S.seat_of s)) all ys x e c.requires.idle;
    }

next_idle : (g : given.Over) (c : goal.After-all-1 g)
    → IsIdleSeat c.args.table.now c.into_seat-seat.result
next_idle g c =
    let S = g.S.Seated in
    let t = c.args.table.now in
    let x = c.in-Some-pop.next in
    subst (IsIdleSeat t) (sym c.into_seat-seat.ensures)
    (all_last (λ s. IsIdleSeat t (S.seat_of s)) c.loop-next.seats.items c.pop-in-loop-next.new.self.items x c.in-Some-pop.ensures.items
    c.loop-next.invariant.others)

pub join_seat-requires-clause-other : goal.join_seat-requires-clause-other
join_seat-requires-clause-other g c =
    let h = next_idle g c in (h.sits.at.table, h.sits.at.bare)

pub join_seat-requires-clause-may : goal.join_seat-requires-clause-may
join_seat-requires-clause-may g c = record {
  keeper = c.loop-next.invariant.gathering.idle;
  other = (next_idle g c).idle;
}

pub join_seat-requires-clause-blocks : goal.join_seat-requires-clause-blocks
join_seat-requires-clause-blocks g c =
    blocks_are (key_at c.args.table.now) (view_of c.into_seat-seat.result) (next_idle g c).sits.at.is_view

pub loop-next-preserved : goal.loop-next-preserved
loop-next-preserved g c =
    let S = g.S.Seated in
    let t = c.args.table.now in
    let x = c.in-Some-pop.next in
    let all = map S.seat_of c.args.seats.items in
    let xs = c.loop-next.seats.items in
    let ys = c.pop-in-loop-next.new.self.items in
    let e = c.in-Some-pop.ensures.items in
    let inv = c.loop-next.invariant in
    let idle : IsIdleSeat t (S.seat_of x) = all_last (λ s. IsIdleSeat t (S.seat_of s)) xs ys x e inv.others in
    let V : Me (Unit {0}) Watch → View = λ me. me.0.view in
    let was : View = V c.loop-next.all.me in
    record {
      at = c.join_seat.ensures.seat;
      gathering = subst (IsGathering all (map S.seat_of ys)) (sym (ap V c.join_seat.ensures.both))
          (subst (λ (s : CoreSeat). IsGathering all (map S.seat_of ys) (joined_by next join_idle was (view_of s)))
          (sym c.into_seat-seat.ensures)
          (gather_more all (map S.seat_of xs) (map S.seat_of ys) (S.seat_of x) idle.sits.not_ground was inv.gathering
          (last_of S.seat_of xs ys x e)));
      others = all_front (λ s. IsIdleSeat t (S.seat_of s)) xs ys x e inv.others;
    }

pub returns-clause-gathered : goal.returns-clause-gathered
returns-clause-gathered g c =
    let S = g.S.Seated in
    let none = nil_from_length c.loop-next.seats.items (search rules) in
    gathered_all (map S.seat_of c.args.seats.items) (map S.seat_of c.loop-next.seats.items) c.loop-next.all.me.0.view
    c.loop-next.invariant.gathering (ap (map S.seat_of) none)
