use Rattle.std.proofs.Common.{◌≡◌, ℕ, ◌+◌, ◌-◌, ap, ◌∙◌, sym, subst, arith}
use Rattle.std.specs.List.{All}
use Rattle.std.proofs.lemmas.List.Elements.{All-push}
use Rattle.frame_model.specs.declared.view.View.{View}
use Rattle.frame_model.specs.View.{idle}
use Rattle.frame_table.specs.declared.seats.CoreSeat.{CoreSeat}
use Rattle.frame_table.specs.Seats.{key_at}
use Rattle.frame_table.specs.Openings.{moved, IsNew}
use Rattle.frame_table.proofs.Dealing.{dealt}
use Rattle.frame_table.proofs.openings.deal.Goals as goal

pub loop-core-preserved : goal.loop-core-preserved
loop-core-preserved c =
    let t = c.args.table.now in
    let inv = c.loop-core.invariant in
    let new = c.part_share_off.ensures.new in
    let v : View = c.loop-core.seat.me.0.view in
    let w : View = c.part_share_off.new.seat.me.0.view in
    let cores : ℕ = (key_at t).cores in
    let fresh : IsNew t c.part_share_off.result = record {
      sits = new.0;
      moves = omega (arith, ap (λ (u : View). u.moves) new.1);
      view = new.1 ∙ ap (λ n. moved n (idle (key_at t) 1)) (sym (ap (λ (u : View). u.moves) new.1));
      knows = λ one. absurd (omega (arith, one, t.sizes.1, t.geometry.some_cores, c.loop-core-test.true));
    } in record {
      at = c.part_share_off.ensures.seat;
      moves = omega (arith, inv.moves, ap (λ (u : View). u.moves) c.part_share_off.ensures.view);
      view = dealt (key_at t) v.moves (cores - c.loop-core._core) (cores - (c.loop-core._core + 1)) v w inv.view
          c.part_share_off.ensures.view (omega arith);
      knows = λ none. absurd (omega (arith, none));
      count = omega (arith, inv.count, c.push_reserved.ensures.len);
      room = omega (arith, inv.room, c.push_reserved.ensures.capacity);
      new = subst (All (IsNew t)) (sym c.push_reserved.ensures.items)
          (All-push (IsNew t) c.loop-core.seats.items c.part_share_off.result inv.new fresh);
    }

pub returns-clause-new : goal.returns-clause-new
returns-clause-new c =
    let t = c.args.table.now in
    let inv = c.loop-core.invariant in
    let v : View = c.loop-core.seat.me.0.view in
    let cores : ℕ = (key_at t).cores in
    let last : cores - c.loop-core._core ≡ 1 = omega (
      arith,
      t.sizes.1,
      t.geometry.some_cores,
      c.loop-core-test.false,
      c.loop-core.auto._core-end,
    ) in
    let is : v ≡ moved v.moves (idle (key_at t) 1) = inv.view ∙ ap (λ n. moved v.moves (idle (key_at t) n)) last in
    let seat : CoreSeat = record { seat = c.loop-core.seat } in
    let fresh : IsNew t seat = record {
      sits = record { at = inv.at; some = omega (arith, ap (λ (u : View). u.share) is); not_ground = ap (λ (u : View). u.is_ground) is };
      moves = omega (arith, inv.moves, t.sizes.1, t.geometry.few_cores, t.geometry.some_cores, c.loop-core.auto._core-end);
      view = is;
      knows = λ one. inv.knows (omega (arith, one, last, c.loop-core.auto._core-end, t.sizes.1, t.geometry.some_cores));
    } in
    subst (All (IsNew t)) (sym c.push_reserved-2.ensures.items) (All-push (IsNew t) c.loop-core.seats.items seat inv.new fresh)
