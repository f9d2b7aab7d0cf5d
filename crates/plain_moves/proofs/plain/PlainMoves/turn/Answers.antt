use Rattle.std.proofs.Common.{◌*◌, ◌<◌, ◌≤◌, length, refl, ap, sym, subst, arith}
use Rattle.std.specs.VecDeque.{deque_capacity}
use Rattle.plain_moves.specs.Apart.{AreApart}
use Rattle.plain_moves.specs.Plain.{HasRoomToFill}
use Rattle.plain_moves.specs.PlainState.{key_by}
use Rattle.plain_moves.proofs.PlainOthers.{changed_places, found_at, read_at, written_at, reads_else, all_set}
use Rattle.plain_moves.proofs.plain.PlainMoves.turn.Goals as goal

pub invariant_of-party-clause-some : goal.invariant_of-party-clause-some
invariant_of-party-clause-some c = omega (arith, c.swap.ensures.y_after, c.args.self.now.some)

pub invariant_of-party-clause-room : goal.invariant_of-party-clause-room
invariant_of-party-clause-room c = subst (λ d. 1024 ≤ deque_capacity d) (sym c.swap-2.ensures.y_after) c.args.self.now.room

pub invariant_of-party-clause-distinct : goal.invariant_of-party-clause-distinct
invariant_of-party-clause-distinct c = subst (λ d. ∥ AreApart d.items ∥₁) (sym c.swap-6.ensures.y_after) c.args.self.now.distinct

pub invariant_of-self-clause-agrees : goal.invariant_of-self-clause-agrees
invariant_of-self-clause-agrees c =
    let m = c.args.self.now in
    let key = key_by m in
    changed_places key m.words.items m.outs.items _ m.them _ c.args.who c.index_mut-party.result.now _ _ _ _ _ _ _ _ _ _ _ _ _ _ _ _ _
    (found_at m.them.parties.items c.args.who c.index_mut-party.result.now (omega (
      arith,
      c.requires,
      m.them.parties.ok,
    )) c.index_mut-party.ensures.value) refl (ap (λ l. l.items) c.swap-9.ensures.y_after) (ap
    (λ l. l.items) c.swap-9.ensures.x_after)
    (record {
      share_is = sym c.swap.ensures.y_after;
      paid_is = sym c.swap-3.ensures.y_after;
      charged_is = sym c.swap-4.ensures.y_after;
      reserving_is = sym c.swap-5.ensures.y_after;
      own_is = ap (λ d. d.items) (sym c.swap-2.ensures.y_after);
      filled_is = ap (λ d. d.items) (sym c.swap-6.ensures.y_after);
    })
    (record {
      share_is = c.swap.ensures.x_after;
      paid_is = c.swap-3.ensures.x_after;
      charged_is = c.swap-4.ensures.x_after;
      reserving_is = c.swap-5.ensures.x_after;
      own_is = ap (λ d. d.items) c.swap-2.ensures.x_after;
      filled_is = ap (λ d. d.items) c.swap-6.ensures.x_after;
    })
    m.agrees

pub invariant_of-self-clause-their_room : goal.invariant_of-self-clause-their_room
invariant_of-self-clause-their_room c =
    let m = c.args.self.now in
    all_set (HasRoomToFill m.geometry.children) m.them.parties.items c.args.who _
    (subst (λ d. 8 * m.geometry.children < deque_capacity d) (sym c.swap-6.ensures.y_after) m.filled_room) m.their_room

pub invariant_of-self-clause-distinct : goal.invariant_of-self-clause-distinct
invariant_of-self-clause-distinct c =
    subst (λ d. ∥ AreApart d.items ∥₁) (sym c.swap-6.ensures.x_after) c.index_mut-party.result.now.distinct

pub returns-clause-turned : goal.returns-clause-turned
returns-clause-turned c =
    let m = c.args.self.now in
    let few : c.args.who < length m.them.parties.items = omega (arith, c.requires, m.them.parties.ok) in
    record {
      key = (refl, refl);
      words = refl;
      outs = (c.swap-9.ensures.x_after, c.swap-9.ensures.y_after);
      came = (
        c.index_mut-party.result.now,
        (
          read_at m.them.parties.items c.args.who c.index_mut-party.result.now few c.index_mut-party.ensures.value,
          record {
            share = sym c.swap.ensures.x_after;
            own = sym c.swap-2.ensures.x_after;
            paid = sym c.swap-3.ensures.x_after;
            charged = sym c.swap-4.ensures.x_after;
            reserving = sym c.swap-5.ensures.x_after;
            filled = sym c.swap-6.ensures.x_after;
            moves = sym c.swap-7.ensures.x_after;
            lost = sym c.swap-8.ensures.x_after;
          },
        ),
      );
      went = (
        _,
        (
          written_at m.them.parties.items c.args.who _ few,
          record {
            share = c.swap.ensures.y_after;
            own = c.swap-2.ensures.y_after;
            paid = c.swap-3.ensures.y_after;
            charged = c.swap-4.ensures.y_after;
            reserving = c.swap-5.ensures.y_after;
            filled = c.swap-6.ensures.y_after;
            moves = c.swap-7.ensures.y_after;
            lost = c.swap-8.ensures.y_after;
          },
        ),
      );
      others = λ k ne. reads_else m.them.parties.items c.args.who _ k ne;
    }
