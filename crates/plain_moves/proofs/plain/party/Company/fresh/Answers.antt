use Rattle.std.proofs.Common.{List, [], ◌∷◌, length, refl, ap, sym, subst, arith}
use Rattle.std.specs.List.{All}
use Rattle.std.proofs.lemmas.List.{length-append}
use Rattle.std.proofs.lemmas.List.Elements.{All-push}
use Rattle.plain_moves.specs.declared.plain.party.Party.{Party}
use Rattle.plain_moves.specs.Plain.{HasRoomToFill, IsFresh}
use Rattle.plain_moves.proofs.plain.party.Company.fresh.Goals as goal

pub loop-i-preserved : goal.loop-i-preserved
loop-i-preserved c =
    let old = c.loop-i.parties.items in
    let p = c.in_ok-fresh.field-0 in
    let items = c.push_reserved.ensures.items in
    record {
      outs = refl;
      count = omega (arith, ap (λ (l : List Party). length l) items, length-append old (p ∷ []), c.loop-i.invariant.count);
      room = omega (arith, c.push_reserved.ensures.capacity, c.loop-i.invariant.room);
      fresh = subst (λ (l : List Party). All IsFresh l) (sym items)
          (All-push IsFresh old p c.loop-i.invariant.fresh c.in_ok-fresh.ensures.fresh);
      filled = subst (λ (l : List Party). All (HasRoomToFill c.args.geometry.children) l) (sym items)
          (All-push (HasRoomToFill c.args.geometry.children) old p c.loop-i.invariant.filled c.in_ok-fresh.ensures.room);
    }
