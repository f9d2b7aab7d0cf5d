use Rattle.std.proofs.Common.{◌≡◌, ⊎_elim, ◌<◌, ◌≤◌, get_or, length-append, ◌∷◌, ◌++◌, [], ◌+ℤ◌, List, length, map, ap, sym, refl, subst, ◌∙◌, arith, rules}
use Rattle.std.specs.List.{All}
use Rattle.std.proofs.Math.ListN.{get_or-append}
use Rattle.std.proofs.Math.Seq.{get_or-append_seam}
use Rattle.std.proofs.lemmas.Bool.{cases_lt}
use Rattle.std.proofs.lemmas.Int.{ints}
use Rattle.std.proofs.lemmas.List.{map-append}
use Rattle.std.proofs.lemmas.List.Elements.{All-push}
use Rattle.frame_model.specs.declared.view.View.{View}
use Rattle.frame_table.specs.Closing.{lent_through, kept_through}
use Rattle.frame_table.specs.Seats.{view_of}
use Rattle.frame_table.proofs.Gathering.{lent-last, kept-last}
use Rattle.core_frames.specs.declared.shared.allocator.Core.{Core}
use Rattle.core_frames.specs.Cores.{memory_of, seat_of, number_of, lent_by, kept_by, AreNumbered, IsCoreOf}
use Rattle.core_frames.proofs.shared.allocator.Allocator.scatter.Goals as goal

-- one core more
lent_more : (cores : List Core) (x : Core)
    → lent_through (map seat_of (cores ++ x ∷ [])) ≡ lent_through (map seat_of cores) +ℤ lent_by x
lent_more cores x = ap lent_through (map-append seat_of cores (x ∷ [])) ∙ lent-last (map seat_of cores) (seat_of x)

kept_more : (cores : List Core) (x : Core)
    → kept_through (map seat_of (cores ++ x ∷ [])) ≡ kept_through (map seat_of cores) ++ kept_by x
kept_more cores x = ap kept_through (map-append seat_of cores (x ∷ [])) ∙ kept-last (map seat_of cores) (seat_of x)

-- one core more, whose number is the next
numbers_more : (cores : List Core) (x : Core) → AreNumbered cores → number_of x ≡ length cores → AreNumbered (cores ++ x ∷ [])
numbers_more cores x all next k d h =
    ⊎_elim
    (λ (l : k < length cores). ap number_of (get_or-append cores (x ∷ []) d k l) ∙ all k d l)
    (λ (l : length cores ≤ k).
    let last : k ≡ length cores = omega (arith, l, h, length-append cores (x ∷ [])) in
    ap (λ n. number_of (get_or (cores ++ x ∷ []) n d)) last ∙ ap number_of (get_or-append_seam cores x [] d) ∙ next ∙ sym last)
    (cases_lt k (length cores))

pub loop-number-init : goal.loop-number-init
unfolding lent_through kept_through
loop-number-init c =
    let none = c.requires.room.0 in
    let alone : (view_of c.args.core.seat).share ≡ (memory_of c.args.self.now).cores = c.requires.alone in
    record {
      idle = c.requires.core.seat;
      share = omega (arith, alone);
      lent = refl;
      kept = refl;
      count = search rules;
      each = search rules;
      numbers = search rules;
      none_lent = ap (λ cores. lent_through (map seat_of cores)) none;
      none_kept = ap (λ cores. kept_through (map seat_of cores)) none;
      room = c.requires.room.1;
    }

pub loop-number-preserved : goal.loop-number-preserved
loop-number-preserved c =
    let a = c.args.self.now in
    let inv = c.loop-number.invariant in
    let cores = c.loop-number.cores.items in
    let x : Core = record { seat = c.part.result; habit = c.for_core.result } in
    let is : IsCoreOf a x = record { seat = c.part.ensures.part; number = search rules } in
    let more = c.push_reserved.ensures.items in
    let count : length cores ≡ c.loop-number.number = omega (arith, inv.count, c.loop-number.cores.ok) in
    let next : number_of x ≡ length cores = omega (arith, c.for_core.ensures.core, count) in
    record {
      idle = c.part.ensures.seat;
      share = omega (arith, ap (λ (v : View). v.share) c.part.ensures.view, inv.share);
      lent = ap (λ (v : View). v.lent) c.part.ensures.view ∙ inv.lent;
      kept = ap (λ (v : View). v.kept) c.part.ensures.view ∙ inv.kept;
      count = omega (arith, c.push_reserved.ensures.len, inv.count);
      each = subst (All (IsCoreOf a)) (sym more) (All-push (IsCoreOf a) cores x inv.each is);
      numbers = subst AreNumbered (sym more) (numbers_more cores x inv.numbers next);
      none_lent = omega (
        arith,
        ints,
        ap (λ l. lent_through (map seat_of l)) more,
        lent_more cores x,
        inv.none_lent,
        ap (λ (v : View). v.lent) c.part.ensures.one,
      );
      none_kept = ap (λ l. kept_through (map seat_of l)) more ∙ kept_more cores x ∙ ap (λ l. l ++ kept_by x) inv.none_kept
          ∙ ap (λ (v : View). v.kept) c.part.ensures.one;
      room = omega (arith, c.push_reserved.ensures.capacity, inv.room);
    }

pub returns-clause-cores : goal.returns-clause-cores
returns-clause-cores c =
    let a = c.args.self.now in
    let inv = c.loop-number.invariant in
    let x : Core = record { seat = c.loop-number.seat; habit = c.for_core-2.result } in
    let is : IsCoreOf a x = record { seat = inv.idle; number = search rules } in
    subst (All (IsCoreOf a)) (sym c.push_reserved-2.ensures.items) (All-push (IsCoreOf a) c.loop-number.cores.items x inv.each is)

pub returns-clause-numbers : goal.returns-clause-numbers
returns-clause-numbers c =
    let x : Core = record { seat = c.loop-number.seat; habit = c.for_core-2.result } in
    let count : length c.loop-number.cores.items ≡ c.loop-number.number = omega (arith, c.loop-number.invariant.count, c.loop-number.cores.ok) in
    let next : number_of x ≡ length c.loop-number.cores.items = omega (
      arith,
      c.for_core-2.ensures.core,
      count,
      c.loop-number-test.false,
      c.loop-number.auto.number-end,
    ) in
    subst AreNumbered (sym c.push_reserved-2.ensures.items) (numbers_more c.loop-number.cores.items x c.loop-number.invariant.numbers next)

pub returns-clause-lent : goal.returns-clause-lent
returns-clause-lent c =
    let inv = c.loop-number.invariant in
    let x : Core = record { seat = c.loop-number.seat; habit = c.for_core-2.result } in
    omega (
      arith,
      ints,
      ap (λ l. lent_through (map seat_of l)) c.push_reserved-2.ensures.items,
      lent_more c.loop-number.cores.items x,
      inv.none_lent,
      inv.lent,
    )

pub returns-clause-kept : goal.returns-clause-kept
returns-clause-kept c =
    let inv = c.loop-number.invariant in
    let x : Core = record { seat = c.loop-number.seat; habit = c.for_core-2.result } in
    ap (λ l. kept_through (map seat_of l)) c.push_reserved-2.ensures.items ∙ kept_more c.loop-number.cores.items x
    ∙ ap (λ l. l ++ kept_by x) inv.none_kept ∙ inv.kept
