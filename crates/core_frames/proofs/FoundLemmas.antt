-- A search in the own tree that found nothing, and one in the others.
use Rattle.std.proofs.Common.{◌≡◌, ℕ, ◌<◌, ◌≤◌, refl, ap, sym, subst, ◌∙◌, arith}
use Rattle.std.specs.Prelude.{Bool, true, false, ◌||◌, nat_lt, MatchBool, pos, ◌+ℤ◌, Result, Ok, Err, IfOk, IfErr}
use Rattle.std.proofs.lemmas.Bool.Decides.{nat_tests}
use Rattle.frame_model.specs.Holding.{IsFreeBlock}
use Rattle.frame_table.specs.Seats.{block_in}
use Rattle.core_frames.specs.Cores.{memory_of, losses_by, known_by, StepsAlone}
use Rattle.core_frames.specs.Found.{HasFound, HasLooked, StaysSureOf, FindsNoneOwn, FindsNoneAtAll, FindsThrough}
use Rattle.core_frames.specs.Uses.{HasMovedForEach}
use Rattle.core_frames.proofs.KeptFrames.{keeps_then_taken}
use Rattle.core_frames.proofs.AloneSearch.{found_none_then}
use Rattle.core_frames.specs.declared.shared.allocator.Allocator.{Allocator}
use Rattle.core_frames.specs.declared.shared.allocator.Core.{Core}
use Rattle.core_frames.specs.declared.shared.found.Found.{Found}

either_rose : (a b c : ℕ) → a ≤ b → b ≤ c → (nat_lt a b || nat_lt b c) ≡ nat_lt a c
either_rose a b c h k = grind (arith, nat_tests)

told : (m n k : ℕ) (b : Bool) → nat_lt m n ≡ b → MatchBool b (0 < k) (k ≡ 0) → m ≤ n → (0 < k → m < n) × (k ≡ 0 → n ≡ m)
told m n k true e h up = (λ _. grind (arith, nat_tests, e), λ z. absurd (omega (arith, h, z)))
told m n k false e h up = (λ some. absurd (omega (arith, h, some)), λ _. grind (arith, nat_tests, e, up))

module _ (a : Allocator) (n : ℕ) (c i d : Core) (most more : ℕ) (lost rest : Bool) (still : StepsAlone a c → StepsAlone a i) where
  pub found_elsewhere : (r : Result Found ℕ) → HasLooked most lost c i → FindsNoneOwn a c i → StaysSureOf a c i → HasLooked more rest i d
      → IfOk r (λ f. HasFound a n f i d) → IfErr r (λ _. FindsNoneAtAll a n i d) → StaysSureOf a i d
      → IfErr r (λ k. MatchBool (lost || nat_lt (losses_by i) (losses_by d)) (0 < k) (k ≡ 0)) → FindsThrough a n r c d
  found_elsewhere (Ok f) own missed sure others found none sure' told_ = record {
    kept = others.kept ∙ own.kept;
    same_gives = others.same_gives ∙ own.same_gives;
    ok = record {
      owns = found.owns;
      taken = λ b x y z.
          let t = found.taken b x y z in
          record {
            is_out = t.is_out;
            order = t.order;
            apart = subst (λ ks. IsFreeBlock ks (block_in b)) own.kept t.apart;
            no_boot_frame = t.no_boot_frame;
            inside = t.inside;
            lent = t.lent ∙ ap (λ z. z +ℤ pos 1) missed.lent;
            alone = λ alone.
                keeps_then_taken (memory_of a) (known_by c) (known_by i) (known_by d) (block_in b) t.is_out.is_block
                (missed.alone alone) (t.alone (still alone));
          };
    };
    contended = tt;
    no_block = tt;
    lent = tt;
  }
  found_elsewhere (Err k) own missed sure others found none sure' told_ =
      let both : (lost || nat_lt (losses_by i) (losses_by d)) ≡ nat_lt (losses_by c) (losses_by d) =
      ap (λ b. b || nat_lt (losses_by i) (losses_by d)) (sym own.noted)
      ∙ either_rose (losses_by c) (losses_by i) (losses_by d) own.risen others.risen in
      let t = told (losses_by c) (losses_by d) k (nat_lt (losses_by c) (losses_by d)) refl
      (subst (λ b. MatchBool b (0 < k) (k ≡ 0)) both told_) (omega (arith, own.risen, others.risen)) in
      let moved : HasMovedForEach a n c d = record { order = none.moved.order; moved = omega (arith, none.moved.moved, own.rises) } in
      record {
        kept = others.kept ∙ own.kept;
        same_gives = others.same_gives ∙ own.same_gives;
        ok = tt;
        contended = λ some. (
          moved,
          t.0 some,
          λ s. absurd (omega (arith, t.0 some, sure.loses_none s, sure'.loses_none (sure.is_sure s))),
        );
        no_block = λ zero. (
          moved,
          t.1 zero,
          λ alone.
              found_none_then (memory_of a) (memory_of a) n (known_by c) (known_by i) (known_by d) refl (missed.alone alone) (none.alone (still alone)),
        );
        lent = none.lent ∙ missed.lent;
      }
