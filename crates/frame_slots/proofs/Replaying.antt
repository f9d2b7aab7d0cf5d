-- An image is followed from block to block.
use Rattle.std.proofs.Common.{◌≡◌, ⊎_elim, inl, inr, ℕ, suc, ℤ, pos, ◌+◌, ◌-◌, ◌*◌, ◌^◌, ◌+ℤ◌, ◌-ℤ◌, ◌<◌, ◌≤◌}
use Rattle.std.proofs.Common.{List, [], ◌∷◌, ◌++◌, length, map, ap, sym, subst, ◌∙◌, arith}
use Rattle.std.specs.Prelude.{Result, Ok, Err, IfOk}
use Rattle.std.specs.List.{sum_by}
use Rattle.std.specs.List.Sorted.{IsPermutation}
use Rattle.std.proofs.Math.Nat.{pow-suc}
use Rattle.std.proofs.lemmas.Bool.{cases_eq, cases_lt}
use Rattle.std.proofs.lemmas.Int.{ints}
use Rattle.std.proofs.lemmas.List.{length-append, length-map}
use Rattle.std.proofs.lemmas.List.Sorted.{length_permutation, sum_by-IsPermutation}
use Rattle.std.proofs.lemmas.List.Sums.{sum_by-cons}
use Rattle.frame_model.specs.declared.block.FrameBlock.{FrameBlock}
use Rattle.frame_model.specs.declared.view.View.{View}
use Rattle.frame_model.specs.Block.{block, covers}
use Rattle.frame_model.specs.Holding.{holders}
use Rattle.frame_table.specs.Keeping.{HasKept}
use Rattle.frame_table.specs.Seats.{block_in}
use Rattle.frame_table.specs.declared.block.Block.{Block}
use Rattle.core_frames.specs.Cores.{view_in, lent_by, kept_by}
use Rattle.core_frames.specs.Splits.{AreHalves}
use Rattle.core_frames.specs.Uses.{HasGiven}
use Rattle.core_frames.specs.declared.shared.allocator.Allocator.{Allocator}
use Rattle.core_frames.specs.declared.shared.allocator.Core.{Core}
use Rattle.frame_slots.specs.Slots.{laid_down}
use Rattle.frame_slots.specs.Numbers.{IsFreeInImage, AreAllHeld}
use Rattle.frame_slots.specs.Reopenings.{IsFollowing, KeepsHeldBeside, MakeUp, LendsJust, HasLaid, HasHalved, among, waiting_blocks}
use Rattle.frame_slots.specs.declared.receipt.Receipt.{Receipt}
use Rattle.frame_slots.proofs.Overlaps.{covered, uncovered, holders_cons, holders_none}

module _ {A : Type 0} (f : A → FrameBlock) (x : ℕ) where
  -- a block more, behind the others
  pub holders_more : (xs : List A) (a : A) → holders x (map f (xs ++ a ∷ [])) ≡ holders x (map f xs) + covers (f a) x
  holders_more [] a = omega (arith, holders_cons x (f a) [], holders_none x)
  holders_more (b ∷ xs) a = omega (
    arith,
    holders_more xs a,
    holders_cons x (f b) (map f (xs ++ a ∷ [])),
    holders_cons x (f b) (map f xs),
  )

  holders_sum : (xs : List A) → holders x (map f xs) ≡ sum_by (λ a. covers (f a) x) xs
  holders_sum [] = holders_none x
  holders_sum (a ∷ xs) = omega (
    arith,
    holders_sum xs,
    holders_cons x (f a) (map f xs),
    sum_by-cons (λ b. covers (f b) x) a xs,
  )

  -- in any order blocks lie where they lay
  pub holders_still : (xs bs : List A) → IsPermutation xs bs → holders x (map f bs) ≡ holders x (map f xs)
  holders_still xs bs p = omega (
    arith,
    holders_sum xs,
    holders_sum bs,
    sum_by-IsPermutation (λ a. covers (f a) x) xs bs p,
  )

-- what follows from what an `Ok` brings
pub on_ok : {X E : Type 0} (r : Result X E) (P Q : Type 0) → (P → Q) → IfOk r (λ _. P) → IfOk r (λ _. Q)
on_ok (Ok x) P Q f p = f p
on_ok (Err e) P Q f p = tt

-- a block covers a frame only where the frame lies in it
pub covered_only : (b : FrameBlock) (x : ℕ) → 0 < covers b x → (b.frame ≤ x) × (x < b.frame + 2 ^ b.order)
covered_only b x some = ⊎_elim
    (λ (low : x < b.frame). absurd (omega (arith, some, uncovered b x (inl low))))
    (λ from. ⊎_elim
    (λ (high : x < b.frame + 2 ^ b.order). (from, high))
    (λ behind. absurd (omega (arith, some, uncovered b x (inr behind))))
    (cases_lt x (b.frame + 2 ^ b.order)))
    (cases_lt x b.frame)

-- the halves of a block cover what it covers
pub halves_cover : (b l u : FrameBlock) (x : ℕ) → AreHalves b l u → covers l x + covers u x ≡ covers b x
halves_cover b l u x are =
    let o : ℕ = b.order - 1 in
    let size : 2 ^ b.order ≡ 2 ^ suc o = ap (λ k. 2 ^ k) (let s : b.order ≡ suc o = omega (arith, are.some) in s) in
    let double : 2 ^ suc o ≡ 2 ^ o * 2 = pow-suc 2 o in
    let first : FrameBlock = block b.frame o in
    let second : FrameBlock = block (b.frame + 2 ^ o) o in
    let low : covers l x ≡ covers first x = ap (λ (c : FrameBlock). covers c x) are.lower in
    let high : covers u x ≡ covers second x = ap (λ (c : FrameBlock). covers c x) are.upper in
    ⊎_elim
    (λ (h : x < b.frame). omega (
      arith,
      low,
      high,
      uncovered first x (inl h),
      uncovered second x (inl (omega (arith, h))),
      uncovered b x (inl h),
    ))
    (λ from. ⊎_elim
    (λ (h : x < b.frame + 2 ^ o). omega (
      arith,
      low,
      high,
      covered first x (omega (arith, from)) h,
      uncovered second x (inl h),
      covered b x (omega (arith, from)) (omega (arith, h, size, double)),
    ))
    (λ mid. ⊎_elim
    (λ (h : x < b.frame + 2 ^ b.order). omega (
      arith,
      low,
      high,
      uncovered first x (inr (omega (arith, mid))),
      covered second x (omega (arith, mid)) (omega (arith, h, size, double)),
      covered b x (omega (arith, from)) h,
    ))
    (λ above. omega (
      arith,
      low,
      high,
      uncovered first x (inr (omega (arith, mid))),
      uncovered second x (inr (omega (arith, above, size, double))),
      uncovered b x (inr (omega (arith, above))),
    ))
    (cases_lt x (b.frame + 2 ^ b.order)))
    (cases_lt x (b.frame + 2 ^ o)))
    (cases_lt x b.frame)

-- what is lent, one less and one more
less_one : (z : ℤ) (n : ℕ) → z ≡ pos (suc n) → z -ℤ pos 1 ≡ pos n
less_one z n e = omega (arith, ints, e)

one_more : (z : ℤ) (n : ℕ) → z ≡ pos n → z +ℤ pos 1 ≡ pos (suc n)
one_more z n e = omega (arith, ints, e)

-- nothing makes up no frames
pub nothing_made : MakeUp 0 []
nothing_made = record { below = λ x less. absurd (omega (arith, less)); above = λ x from. holders_none x }

-- blocks one behind the other make up what lies before their end
pub made_more : (end : ℕ) (bs : List Block) (b : Block) → MakeUp end (waiting_blocks bs) → b.frame ≡ end
    → MakeUp (end + 2 ^ b.order) (waiting_blocks (bs ++ b ∷ []))
made_more end bs b made begins = record {
  below = λ x less. ⊎_elim
      (λ (before : x < end).
      omega (arith, holders_more block_in x bs b, made.below x before, uncovered (block_in b) x (inl (omega (arith, before, begins)))))
      (λ from.
      omega (arith, holders_more block_in x bs b, made.above x from, covered (block_in b) x (omega (arith, from, begins)) (omega (arith, less, begins))))
      (cases_lt x end);
  above = λ x from. omega (
    arith,
    holders_more block_in x bs b,
    made.above x (omega (arith, from)),
    uncovered (block_in b) x (inr (omega (arith, from, begins))),
  );
}

-- in any order they do
pub made_still : (n : ℕ) (xs bs : List Block) → IsPermutation xs bs → MakeUp n (waiting_blocks xs) → MakeUp n (waiting_blocks bs)
made_still n xs bs p made = record {
  below = λ x less. omega (arith, holders_still block_in x xs bs p, made.below x less);
  above = λ x from. omega (arith, holders_still block_in x xs bs p, made.above x from);
}

module _ (frames : ℕ) (numbers : List ℕ) where
  -- all frames wait at first
  pub begin_following : (ws : List Block) (c : Core) → MakeUp frames (waiting_blocks ws) → LendsJust (length ws) c
      → IsFollowing frames numbers ws [] c
  begin_following ws c made lends =
      let none : (x : ℕ) → holders x (kept_by c) ≡ 0 = λ x. ap (holders x) lends.kept ∙ holders_none x in
      record {
        all = λ x less held. omega (arith, made.below x less, holders_none x, none x);
        apart = λ x. ⊎_elim
            (λ (less : x < frames). omega (arith, made.below x less, holders_none x, none x))
            (λ from. omega (arith, made.above x from, holders_none x, none x))
            (cases_lt x frames);
        only = λ x some. absurd (omega (arith, some, none x));
        lent = lends.lent ∙ ap pos (let e : length ws ≡ length ws + 0 = omega arith in e);
      }

  -- the last of those that wait is the next
  pub next_following : (ws : List Block) (b : Block) (ls : List Receipt) (c : Core)
      → IsFollowing frames numbers (ws ++ b ∷ []) ls c → IsFollowing frames numbers (b ∷ ws) ls c
  next_following ws b ls c so =
      let same : (x : ℕ) → among x (b ∷ ws) ls c ≡ among x (ws ++ b ∷ []) ls c = λ x.
      omega (arith, holders_more block_in x ws b, holders_cons x (block_in b) (waiting_blocks ws)) in
      record {
        all = λ x less held. omega (arith, same x, so.all x less held);
        apart = λ x. omega (arith, same x, so.apart x);
        only = so.only;
        lent = so.lent ∙ ap pos (let e : length (ws ++ b ∷ []) + length ls ≡ suc (length ws) + length ls = omega (arith, length-append ws (b ∷ [])) in e);
      }

  module _ (b : Block) (ws : List Block) (ls : List Receipt) (c : Core) (so : IsFollowing frames numbers (b ∷ ws) ls c) where
    count : suc (length ws) + length ls ≡ suc (length ws + length ls)
    count = omega arith

    -- a block is laid down
    pub laid_following : (ms : List Receipt) (d : Core) → HasLaid b ls ms c d → IsFollowing frames numbers ws ms d
    laid_following ms d laid =
        let more : List Receipt = ls ++ laid.receipt ∷ [] in
        let same : (x : ℕ) → among x ws more c ≡ among x (b ∷ ws) ls c = λ x.
        let cover : covers (laid_down laid.receipt) x ≡ covers (block_in b) x = ap (λ (e : FrameBlock). covers e x) laid.same in
        omega (arith, cover, holders_more laid_down x ls laid.receipt, holders_cons x (block_in b) (waiting_blocks ws)) in
        let at : IsFollowing frames numbers ws more c = record {
          all = λ x less held. omega (arith, same x, so.all x less held);
          apart = λ x. omega (arith, same x, so.apart x);
          only = so.only;
          lent = so.lent ∙ ap pos (let e : suc (length ws) + length ls ≡ length ws + length more = omega (arith, length-append ls (laid.receipt ∷ [])) in e);
        } in
        subst (λ (e : Core). IsFollowing frames numbers ws ms e) (sym laid.stays)
        (subst (λ (rs : List Receipt). IsFollowing frames numbers ws rs c) (sym laid.receipts) at)

    -- a free block is given back
    pub given_following : (d : Core) → HasGiven c d → IsFreeInImage numbers (block_in b) → IsFollowing frames numbers ws ls d
    given_following d given free =
        let kept : (x : ℕ) → holders x (kept_by d) ≡ holders x (kept_by c) = λ x. ap (holders x) given.kept in
        let parted : (x : ℕ) → among x (b ∷ ws) ls c ≡ covers (block_in b) x + among x ws ls d = λ x.
        omega (arith, kept x, holders_cons x (block_in b) (waiting_blocks ws)) in
        record {
          all = λ x less held. ⊎_elim
              (λ (none : covers (block_in b) x ≡ 0). omega (arith, none, parted x, so.all x less held))
              (λ some. let from = covered_only (block_in b) x (omega (arith, some)) in absurd (free.free x from.0 from.1 held))
              (cases_eq (covers (block_in b) x) 0);
          apart = λ x. omega (arith, parted x, so.apart x);
          only = λ x some. so.only x (omega (arith, some, kept x));
          lent = given.lent ∙ less_one (lent_by c) (length ws + length ls) (so.lent ∙ ap pos count);
        }

    -- a held block is kept
    pub kept_following : (d : Core) → HasKept (block_in b) (view_in c) (view_in d) → AreAllHeld numbers (block_in b)
        → IsFollowing frames numbers ws ls d
    kept_following d keeps whole =
        let kept : (x : ℕ) → holders x (kept_by d) ≡ covers (block_in b) x + holders x (kept_by c) = λ x.
        ap (λ (v : View). holders x v.kept) keeps ∙ holders_cons x (block_in b) (kept_by c) in
        let same : (x : ℕ) → among x ws ls d ≡ among x (b ∷ ws) ls c = λ x.
        omega (arith, kept x, holders_cons x (block_in b) (waiting_blocks ws)) in
        record {
          all = λ x less held. omega (arith, same x, so.all x less held);
          apart = λ x. omega (arith, same x, so.apart x);
          only = λ x some. ⊎_elim
              (λ (none : covers (block_in b) x ≡ 0). so.only x (omega (arith, some, none, kept x)))
              (λ here. let from = covered_only (block_in b) x (omega (arith, here)) in whole x from.0 from.1)
              (cases_eq (covers (block_in b) x) 0);
          lent = ap (λ (v : View). v.lent) keeps ∙ less_one (lent_by c) (length ws + length ls) (so.lent ∙ ap pos count);
        }

    -- the halves of a block wait in its slot
    pub halved_following : (a : Allocator) (vs : List Block) (d : Core) → HasHalved a b ws vs c d
        → IsFollowing frames numbers vs ls d
    halved_following a vs d halved =
        let l : Block = halved.lower in
        let u : Block = halved.upper in
        let more : List Block = (ws ++ l ∷ []) ++ u ∷ [] in
        let kept : (x : ℕ) → holders x (kept_by d) ≡ holders x (kept_by c) = λ x. ap (holders x) halved.kept in
        let same : (x : ℕ) → among x more ls d ≡ among x (b ∷ ws) ls c = λ x.
        omega (
          arith,
          kept x,
          halves_cover (block_in b) (block_in l) (block_in u) x halved.split.are_halves,
          holders_more block_in x (ws ++ l ∷ []) u,
          holders_more block_in x ws l,
          holders_cons x (block_in b) (waiting_blocks ws),
        ) in
        let two : suc (suc (length ws) + length ls) ≡ length more + length ls =
        omega (arith, length-append (ws ++ l ∷ []) (u ∷ []), length-append ws (l ∷ [])) in
        let at : IsFollowing frames numbers more ls d = record {
          all = λ x less held. omega (arith, same x, so.all x less held);
          apart = λ x. omega (arith, same x, so.apart x);
          only = λ x some. so.only x (omega (arith, some, kept x));
          lent = halved.split.lent ∙ one_more (lent_by c) (suc (length ws) + length ls) so.lent ∙ ap pos two;
        } in
        subst (λ (bs : List Block). IsFollowing frames numbers bs ls d) (sym halved.waiting) at

  length_laid : (ls ms : List Receipt) (claimed : List FrameBlock) → IsPermutation ls ms → map laid_down ms ≡ claimed
      → length ls ≡ length claimed
  length_laid ls ms claimed p laid =
      omega (arith, length_permutation ls ms p, length-map ms laid_down, ap (λ (bs : List FrameBlock). length bs) laid)

  -- where none waits, and just these blocks were laid down, the image was followed
  pub end_following : (ws : List Block) (ls ms : List Receipt) (claimed : List FrameBlock) (c : Core) → length ws ≡ 0
      → IsFollowing frames numbers ws ls c → IsPermutation ls ms → map laid_down ms ≡ claimed
      → KeepsHeldBeside frames numbers claimed c
  end_following [] ls ms claimed c none so p laid =
      let same : (x : ℕ) → holders x claimed ≡ holders x (map laid_down ls) = λ x.
      sym (ap (holders x) laid) ∙ holders_still laid_down x ls ms p in
      record {
        all = λ x less held free. omega (arith, so.all x less held, free, same x, holders_none x);
        only = λ x some. (so.only x some, omega (arith, some, so.apart x, same x, holders_none x));
        lent = so.lent ∙ ap pos (let e : 0 + length ls ≡ length claimed = omega (arith, length_laid ls ms claimed p laid) in e);
      }
  end_following (w ∷ ws) ls ms claimed c none so p laid = absurd (omega (arith, none))
