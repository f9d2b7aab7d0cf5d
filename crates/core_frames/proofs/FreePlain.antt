-- What is free of a memory for one thread, from the blocks that are held.
use Rattle.std.proofs.Common.{◌≡◌, ℕ, zero, suc, ◌+◌, ◌*◌, ◌/◌, ◌^◌, ◌<◌, ◌≤◌, List, [], ◌∷◌, Option, Some, refl, ap, sym, subst, ◌∙◌, arith}
use Rattle.std.specs.Prelude.{nat_eq, if◌then◌else◌}
use Rattle.std.specs.List.{All, sum_by, range_with_len}
use Rattle.std.proofs.lemmas.List.Elements.{All-head, All-tail}
use Rattle.std.proofs.lemmas.List.Sums.{sum_by-cons}
use Rattle.frame_model.specs.declared.block.FrameBlock.{FrameBlock}
use Rattle.frame_model.specs.declared.key.Key.{Key}
use Rattle.frame_model.specs.Block.{IsBlock, covers}
use Rattle.frame_model.specs.Holding.{holders, IsHolding}
use Rattle.frame_model.specs.Key.{frame_count}
use Rattle.frame_core.specs.Mover.{Mover}
use Rattle.frame_model.specs.Report.{held_at, held_within, clear_at, clear_within, free_frames, clear_blocks}
use Rattle.frame_model.specs.Stops.{unsealed}
use Rattle.frame_model.specs.Words.{entry_word_count}
use Rattle.plain_moves.specs.declared.plain.party.Company.{Company}
use Rattle.low_frames.specs.Takes.{IsAsBefore}
use Rattle.low_frames.proofs.AloneLemmas.{at_known}
use Rattle.core_frames.specs.Alone.{SameFrames}
use Rattle.core_frames.specs.declared.free_counts.FreeCounts.{FreeCounts}
use Rattle.core_frames.specs.declared.search.habit.Habit.{Habit}
use Rattle.core_frames.specs.FreeCounts.{AreExact, LooksOver, frames_together, held_in, clear_children}
use Rattle.core_frames.specs.PlainAgree.{held_with, AgreeWith}
use Rattle.core_frames.proofs.EntriesRead.{loads_before}
use Rattle.core_frames.proofs.KeptFrames.{same_frames}
use Rattle.core_frames.proofs.PlainCalls.{refused, still_none}
use Rattle.core_frames.proofs.PlainHeld.{holders_cons}
use Rattle.core_frames.proofs.PlainKeys.{held_same}
use Rattle.core_frames.proofs.PlainSums.{range_same, range_plus, range_most, covered}

-- Sums over the frames of blocks.

holders_none : (x : ℕ) → holders x [] ≡ 0
unfolding holders
holders_none x = refl

range_none : (a n : ℕ) → sum_by (λ x. holders x []) (range_with_len a n) ≡ 0
range_none a zero = refl
range_none a (suc n) = omega (arith, sum_by-cons (λ x. holders x []) a (range_with_len (a + 1) n), holders_none a, range_none (a + 1) n)

-- the frames that lie in blocks, each counted as often as it does, are those of the blocks together
are_together : (key : Key) (bs : List FrameBlock) → All (IsBlock key) bs
    → sum_by (λ x. holders x bs) (range_with_len 0 (frame_count key)) ≡ frames_together bs
are_together key [] all = range_none 0 (frame_count key)
are_together key (b ∷ bs) all =
    omega (
      arith,
      range_plus (covers b) (λ x. holders x bs) (λ x. holders x (b ∷ bs)) 0 (frame_count key) (λ x l h. holders_cons x b bs),
      covered b 0 (frame_count key),
      (All-head (IsBlock key) b bs all).inside,
      sum_by-cons (λ (c : FrameBlock). 2 ^ c.order) b bs,
      are_together key bs (All-tail (IsBlock key) b bs all),
    )

-- Words that hold just some blocks.

module _ (key : Key) (ws : List ℕ) (held : List FrameBlock)
    (frames : (x : ℕ) → x < frame_count key → held_at key ws x ≡ holders x held) where
  held_there : (a n : ℕ) → a + n ≤ frame_count key
      → held_within (unsealed key) ws a n ≡ sum_by (λ x. holders x held) (range_with_len a n)
  unfolding held_within
  held_there a n h =
      range_same (λ x. holders x held) (held_at (unsealed key) ws) a n
      (λ x l r. held_same key ws x ∙ frames x (omega (arith, r, h)))

  free_and_held : IsHolding key held → free_frames (unsealed key) ws + frames_together held ≡ frame_count key
  free_and_held lawful =
      omega (
        arith,
        held_there 0 (frame_count key) (omega arith),
        are_together key held lawful.blocks,
        range_most (λ x. holders x held) 1 0 (frame_count key) (λ x l h. lawful.disjoint x),
      )

  clear_there : clear_blocks (unsealed key) ws 9 ≡ clear_children key held
  unfolding clear_within clear_at
  clear_there =
      let children : 512 * key.children / 2 ^ 9 ≡ key.children = omega arith in
      ap (λ n. sum_by (λ i. if nat_eq (held_within (unsealed key) ws (0 + 2 ^ 9 * i) (2 ^ 9)) 0 then 1 else 0) (range_with_len 0 n))
      children
      ∙ range_same (λ c. if nat_eq (held_in held c) 0 then 1 else 0)
      (λ i. if nat_eq (held_within (unsealed key) ws (0 + 2 ^ 9 * i) (2 ^ 9)) 0 then 1 else 0) 0 key.children
      (λ c l h.
      let begins : 0 + 2 ^ 9 * c ≡ 512 * c = omega arith in
      ap (λ x. if nat_eq (held_within (unsealed key) ws x 512) 0 then 1 else 0) begins
      ∙ ap (λ n. if nat_eq n 0 then 1 else 0) (held_there (512 * c) 512 (omega (arith, h))))

-- A look at the words of an allocator for one thread.

module _ (t : ℕ → ℕ) (key : Key) (m n : Mover Company FrameBlock) (ws us bytes : List ℕ) (habits : List Habit) (least : ℕ)
    (agree : AgreeWith key m ws bytes habits least) (known : n.words ≡ Some us) (counts : FreeCounts)
    (looks : LooksOver t counts m n) where
  seen : (n.words ≡ Some ws) × AreExact m.key counts ws
  seen = at_known m.words (λ (xs : List ℕ). (n.words ≡ Some xs) × AreExact m.key counts xs) ws agree.known (looks.alone agree.alone)

  same : SameFrames key ws us
  same =
      let e : ◌≡◌ {A = Option (List ℕ)} (Some us) (Some ws) = sym known ∙ seen.0 in
      let words : us ≡ ws = cc in
      subst (SameFrames key ws) (sym words) (same_frames key ws)

  before : IsAsBefore m.view n.view
  before = subst (IsAsBefore m.view) (sym looks.view) (loads_before t (entry_word_count m.key) m.view)

  exact : AreExact (unsealed key) counts ws
  exact = subst (λ (k : Key). AreExact k counts ws) agree.same_key seen.1

  pub looked : AgreeWith key n us bytes habits least
  looked =
      refused key m n ws us bytes habits least agree known looks.keeps before same least
      (still_none key m n ws us bytes habits least agree known looks.keeps before same)

  pub frames_free : counts.frames + frames_together (held_with key bytes) ≡ frame_count key
  frames_free =
      omega (arith, exact.frames, free_and_held key ws (held_with key bytes) agree.exact.frames agree.lawful)

  pub children_free : counts.huge ≡ clear_children key (held_with key bytes)
  children_free = exact.huge ∙ clear_there key ws (held_with key bytes) agree.exact.frames
