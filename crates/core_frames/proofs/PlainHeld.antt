-- Words that hold just some blocks, once one more is taken, one is given, or one is split.
use Rattle.std.proofs.Common.{◌≡◌, ⊎_elim, ℕ, zero, suc, ◌+◌, ◌-◌, ◌*◌, ◌%◌, ◌^◌, ◌<◌, ◌≤◌, max, List, [], ◌∷◌, refl, ap, sym, subst, ◌∙◌}
use Rattle.std.proofs.Common.{arith}
use Rattle.std.specs.List.Sorted.{IsPermutation}
use Rattle.std.proofs.Math.Nat.{pow-suc}
use Rattle.std.proofs.lemmas.Bool.{cases_eq}
use Rattle.std.proofs.lemmas.List.Elements.{All-head, All-tail, All-cons, All-nil}
use Rattle.std.proofs.lemmas.List.Sorted.{All-permutation, sum_by-IsPermutation}
use Rattle.std.proofs.lemmas.List.Sums.{sum_by-cons}
use Rattle.frame_model.specs.declared.block.FrameBlock.{FrameBlock}
use Rattle.frame_model.specs.declared.key.Key.{Key}
use Rattle.frame_model.specs.Key.{frame_count, child_of}
use Rattle.frame_model.specs.Block.{block, IsBlock, covers, small_at, whole_at, smalls, wholes}
use Rattle.frame_model.specs.Holding.{holders, IsHolding, IsFreeBlock}
use Rattle.frame_model.specs.QuietTake.{TakesBlock, FindsNone}
use Rattle.frame_model.specs.Report.{held_at}
use Rattle.frame_model.specs.Words.{bit_of, huge_of}
use Rattle.frame_model.proofs.Blocks.{smalls_cons, wholes_cons, not_whole}
use Rattle.frame_model.proofs.Safe.{holders_are}
use Rattle.frame_model.proofs.Without.{covers-le}
use Rattle.low_frames.specs.Alone.{HoldsMore}
use Rattle.low_frames.proofs.RoomLemmas.{is_covered, covered_from}
use Rattle.core_frames.specs.Alone.{SameFrames, HasNoneOf}
use Rattle.core_frames.specs.PlainState.{HoldsExactly}
use Rattle.core_frames.specs.Splits.{AreHalves, HoldsHalves}
use Rattle.core_frames.proofs.KeptFrames.{covered_inside, same_held}
use Rattle.core_frames.proofs.SplitAlone.{both_halves}

held_is : (key : Key) (ws : List ℕ) (x : ℕ) → held_at key ws x ≡ max (bit_of key ws x) (huge_of ws (child_of x))
unfolding held_at
held_is key ws x = refl

pub holders_cons : (x : ℕ) (b : FrameBlock) (bs : List FrameBlock) → holders x (b ∷ bs) ≡ covers b x + holders x bs
unfolding holders
holders_cons x b bs = sum_by-cons (λ (c : FrameBlock). covers c x) b bs

pub holders_same : (x : ℕ) (bs cs : List FrameBlock) → IsPermutation bs cs → holders x cs ≡ holders x bs
unfolding holders
holders_same x bs cs p = sum_by-IsPermutation (λ (c : FrameBlock). covers c x) bs cs p

smalls_same : (x : ℕ) (bs cs : List FrameBlock) → IsPermutation bs cs → smalls x cs ≡ smalls x bs
unfolding smalls
smalls_same x bs cs p = sum_by-IsPermutation (small_at x) bs cs p

wholes_same : (c : ℕ) (bs cs : List FrameBlock) → IsPermutation bs cs → wholes c cs ≡ wholes c bs
unfolding wholes
wholes_same c bs cs p = sum_by-IsPermutation (whole_at c) bs cs p

-- a block has a frame as one below order 9, or as its whole child
covers_are : (key : Key) (b : FrameBlock) (x : ℕ) → IsBlock key b → covers b x ≡ small_at x b + whole_at (child_of x) b
covers_are key b x is =
    let one = holders_are key x (b ∷ []) (All-cons (IsBlock key) b [] is (All-nil (IsBlock key))) in
    omega (
      arith,
      one,
      holders_cons x b [],
      holders_are key x [] (All-nil (IsBlock key)),
      smalls_cons x b [],
      wholes_cons (child_of x) b [],
    )

-- The words hold a list of blocks that is a holding.

module _ (key : Key) (ws : List ℕ) (held : List FrameBlock) (lawful : IsHolding key held) where
  -- bits and flags say it all
  pub by_form : ((x : ℕ) → x < frame_count key → bit_of key ws x ≡ smalls x held)
      → ((c : ℕ) → c < key.children → huge_of ws c ≡ wholes c held) → HoldsExactly key ws held
  by_form bits flags = record {
    smalls = bits;
    wholes = flags;
    frames = λ x h. omega (
      arith,
      held_is key ws x,
      bits x h,
      flags (child_of x) (omega (arith, h)),
      holders_are key x held lawful.blocks,
      lawful.disjoint x,
    );
  }

-- in another order
pub lawful_as : (key : Key) (bs cs : List FrameBlock) → IsPermutation bs cs → IsHolding key bs → IsHolding key cs
lawful_as key bs cs p lawful = record {
  blocks = All-permutation (IsBlock key) bs cs p lawful.blocks;
  disjoint = λ x. omega (arith, holders_same x bs cs p, lawful.disjoint x);
}

pub exact_as : (key : Key) (ws : List ℕ) (bs cs : List FrameBlock) → IsPermutation bs cs → HoldsExactly key ws bs → HoldsExactly key ws cs
exact_as key ws bs cs p exact = record {
  smalls = λ x h. exact.smalls x h ∙ sym (smalls_same x bs cs p);
  wholes = λ c h. exact.wholes c h ∙ sym (wholes_same c bs cs p);
  frames = λ x h. exact.frames x h ∙ sym (holders_same x bs cs p);
}

-- One block more.

module _ (key : Key) (ws us : List ℕ) (held : List FrameBlock) (b : FrameBlock) (lawful : IsHolding key held)
    (exact : HoldsExactly key ws held) (is : IsBlock key b) (more : HoldsMore key ws us b) where
  -- no frame of it was held
  pub was_free : IsFreeBlock held b
  was_free x e = sym (exact.frames x (covered_inside key b x is e)) ∙ more.was_free x e

  pub lawful_more : IsHolding key (b ∷ held)
  lawful_more = record {
    blocks = All-cons (IsBlock key) b held is lawful.blocks;
    disjoint = λ x.
        ⊎_elim (λ (one : covers b x ≡ 1). omega (arith, holders_cons x b held, was_free x one, one))
        (λ none. omega (arith, holders_cons x b held, lawful.disjoint x, covers-le b x, none)) (cases_eq (covers b x) 1);
  }

  pub exact_more : HoldsExactly key us (b ∷ held)
  exact_more =
      by_form key us (b ∷ held) lawful_more
      (λ x h. omega (arith, more.bits x h, exact.smalls x h, smalls_cons x b held))
      (λ c h. omega (arith, more.flags c h, exact.wholes c h, wholes_cons c b held))

  pub takes_block : (order : ℕ) (new : List FrameBlock) → b.order ≡ order → IsPermutation (b ∷ held) new → TakesBlock key held new order b
  takes_block order new has added = record { is_block = is; has_order = has; was_free = was_free; added = added }

-- where no block of an order was free, none is
pub none_more : (key : Key) (ws us : List ℕ) (b : FrameBlock) (n : ℕ) → HoldsMore key ws us b → HasNoneOf key n ws → HasNoneOf key n us
none_more key ws us b n more none c is free =
    none c is (λ x e.
    let h = covered_inside key c x is.is_block e in
    omega (
      arith,
      free x e,
      held_is key ws x,
      held_is key us x,
      more.bits x h,
      more.flags (child_of x) (omega (arith, h)),
    ))

-- One block less.

module _ (key : Key) (ws us : List ℕ) (held : List FrameBlock) (b : FrameBlock) (lawful : IsHolding key (b ∷ held))
    (exact : HoldsExactly key ws (b ∷ held)) (more : HoldsMore key us ws b) where
  pub lawful_less : IsHolding key held
  lawful_less = record {
    blocks = All-tail (IsBlock key) b held lawful.blocks;
    disjoint = λ x. omega (arith, holders_cons x b held, lawful.disjoint x);
  }

  pub exact_less : HoldsExactly key us held
  exact_less =
      by_form key us held lawful_less
      (λ x h. omega (arith, more.bits x h, exact.smalls x h, smalls_cons x b held))
      (λ c h. omega (arith, more.flags c h, exact.wholes c h, wholes_cons c b held))

-- The same frames.

module _ (key : Key) (ws us : List ℕ) (same : SameFrames key ws us) where
  pub exact_still : (held : List FrameBlock) → HoldsExactly key ws held → HoldsExactly key us held
  exact_still held exact = record {
    smalls = λ x h. same.bits x h ∙ exact.smalls x h;
    wholes = λ c h. same.flags c h ∙ exact.wholes c h;
    frames = λ x h. same_held key ws us x same h ∙ exact.frames x h;
  }

  pub none_still : (n : ℕ) → HasNoneOf key n ws → HasNoneOf key n us
  none_still n none c is free =
      none c is (λ x e. sym (same_held key ws us x same (covered_inside key c x is.is_block e)) ∙ free x e)

-- A block and its halves.

module _ (key : Key) (ws us : List ℕ) (held : List FrameBlock) (b first second : FrameBlock) (lawful : IsHolding key (b ∷ held))
    (exact : HoldsExactly key ws (b ∷ held)) (are : AreHalves b first second) (one : IsBlock key first) (two : IsBlock key second)
    (halves : HoldsHalves key b first second ws us) where
  whole : IsBlock key b
  whole = All-head (IsBlock key) b held lawful.blocks

  low : (c : ℕ) → whole_at c first + whole_at c second ≡ 0
  low c = omega (
    arith,
    not_whole c first (omega (arith, whole.order, are.some, ap (λ (d : FrameBlock). d.order) are.lower)),
    not_whole c second (omega (arith, whole.order, are.some, ap (λ (d : FrameBlock). d.order) are.upper)),
  )

  pub lawful_halves : IsHolding key (first ∷ second ∷ held)
  lawful_halves = record {
    blocks = All-cons (IsBlock key) first (second ∷ held) one
        (All-cons (IsBlock key) second held two (All-tail (IsBlock key) b held lawful.blocks));
    disjoint = λ x. omega (
      arith,
      lawful.disjoint x,
      holders_cons x b held,
      holders_cons x first (second ∷ held),
      holders_cons x second held,
      covers_are key b x whole,
      covers_are key first x one,
      covers_are key second x two,
      both_halves key b x whole are.some,
      ap (small_at x) are.lower,
      ap (small_at x) are.upper,
      low (child_of x),
    );
  }

  pub exact_halves : HoldsExactly key us (first ∷ second ∷ held)
  exact_halves =
      by_form key us (first ∷ second ∷ held) lawful_halves
      (λ x h. omega (
        arith,
        halves.bits x h,
        exact.smalls x h,
        smalls_cons x b held,
        smalls_cons x first (second ∷ held),
        smalls_cons x second held,
      ))
      (λ c h. omega (
        arith,
        halves.flags c h,
        exact.wholes c h,
        wholes_cons c b held,
        wholes_cons c first (second ∷ held),
        wholes_cons c second held,
      ))

  pub none_halves : (n : ℕ) → HasNoneOf key n ws → HasNoneOf key n us
  none_halves n none c is free =
      none c is (λ x e. sym (halves.frames x (covered_inside key c x is.is_block e)) ∙ free x e)

-- Orders above one of which no block is free.

-- both halves are aligned
half_steps : (o f : ℕ) → o < 9 → f % 2 ^ suc o ≡ 0 → (f % 2 ^ o ≡ 0) × ((f + 2 ^ o) % 2 ^ o ≡ 0)
half_steps zero f h e = (omega arith, omega arith)
half_steps (suc zero) f h e = (omega arith, omega arith)
half_steps (suc (suc zero)) f h e = (omega arith, omega arith)
half_steps (suc (suc (suc zero))) f h e = (omega arith, omega arith)
half_steps (suc (suc (suc (suc zero)))) f h e = (omega arith, omega arith)
half_steps (suc (suc (suc (suc (suc zero))))) f h e = (omega arith, omega arith)
half_steps (suc (suc (suc (suc (suc (suc zero)))))) f h e = (omega arith, omega arith)
half_steps (suc (suc (suc (suc (suc (suc (suc zero))))))) f h e = (omega arith, omega arith)
half_steps (suc (suc (suc (suc (suc (suc (suc (suc zero)))))))) f h e = (omega arith, omega arith)
half_steps (suc (suc (suc (suc (suc (suc (suc (suc (suc o))))))))) f h e = absurd (omega arith)

-- the halves of a block are blocks
pub halves_are : (key : Key) (b first second : FrameBlock) → IsBlock key b → AreHalves b first second
    → IsBlock key first × IsBlock key second
halves_are key b first second is are =
    let o : ℕ = b.order - 1 in
    let next : b.order ≡ suc o = omega (arith, are.some) in
    let size : 2 ^ b.order ≡ 2 ^ suc o = ap (λ k. 2 ^ k) next in
    let double : 2 ^ suc o ≡ 2 ^ o * 2 = pow-suc 2 o in
    let parts = half_steps o b.frame (omega (arith, is.order, next)) (ap (λ k. b.frame % k) (sym size) ∙ is.aligned) in
    let low : IsBlock key (block b.frame o) = record {
      order = omega (arith, is.order, next);
      aligned = parts.0;
      inside = omega (arith, is.inside, size, double);
    } in
    let high : IsBlock key (block (b.frame + 2 ^ o) o) = record {
      order = omega (arith, is.order, next);
      aligned = parts.1;
      inside = omega (arith, is.inside, size, double);
    } in
    (subst (IsBlock key) (sym are.lower) low, subst (IsBlock key) (sym are.upper) high)

-- the lower half of a free block is free
none_next : (key : Key) (ws : List ℕ) (n : ℕ) → HasNoneOf key n ws → HasNoneOf key (suc n) ws
none_next key ws n none c is free =
    let double : 2 ^ suc n ≡ 2 ^ n * 2 = pow-suc 2 n in
    let size : 2 ^ c.order ≡ 2 ^ suc n = ap (λ k. 2 ^ k) is.has_order in
    none (block c.frame n) (record {
      is_block = record {
        order = omega (arith, is.is_block.order, is.has_order);
        aligned = (half_steps n c.frame (omega (arith, is.is_block.order, is.has_order))
            (ap (λ k. c.frame % k) (sym size) ∙ is.is_block.aligned)).0;
        inside = omega (arith, is.is_block.inside, double, size);
      };
      has_order = refl;
    }) (λ x e.
    let from = covered_from (block c.frame n) x e in
    free x (is_covered c x from.0 (omega (arith, from.1, double, size))))

none_past : (key : Key) (ws : List ℕ) (n k : ℕ) → HasNoneOf key n ws → HasNoneOf key (k + n) ws
none_past key ws n zero none = let e : n ≡ 0 + n = omega arith in subst (λ i. HasNoneOf key i ws) e none
none_past key ws n (suc k) none =
    let e : suc (k + n) ≡ suc k + n = omega arith in
    subst (λ i. HasNoneOf key i ws) e (none_next key ws (k + n) (none_past key ws n k none))

pub none_above : (key : Key) (ws : List ℕ) (n k : ℕ) → n ≤ k → HasNoneOf key n ws → HasNoneOf key k ws
none_above key ws n k h none =
    let e : k - n + n ≡ k = omega (arith, h) in
    subst (λ i. HasNoneOf key i ws) e (none_past key ws n (k - n) none)

-- there is no block of an order above 9
pub none_at_all : (key : Key) (ws : List ℕ) (n : ℕ) → 9 < n → HasNoneOf key n ws
none_at_all key ws n h b is free = omega (arith, is.is_block.order, is.has_order, h)

-- no block is free for a take
pub finds_none : (key : Key) (ws : List ℕ) (held : List FrameBlock) (order : ℕ) → HoldsExactly key ws held → order ≤ 9
    → HasNoneOf key order ws → FindsNone key held held order
finds_none key ws held order exact low none = record {
  lawful = low;
  none = λ b is has free.
      none b (record { is_block = is; has_order = has })
      (λ x e. exact.frames x (covered_inside key b x is e) ∙ free x e);
  unchanged = refl;
}
