-- Counts of blocks: at a frame, and as a whole child.
use Rattle.std.proofs.Common.{◌≡◌, ◌≢◌, ⊎_elim, ℕ, zero, suc, ◌+◌, ◌*◌, ◌/◌, ◌%◌, ◌^◌, ◌<◌, ◌≤◌, List, [], ◌∷◌, ◌++◌, refl, sym, ◌∙◌, arith}
use Rattle.std.specs.List.{All}
use Rattle.std.specs.Int.{bit_at}
use Rattle.std.proofs.lemmas.List.Sums.{sum_by-cons, sum_by-append}
use Rattle.std.proofs.lemmas.List.Elements.{All-cons, All-nil}
use Rattle.std.proofs.lemmas.Bool.Decides.{nat_tests}
use Rattle.std.proofs.lemmas.Bool.{cases_lt}
use Rattle.std.proofs.lemmas.Nat.{pow_pos}
use Rattle.std.proofs.Math.Nat.{pow-suc}
use Rattle.frame_model.specs.declared.block.FrameBlock.{FrameBlock}
use Rattle.frame_model.specs.declared.key.Key.{Key}
use Rattle.frame_model.specs.Key.{child_of}
use Rattle.frame_model.specs.Block.{block, IsBlock, covers, small_at, whole_at, smalls, wholes}
use Rattle.frame_model.specs.Words.{run}
use Rattle.frame_model.specs.Steps.Amounts.{IsRun}
use Rattle.frame_model.proofs.Bits.{bit_at_run_inside, bit_at_run_below, bit_at_run_above}

pub smalls_cons : (x : ℕ) (b : FrameBlock) (bs : List FrameBlock)
    → smalls x (b ∷ bs) ≡ small_at x b + smalls x bs
unfolding smalls
smalls_cons x b bs = sum_by-cons (small_at x) b bs

pub wholes_cons : (c : ℕ) (b : FrameBlock) (bs : List FrameBlock)
    → wholes c (b ∷ bs) ≡ whole_at c b + wholes c bs
unfolding wholes
wholes_cons c b bs = sum_by-cons (whole_at c) b bs

pub in_block : (x : ℕ) (b : FrameBlock) → b.order < 9 → b.frame ≤ x → x < b.frame + 2 ^ b.order
    → small_at x b ≡ 1
unfolding small_at covers
in_block x b o l h = grind (arith, nat_tests)

pub before_block : (x : ℕ) (b : FrameBlock) → x < b.frame → small_at x b ≡ 0
unfolding small_at covers
before_block x b h = grind (arith, nat_tests)

pub behind_block : (x : ℕ) (b : FrameBlock) → b.frame + 2 ^ b.order ≤ x → small_at x b ≡ 0
unfolding small_at covers
behind_block x b h = grind (arith, nat_tests)

pub not_small : (x : ℕ) (b : FrameBlock) → b.order ≡ 9 → small_at x b ≡ 0
unfolding small_at
not_small x b h = grind (arith, nat_tests)

pub not_whole : (c : ℕ) (b : FrameBlock) → b.order < 9 → whole_at c b ≡ 0
unfolding whole_at
not_whole c b h = grind (arith, nat_tests)

pub whole_here : (c : ℕ) → whole_at c (block (512 * c) 9) ≡ 1
unfolding whole_at
whole_here c = grind (arith, nat_tests)

pub whole_else : (c d : ℕ) → d ≢ c → whole_at d (block (512 * c) 9) ≡ 0
unfolding whole_at
whole_else c d ne = grind (arith, nat_tests)

-- the block of a run holds just the frames whose bits the run has
pub run_here : (k from o x : ℕ) → o ≤ 6 → x / 64 ≡ k
    → small_at x (block (64 * k + from) o) ≡ bit_at (run from (2 ^ o)) (x % 64)
run_here k from o x h e =
    let b : FrameBlock = block (64 * k + from) o in
    ⊎_elim
    (λ below. before_block x b (omega arith) ∙ sym (bit_at_run_below from (2 ^ o) (x % 64) below))
    (λ l.
    ⊎_elim
    (λ inside. in_block x b (omega arith) (omega arith) (omega arith) ∙ sym (bit_at_run_inside from (2 ^ o) (x % 64) l inside))
    (λ above. behind_block x b (omega arith) ∙ sym (bit_at_run_above from (2 ^ o) (x % 64) above))
    (cases_lt (x % 64) (from + 2 ^ o)))
    (cases_lt (x % 64) from)

pub run_else : (k from o x : ℕ) → from + 2 ^ o ≤ 64 → x / 64 ≢ k → small_at x (block (64 * k + from) o) ≡ 0
run_else k from o x h ne =
    let b : FrameBlock = block (64 * k + from) o in
    ⊎_elim (λ below. before_block x b (omega (arith, pow_pos o))) (λ l. behind_block x b (omega arith)) (cases_lt (x / 64) k)

pub smalls_none : (x : ℕ) → smalls x [] ≡ 0
unfolding smalls
smalls_none x = refl

pub wholes_none : (c : ℕ) → wholes c [] ≡ 0
unfolding wholes
wholes_none c = refl

pub smalls_both : (x : ℕ) (bs cs : List FrameBlock) → smalls x (bs ++ cs) ≡ smalls x bs + smalls x cs
unfolding smalls
smalls_both x bs cs = sum_by-append (small_at x) bs cs

pub wholes_both : (c : ℕ) (bs cs : List FrameBlock) → wholes c (bs ++ cs) ≡ wholes c bs + wholes c cs
unfolding wholes
wholes_both c bs cs = sum_by-append (whole_at c) bs cs

-- a block ends in the child that it begins in
pub within_child : (o f : ℕ) → o ≤ 9 → f % 2 ^ o ≡ 0 → f + 2 ^ o ≤ 512 * (f / 512) + 512
within_child zero f h e = omega arith
within_child (suc zero) f h e = omega arith
within_child (suc (suc zero)) f h e = omega arith
within_child (suc (suc (suc zero))) f h e = omega arith
within_child (suc (suc (suc (suc zero)))) f h e = omega arith
within_child (suc (suc (suc (suc (suc zero))))) f h e = omega arith
within_child (suc (suc (suc (suc (suc (suc zero)))))) f h e = omega arith
within_child (suc (suc (suc (suc (suc (suc (suc zero))))))) f h e = omega arith
within_child (suc (suc (suc (suc (suc (suc (suc (suc zero)))))))) f h e = omega arith
within_child (suc (suc (suc (suc (suc (suc (suc (suc (suc zero))))))))) f h e = omega arith
within_child (suc (suc (suc (suc (suc (suc (suc (suc (suc (suc o)))))))))) f h e = absurd (omega arith)

pub small_elsewhere : (key : Key) (b : FrameBlock) → IsBlock key b → (x : ℕ) → child_of x ≢ child_of b.frame
    → small_at x b ≡ 0
small_elsewhere key b i x ne =
    ⊎_elim
    (λ below. before_block x b below)
    (λ l. ⊎_elim (λ inside. absurd (ne (omega (arith, within_child b.order b.frame i.order i.aligned))))
    (λ above. behind_block x b above) (cases_lt x (b.frame + 2 ^ b.order)))
    (cases_lt x b.frame)

pub whole_elsewhere : (b : FrameBlock) (d : ℕ) → d ≢ child_of b.frame → whole_at d b ≡ 0
unfolding whole_at
whole_elsewhere b d ne = let far : b.frame ≢ 512 * d = (λ e. ne (omega arith)) in grind (arith, nat_tests)

-- a block below order 9 holds the frames of its two halves
pub halves : (x f o : ℕ) → o < 8
    → small_at x (block f (suc o)) ≡ small_at x (block f o) + small_at x (block (f + 2 ^ o) o)
halves x f o h =
    let twice : 2 ^ suc o ≡ 2 ^ o * 2 = pow-suc 2 o in
    let w : FrameBlock = block f (suc o) in
    let a : FrameBlock = block f o in
    let b : FrameBlock = block (f + 2 ^ o) o in
    ⊎_elim
    (λ below. omega (arith, before_block x w below, before_block x a below, before_block x b (omega arith)))
    (λ l.
    ⊎_elim
    (λ first. omega (
      arith,
      in_block x w (omega arith) l (omega arith),
      in_block x a (omega arith) l first,
      before_block x b first,
    ))
    (λ m.
    ⊎_elim
    (λ second. omega (
      arith,
      in_block x w (omega arith) l (omega arith),
      behind_block x a m,
      in_block x b (omega arith) m second,
    ))
    (λ above. omega (arith, behind_block x w (omega arith), behind_block x a m, behind_block x b above))
    (cases_lt x (f + 2 ^ o + 2 ^ o)))
    (cases_lt x (f + 2 ^ o)))
    (cases_lt x f)

aligned_in : (k from o : ℕ) → o ≤ 6 → from % 2 ^ o ≡ 0 → (64 * k + from) % 2 ^ o ≡ 0
aligned_in k from zero h e = omega arith
aligned_in k from (suc zero) h e = omega arith
aligned_in k from (suc (suc zero)) h e = omega arith
aligned_in k from (suc (suc (suc zero))) h e = omega arith
aligned_in k from (suc (suc (suc (suc zero)))) h e = omega arith
aligned_in k from (suc (suc (suc (suc (suc zero))))) h e = omega arith
aligned_in k from (suc (suc (suc (suc (suc (suc zero)))))) h e = omega arith
aligned_in k from (suc (suc (suc (suc (suc (suc (suc o))))))) h e = absurd (omega arith)

-- a run of bits is a block
pub run_is_block : (key : Key) (k from o : ℕ) → IsRun key k from o → IsBlock key (block (64 * k + from) o)
run_is_block key k from o r = record {
  order = omega (arith, r.small);
  aligned = aligned_in k from o r.small r.aligned;
  inside = omega (arith, r.inside, r.fits);
}

-- a child is a block
pub child_is_block : (key : Key) (c : ℕ) → c < key.children → IsBlock key (block (512 * c) 9)
child_is_block key c h = record { order = omega arith; aligned = omega arith; inside = omega arith }

-- the lower and the upper half of a child are blocks
pub half_is_block : (key : Key) (c : ℕ) → c < key.children → IsBlock key (block (512 * c) 8)
half_is_block key c h = record { order = omega arith; aligned = omega arith; inside = omega arith }

pub other_half_is_block : (key : Key) (c : ℕ) → c < key.children → IsBlock key (block (512 * c + 256) 8)
other_half_is_block key c h = record { order = omega arith; aligned = omega arith; inside = omega arith }

-- the two halves of a child hold its frames
pub halves_here : (c x : ℕ) → x / 512 ≡ c
    → small_at x (block (512 * c) 8) + small_at x (block (512 * c + 256) 8) ≡ 1
halves_here c x e =
    let a : FrameBlock = block (512 * c) 8 in
    let b : FrameBlock = block (512 * c + 256) 8 in
    ⊎_elim
    (λ first. omega (arith, in_block x a (omega arith) (omega arith) (omega arith), before_block x b (omega arith)))
    (λ second. omega (arith, behind_block x a (omega arith), in_block x b (omega arith) (omega arith) (omega arith)))
    (cases_lt x (512 * c + 256))

pub halves_else : (c x : ℕ) → x / 512 ≢ c
    → small_at x (block (512 * c) 8) + small_at x (block (512 * c + 256) 8) ≡ 0
halves_else c x ne =
    let a : FrameBlock = block (512 * c) 8 in
    let b : FrameBlock = block (512 * c + 256) 8 in
    ⊎_elim
    (λ below. omega (arith, before_block x a below, before_block x b (omega arith)))
    (λ above. omega (arith, behind_block x a (omega arith), behind_block x b (omega arith)))
    (cases_lt x (512 * c))

-- the blocks hold just the frames of a bit word whose bits a mask has
pub record AreAt (key : Key) (k mask : ℕ) (bs : List FrameBlock) : Type 0 where
  pub are_blocks : All (IsBlock key) bs
  pub here : (x : ℕ) → x / 64 ≡ k → smalls x bs ≡ bit_at mask (x % 64)
  pub elsewhere : (x : ℕ) → x / 64 ≢ k → smalls x bs ≡ 0
  pub no_wholes : (c : ℕ) → wholes c bs ≡ 0

pub run_at : (key : Key) (k from o : ℕ) → IsRun key k from o
    → AreAt key k (run from (2 ^ o)) (block (64 * k + from) o ∷ [])
run_at key k from o r =
    let b : FrameBlock = block (64 * k + from) o in
    record {
      are_blocks = All-cons (IsBlock key) b [] (run_is_block key k from o r) (All-nil (IsBlock key));
      here = λ x e. omega (arith, smalls_cons x b [], smalls_none x, run_here k from o x r.small e);
      elsewhere = λ x ne. omega (arith, smalls_cons x b [], smalls_none x, run_else k from o x r.fits ne);
      no_wholes = λ c. omega (arith, wholes_cons c b [], wholes_none c, not_whole c b (omega (arith, r.small)));
    }
