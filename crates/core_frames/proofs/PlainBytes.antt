-- What is read off a list of bytes when one of them is written.
use Rattle.std.proofs.Common.{◌≡◌, ◌⊎◌, ⊎_elim, inl, inr, ℕ, zero, suc, ◌+◌, ◌-◌, ◌<◌, ◌≤◌, List, [], ◌∷◌, ◌++◌, length, get_or, set}
use Rattle.std.proofs.Common.{refl, ap, sym, subst, ◌∙◌, append_assoc, arith}
use Rattle.std.specs.Prelude.{true, false, nat_le, nat_lt}
use Rattle.std.specs.List.{sum_by, Contains}
use Rattle.std.proofs.lemmas.Bool.{cases_lt}
use Rattle.std.proofs.lemmas.Bool.Decides.{nat_tests}
use Rattle.std.proofs.lemmas.Nat.{pow_pos}
use Rattle.std.specs.List.Sorted.{IsPermutation}
use Rattle.std.proofs.lemmas.List.Sorted.{IsPermutation-refl, IsPermutation-sym, IsPermutation-trans, IsPermutation-append_left}
use Rattle.std.proofs.lemmas.List.Sorted.{IsPermutation-append_right, IsPermutation-append_comm}
use Rattle.std.proofs.lemmas.List.Elements.{Contains-append_cases, Contains-append_left, Contains-append_right}
use Rattle.std.proofs.lemmas.List.Sums.{sum_by-append, sum_by-cons}
use Rattle.frame_model.specs.declared.block.FrameBlock.{FrameBlock}
use Rattle.frame_model.specs.Block.{block, covers}
use Rattle.frame_model.specs.Holding.{holders}
use Rattle.core_frames.specs.PlainBytes.{gathered, begun, first_out, first_kept, out_of, kept_of}
use Rattle.core_frames.proofs.PlainSums.{covers_in}

module _ {X : Type 0} where
  same-perm : (xs ys : List X) → xs ≡ ys → IsPermutation xs ys
  same-perm xs ys e = subst (λ (zs : List X). IsPermutation xs zs) e (IsPermutation-refl xs)

  -- the first of three lists moves behind the second
  passes : (xs ys zs : List X) → IsPermutation (xs ++ (ys ++ zs)) (ys ++ (xs ++ zs))
  passes xs ys zs =
      IsPermutation-trans (xs ++ (ys ++ zs)) ((xs ++ ys) ++ zs) (ys ++ (xs ++ zs)) (same-perm _ _ (sym (append_assoc xs ys zs)))
      (IsPermutation-trans ((xs ++ ys) ++ zs) ((ys ++ xs) ++ zs) (ys ++ (xs ++ zs))
      (IsPermutation-append_left zs (xs ++ ys) (ys ++ xs) (IsPermutation-append_comm xs ys))
      (same-perm _ _ (append_assoc ys xs zs)))

module _ {X : Type 0} (gives : ℕ → ℕ → List X) where
  -- a written item gives way: what the old one gave is exchanged for what the new one gives
  pub gathered-set : (from : ℕ) (items : List ℕ) (i new : ℕ) → i < length items
      → IsPermutation (gives (from + i) (get_or items i 0) ++ gathered gives from (set items i new))
      (gives (from + i) new ++ gathered gives from items)
  gathered-set from [] i new h = absurd (omega arith)
  gathered-set from (item ∷ items) zero new h =
      let e : from + 0 ≡ from = omega arith in
      rw e (passes (gives from item) (gives from new) (gathered gives (from + 1) items))
  gathered-set from (item ∷ items) (suc i) new h =
      let e : from + suc i ≡ from + 1 + i = omega arith in
      let old : List X = gives (from + 1 + i) (get_or items i 0) in
      let now : List X = gives (from + 1 + i) new in
      let here : List X = gives from item in
      let after : List X = gathered gives (from + 1) (set items i new) in
      let before : List X = gathered gives (from + 1) items in
      rw e
      (IsPermutation-trans (old ++ (here ++ after)) (here ++ (old ++ after)) (now ++ (here ++ before)) (passes old here after)
      (IsPermutation-trans (here ++ (old ++ after)) (here ++ (now ++ before)) (now ++ (here ++ before))
      (IsPermutation-append_right here (old ++ after) (now ++ before) (gathered-set (from + 1) items i new (omega arith)))
      (passes here now before)))

  -- an item that gives what it gave changes nothing
  pub gathered-set_same : (from : ℕ) (items : List ℕ) (i new : ℕ) → gives (from + i) (get_or items i 0) ≡ gives (from + i) new
      → gathered gives from (set items i new) ≡ gathered gives from items
  gathered-set_same from [] i new h = refl
  gathered-set_same from (item ∷ items) zero new h =
      let e : from + 0 ≡ from = omega arith in
      ap (λ (xs : List X). xs ++ gathered gives (from + 1) items) (sym (rw e at h))
  gathered-set_same from (item ∷ items) (suc i) new h =
      let e : from + suc i ≡ from + 1 + i = omega arith in
      ap (λ (xs : List X). gives from item ++ xs) (gathered-set_same (from + 1) items i new (rw e at h))

  -- what one item gives is among what all give
  pub at-le-gathered : (f : X → ℕ) (from : ℕ) (items : List ℕ) (i : ℕ) → i < length items
      → sum_by f (gives (from + i) (get_or items i 0)) ≤ sum_by f (gathered gives from items)
  at-le-gathered f from [] i h = absurd (omega arith)
  at-le-gathered f from (item ∷ items) zero h =
      let e : from + 0 ≡ from = omega arith in
      rw e (omega (arith, sum_by-append f (gives from item) (gathered gives (from + 1) items)))
  at-le-gathered f from (item ∷ items) (suc i) h =
      let e : from + suc i ≡ from + 1 + i = omega arith in
      rw e (omega (
        arith,
        sum_by-append f (gives from item) (gathered gives (from + 1) items),
        at-le-gathered f
            (from + 1) items i (omega arith),
      ))

  -- whatever is gathered was given by an item
  pub Contains-gathered : (from : ℕ) (items : List ℕ) (x : X) → Contains (gathered gives from items) x
      → (i : ℕ) × (i < length items) × Contains (gives (from + i) (get_or items i 0)) x
  Contains-gathered from [] x (k, h, e) = absurd (omega arith)
  Contains-gathered from (item ∷ items) x has =
      ⊎_elim
      (λ (l : Contains (gives from item) x). (
        0,
        omega arith,
        (let e : from ≡ from + 0 = omega arith in subst (λ (n : ℕ). Contains (gives n item) x) e
            l),
      ))
      (λ (r : Contains (gathered gives (from + 1) items) x).
      let t = Contains-gathered (from + 1) items x r in (
        suc t.0,
        omega (arith, t.1),
        (let e : from + 1 + t.0 ≡ from + suc t.0 = omega arith in subst
            (λ (n : ℕ). Contains (gives n (get_or items t.0 0)) x) e t.2),
      ))
      (Contains-append_cases (gives from item) (gathered gives (from + 1) items) x has)

  -- what an item gives is gathered
  pub gathered-Contains : (from : ℕ) (items : List ℕ) (i : ℕ) → i < length items → (x : X)
      → Contains (gives (from + i) (get_or items i 0)) x → Contains (gathered gives from items) x
  gathered-Contains from [] i h x has = absurd (omega arith)
  gathered-Contains from (item ∷ items) zero h x has =
      let e : from + 0 ≡ from = omega arith in
      Contains-append_left (gives from item) (gathered gives (from + 1) items) x
      (subst (λ (n : ℕ). Contains (gives n item) x) e has)
  gathered-Contains from (item ∷ items) (suc i) h x has =
      let e : from + suc i ≡ from + 1 + i = omega arith in
      Contains-append_right (gives from item) (gathered gives (from + 1) items) x
      (gathered-Contains (from + 1) items i (omega arith) x (subst (λ (n : ℕ). Contains (gives n (get_or items i 0)) x) e has))

  -- where no item gives anything, nothing is gathered
  pub gathered-none : (from : ℕ) (items : List ℕ)
      → ((i : ℕ) → i < length items → gives (from + i) (get_or items i 0) ≡ []) → gathered gives from items ≡ []
  gathered-none from [] h = refl
  gathered-none from (item ∷ items) h =
      let e : from + 0 ≡ from = omega arith in
      let z = h 0 (omega arith) in
      let t = gathered-none (from + 1) items
      (λ i l. let n : from + suc i ≡ from + 1 + i = omega arith in let y = h (suc i) (omega arith) in rw n at y)
      in
      rw (t, rw e at z) refl

-- The blocks that the bytes of the frames name.

begun_at : (first frame order : ℕ) → order ≤ 9 → begun first frame (first + order) ≡ block frame order ∷ []
unfolding begun
begun_at first frame order h =
    let low : nat_le first (first + order) ≡ true = grind (arith, nat_tests) in
    let high : nat_lt (first + order) (first + 10) ≡ true = grind (arith, nat_tests) in
    let e : first + order - first ≡ order = omega arith in
    rw (low, high, e) refl

begun_below : (first frame byte : ℕ) → byte < first → begun first frame byte ≡ []
unfolding begun
begun_below first frame byte h =
    let low : nat_le first byte ≡ false = grind (arith, nat_tests) in
    rw low refl

begun_above : (first frame byte : ℕ) → first + 10 ≤ byte → begun first frame byte ≡ []
unfolding begun
begun_above first frame byte h =
    let low : nat_le first byte ≡ true = grind (arith, nat_tests) in
    let high : nat_lt byte (first + 10) ≡ false = grind (arith, nat_tests) in
    rw (low, high) refl

-- a byte names a block, or none
begun_cases : (first frame byte : ℕ)
    → (begun first frame byte ≡ []) ⊎ ((first ≤ byte) × (byte - first ≤ 9)
    × (begun first frame byte ≡ block frame (byte - first) ∷ []))
begun_cases first frame byte =
    ⊎_elim
    (λ below. inl (begun_below first frame byte below))
    (λ l.
    ⊎_elim
    (λ inside. inr (
      l,
      omega arith,
      (let e : byte ≡ first + (byte - first) = omega arith in ap (begun first frame) e
          ∙ begun_at first frame (byte - first) (omega arith)),
    ))
    (λ above. inl (begun_above first frame byte above))
    (cases_lt byte (first + 10)))
    (cases_lt byte first)

-- the block of a byte holds its first frame
begun_holds : (first frame byte : ℕ) → holders frame (begun first frame byte) ≡ 0 → begun first frame byte ≡ []
unfolding holders
begun_holds first frame byte none =
    ⊎_elim
    (λ e. e)
    (λ some.
    let b : FrameBlock = block frame (byte - first) in
    let one : sum_by (λ (c : FrameBlock). covers c frame) (b ∷ []) ≡ 0 = ap
    (sum_by (λ (c : FrameBlock). covers c frame)) (sym some.2) ∙ none in
    absurd (omega (
      arith,
      one,
      sum_by-cons (λ (c : FrameBlock). covers c frame) b [],
      covers_in b frame (omega arith)
          (omega (arith, pow_pos (byte - first))),
    )))
    (begun_cases first frame byte)

module _ (first : ℕ) (bytes : List ℕ) where
  -- no block begins at a frame that no block of the list holds
  pub none_begun : (frame : ℕ) → frame < length bytes → holders frame (gathered (begun first) 0 bytes) ≡ 0
      → begun first frame (get_or bytes frame 0) ≡ []
  unfolding holders
  none_begun frame h none =
      let e : 0 + frame ≡ frame = omega arith in
      let most = at-le-gathered (begun first) (λ (c : FrameBlock). covers c frame) 0 bytes frame h in
      let here = rw e at most in
      begun_holds first frame (get_or bytes frame 0) (omega arith)

  -- a byte is written: the block that it named is exchanged for the one that it names now
  exchanged : (frame new : ℕ) → frame < length bytes
      → IsPermutation (begun first frame (get_or bytes frame 0) ++ gathered (begun first) 0 (set bytes frame new))
      (begun first frame new ++ gathered (begun first) 0 bytes)
  exchanged frame new h =
      let e : 0 + frame ≡ frame = omega arith in
      let all = gathered-set (begun first) 0 bytes frame new h in
      rw e at all

  unchanged : (frame new : ℕ) → begun first frame (get_or bytes frame 0) ≡ [] → begun first frame new ≡ []
      → gathered (begun first) 0 (set bytes frame new) ≡ gathered (begun first) 0 bytes
  unchanged frame new was is =
      let e : 0 + frame ≡ frame = omega arith in
      gathered-set_same (begun first) 0 bytes frame new (rw e (was ∙ sym is))

  -- a byte that named no block names one
  added : (frame order : ℕ) → order ≤ 9 → frame < length bytes → begun first frame (get_or bytes frame 0) ≡ []
      → IsPermutation (block frame order ∷ gathered (begun first) 0 bytes)
      (gathered (begun first) 0 (set bytes frame (first + order)))
  added frame order low h was =
      let all = exchanged frame (first + order) h in
      let now = begun_at first frame order low in
      IsPermutation-sym (gathered (begun first) 0 (set bytes frame (first + order)))
      (block frame order ∷ gathered (begun first) 0 bytes) (rw (was, now) at all)

  -- a byte that named a block names none
  removed : (frame order new : ℕ) → order ≤ 9 → frame < length bytes → get_or bytes frame 0 ≡ first + order
      → begun first frame new ≡ [] → IsPermutation
      (block frame order ∷ gathered (begun first) 0 (set bytes frame new)) (gathered (begun first) 0 bytes)
  removed frame order new low h was is =
      let all = exchanged frame new h in
      let old = begun_at first frame order low in
      rw (was, old, is) at all

  -- a block of the list begins at its frame's byte
  pub byte_of : (b : FrameBlock) → Contains (gathered (begun first) 0 bytes) b → (b.frame < length bytes)
      × (b.order ≤ 9) × (get_or bytes b.frame 0 ≡ first + b.order)
  byte_of b has =
      let t = Contains-gathered (begun first) 0 bytes b has in
      ⊎_elim
      (λ (e : begun first (0 + t.0) (get_or bytes t.0 0) ≡ []). absurd (nothing b (subst (λ (xs : List FrameBlock). Contains xs b) e t.2)))
      (λ (s : (first ≤ get_or bytes t.0 0) × (get_or bytes t.0 0 - first ≤ 9)
      × (begun first (0 + t.0) (get_or bytes t.0 0) ≡ block (0 + t.0) (get_or bytes t.0 0 - first) ∷ [])).
      let it : block (0 + t.0) (get_or bytes t.0 0 - first) ≡ b = only (block (0 + t.0) (get_or bytes t.0 0 - first))
      b (subst (λ (xs : List FrameBlock). Contains xs b) s.2 t.2) in
      let frame : 0 + t.0 ≡ b.frame = ap (λ (c : FrameBlock). c.frame) it in
      let order : get_or bytes t.0 0 - first ≡ b.order = ap (λ (c : FrameBlock). c.order) it in
      let place : t.0 ≡ b.frame = omega arith in
      (omega (arith, t.1), omega (arith, s.1), omega (arith, s.0, order, ap (λ k. get_or bytes k 0) place)))
      (begun_cases first (0 + t.0) (get_or bytes t.0 0))
    where
      nothing : (b : FrameBlock) → Contains [] b → ⊥
      nothing b (k, h, e) = omega arith

      only : (a b : FrameBlock) → Contains (a ∷ []) b → a ≡ b
      only a b (zero, h, e) = e
      only a b (suc k, h, e) = absurd (omega arith)

-- no byte names a block where all are 0
pub none_named : (first : ℕ) → 0 < first → (bytes : List ℕ) → ((i : ℕ) → i < length bytes → get_or bytes i 0 ≡ 0)
    → gathered (begun first) 0 bytes ≡ []
none_named first some bytes all = gathered-none (begun first) 0 bytes
    (λ i h. begun_below first (0 + i) (get_or bytes i 0) (omega (arith, all i h)))

-- A block is taken, given, kept.

module _ (bytes : List ℕ) where
  pub out_taken : (frame order : ℕ) → order ≤ 9 → frame < length bytes → holders frame (out_of bytes) ≡ 0
      → IsPermutation (block frame order ∷ out_of bytes) (out_of (set bytes frame (first_out + order)))
  unfolding out_of
  out_taken frame order low h none = added first_out bytes frame order low h (none_begun first_out bytes frame h none)

  pub kept_taken : (frame order : ℕ) → order ≤ 9 → frame < length bytes → holders frame (kept_of bytes) ≡ 0
      → kept_of (set bytes frame (first_out + order)) ≡ kept_of bytes
  unfolding kept_of
  kept_taken frame order low h none = unchanged first_kept bytes frame (first_out + order)
      (none_begun first_kept bytes frame h none) (begun_below first_kept frame (first_out + order) (omega arith))

  pub out_byte : (b : FrameBlock) → Contains (out_of bytes) b → (b.frame < length bytes) × (b.order ≤ 9)
      × (get_or bytes b.frame 0 ≡ first_out + b.order)
  unfolding out_of
  out_byte b has = byte_of first_out bytes b has

  pub out_named : (frame order : ℕ) → order ≤ 9 → frame < length bytes → get_or bytes frame 0 ≡ first_out + order
      → Contains (out_of bytes) (block frame order)
  unfolding out_of
  out_named frame order low h is =
      gathered-Contains (begun first_out) 0 bytes frame h (block frame order)
      (let e : frame ≡ 0 + frame = omega arith in
      subst (λ (x : ℕ). Contains (begun first_out x (get_or bytes frame 0)) (block frame order)) e
      (subst (λ (n : ℕ). Contains (begun first_out frame n) (block frame order)) (sym is)
      (subst (λ (xs : List FrameBlock). Contains xs (block frame order)) (sym (begun_at first_out frame order low))
      (0, omega arith, refl))))

  pub out_given : (b : FrameBlock) → Contains (out_of bytes) b → IsPermutation (b ∷ out_of (set bytes b.frame 0)) (out_of bytes)
  unfolding out_of
  out_given b has =
      let at = byte_of first_out bytes b has in
      removed first_out bytes b.frame b.order 0 at.1 at.0 at.2 (begun_below first_out b.frame 0 (omega arith))

  pub kept_given : (b : FrameBlock) → Contains (out_of bytes) b → kept_of (set bytes b.frame 0) ≡ kept_of bytes
  unfolding kept_of
  kept_given b has =
      let at = out_byte b has in
      unchanged first_kept bytes b.frame 0 (ap (begun first_kept b.frame) at.2
      ∙ begun_below first_kept b.frame (first_out + b.order) (omega (arith, at.1)))
      (begun_below first_kept b.frame 0 (omega arith))

  pub out_kept : (b : FrameBlock) → Contains (out_of bytes) b
      → IsPermutation (b ∷ out_of (set bytes b.frame (first_kept + b.order))) (out_of bytes)
  unfolding out_of
  out_kept b has =
      let at = byte_of first_out bytes b has in
      removed first_out bytes b.frame b.order (first_kept + b.order) at.1 at.0 at.2
      (begun_above first_out b.frame (first_kept + b.order) (omega arith))

  pub kept_kept : (b : FrameBlock) → Contains (out_of bytes) b
      → IsPermutation (b ∷ kept_of bytes) (kept_of (set bytes b.frame (first_kept + b.order)))
  unfolding kept_of
  kept_kept b has =
      let at = out_byte b has in
      added first_kept bytes b.frame b.order at.1 at.0 (ap (begun first_kept b.frame) at.2
      ∙ begun_below first_kept b.frame (first_out + b.order) (omega (arith, at.1)))

pub out_none : (bytes : List ℕ) → ((i : ℕ) → i < length bytes → get_or bytes i 0 ≡ 0) → out_of bytes ≡ []
unfolding out_of
out_none bytes all = none_named first_out (omega arith) bytes all

pub kept_none : (bytes : List ℕ) → ((i : ℕ) → i < length bytes → get_or bytes i 0 ≡ 0) → kept_of bytes ≡ []
unfolding kept_of
kept_none bytes all = none_named first_kept (omega arith) bytes all

pub kept_byte : (bytes : List ℕ) (b : FrameBlock) → Contains (kept_of bytes) b → (b.frame < length bytes) × (b.order ≤ 9)
    × (get_or bytes b.frame 0 ≡ first_kept + b.order)
unfolding kept_of
kept_byte bytes b has = byte_of first_kept bytes b has
