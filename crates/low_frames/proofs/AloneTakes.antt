-- What takes find and leave where nobody else steps, from what their parts do.
use Rattle.std.proofs.Common.{◌≡◌, ⊎_elim, ℕ, ◌+◌, ◌*◌, ◌^◌, ◌<◌, ◌≤◌, List, Option, None, Some, refl, ap, sym, subst, ◌∙◌, arith}
use Rattle.std.proofs.lemmas.Bool.{cases_lt}
use Rattle.std.proofs.lemmas.Nat.{pow_pos}
use Rattle.frame_model.specs.declared.block.FrameBlock.{FrameBlock}
use Rattle.frame_model.specs.declared.key.Key.{Key}
use Rattle.frame_model.specs.declared.view.View.{View}
use Rattle.frame_model.specs.Steps.{words_after, refund}
use Rattle.frame_model.specs.Key.{child_of}
use Rattle.frame_model.specs.Block.{block}
use Rattle.frame_core.specs.Moves.{Changes}
use Rattle.low_frames.specs.Takes.{IsBlockIn}
use Rattle.low_frames.specs.Alone.{Turns, FindsOf, WordsTake, HoldsMore, HasNoneIn, HasNoneOfTree, IsCharged, HasTooFew, IsClaimedIn}
use Rattle.low_frames.specs.Alone.{HasNoRunIn, IsTakenHuge, IsNotWhole}
use Rattle.low_frames.proofs.AloneLemmas.{if_known, at_known, then_found}
use Rattle.low_frames.proofs.RoomLemmas.{FitsAlone, range_alone, entries_alone, none_of_few, none_of_part, none_of_runs, huge_taken}
use Rattle.low_frames.proofs.RoomLemmas.{refund_back, runs_before, small_taken}

module _ (A : Type 0) (key : Key) (old : Option (List ℕ)) (v : View) (fits : (ws : List ℕ) → old ≡ Some ws → FitsAlone A key ws v)
    (alone : A) (child : ℕ) (inside : child < key.children) (none : v.charged ≡ None) where
  -- too few frames are no block
  pub few_none : (order n : ℕ) (new : Option (List ℕ)) → n ≡ 2 ^ order → FindsOf (HasTooFew child n) old new
      → FindsOf (HasNoneIn key child order) old new
  few_none order n new size found =
      if_known old (λ ws. (new ≡ Some ws) × HasTooFew child n ws) (λ ws. (new ≡ Some ws) × HasNoneIn key child order ws) found
      (λ ws e h. (h.0, none_of_few A key ws v (fits ws e) alone child inside none order (subst (λ m. HasTooFew child m ws) size h.1)))

  -- a charge, a claim and a handing out
  pub small_taken_known : (n frame order : ℕ) (b : FrameBlock) (mid now new : Option (List ℕ)) (is : Key) → order ≤ 6 → is ≡ key
      → IsBlockIn is child order (block frame order) → b ≡ block frame order → Turns (IsCharged key child n) old mid
      → Turns (IsClaimedIn is frame order) mid now → new ≡ now → WordsTake key old new b
  small_taken_known n frame order b mid now new is few k in_child e charged claimed same =
      if_known old (λ ws. (us : List ℕ) × ((mid ≡ Some us) × IsCharged key child n ws us))
      (λ ws. (us : List ℕ) × ((new ≡ Some us) × HoldsMore key ws us b)) charged
      (λ ws at h.
      let c = at_known mid (λ us. (vs : List ℕ) × ((now ≡ Some vs) × IsClaimedIn is frame order us vs)) h.0 h.1.0 claimed in (
        c.0,
        (
          same ∙ c.1.0,
          subst (HoldsMore key ws c.0) (sym e)
              (small_taken key ws h.0 c.0 child n frame order (range_alone A key ws v (fits ws at)) inside few
              (subst (λ k. IsBlockIn k child order (block frame order)) k in_child) h.1.1
              (subst (λ k. IsClaimedIn k frame order h.0 c.0) k c.1.1)),
        ),
      ))

  -- a charge, no clear run, and a refund
  pub small_none_known : (n order : ℕ) (mid now new : Option (List ℕ)) (is after : Key) → order ≤ 6 → is ≡ key → after ≡ key
      → Turns (IsCharged key child n) old mid → FindsOf (HasNoRunIn is child order) mid now → Changes after (refund child n) now new
      → FindsOf (HasNoneIn key child order) old new
  small_none_known n order mid now new is after few k l charged found back =
      if_known old (λ ws. (us : List ℕ) × ((mid ≡ Some us) × IsCharged key child n ws us))
      (λ ws. (new ≡ Some ws) × HasNoneIn key child order ws) charged
      (λ ws at h.
      let r = range_alone A key ws v (fits ws at) in
      let f = at_known mid (λ us. (now ≡ Some us) × HasNoRunIn is child order us) h.0 h.1.0 found in
      let b = at_known now (λ us. new ≡ Some (words_after after (refund child n) us)) h.0 f.0 back in (
        b ∙ ap Some (ap (λ k. words_after k (refund child n) h.0) l ∙ refund_back key ws h.0 child n r inside h.1.1),
        none_of_runs key ws child order few
            (runs_before key ws h.0 child n r inside h.1.1 order (subst (λ k. HasNoRunIn k child order h.0) k f.1)),
      ))

  -- an entry that is not free as a whole
  pub part_none : (new : Option (List ℕ)) → FindsOf (IsNotWhole child) old new → FindsOf (HasNoneIn key child 9) old new
  part_none new found =
      if_known old (λ ws. (new ≡ Some ws) × IsNotWhole child ws) (λ ws. (new ≡ Some ws) × HasNoneIn key child 9 ws) found
      (λ ws e h. (h.0, none_of_part A key ws v (fits ws e) alone child inside none h.1))

  -- a huge take and a handing out
  pub huge_taken_known : (b : FrameBlock) (now new : Option (List ℕ)) → b ≡ block (512 * child) 9
      → Turns (IsTakenHuge key child) old now → new ≡ now → WordsTake key old new b
  huge_taken_known b now new e taken same =
      if_known old (λ ws. (us : List ℕ) × ((now ≡ Some us) × IsTakenHuge key child ws us))
      (λ ws. (us : List ℕ) × ((new ≡ Some us) × HoldsMore key ws us b)) taken
      (λ ws at h. (
        h.0,
        (
          same ∙ h.1.0,
          subst (HoldsMore key ws h.0) (sym e)
              (huge_taken key ws h.0 child (range_alone A key ws v (fits ws at)) inside h.1.1
              (omega (arith, entries_alone A key ws v (fits ws at) alone child inside))),
        ),
      ))

-- Children, one after the other.

-- none of so many children, from this one on, as far as there are so many, has a free block of the order
abbrev pub HasNoneBelow : Key → ℕ → ℕ → ℕ → List ℕ → Type 0
HasNoneBelow key first count order ws = (child : ℕ) → first ≤ child → child < first + count → HasNoneIn key child order ws

-- one child more
pub none_more : (key now : Key) (first count order child : ℕ) (old mid new : Option (List ℕ)) → now ≡ key → child ≡ first + count
    → FindsOf (HasNoneBelow key first count order) old mid → FindsOf (HasNoneIn now child order) mid new
    → FindsOf (HasNoneBelow key first (count + 1) order) old new
none_more key now first count order child old mid new k at below here =
    then_found (HasNoneBelow key first count order) (HasNoneIn now child order) (HasNoneBelow key first (count + 1) order) old mid new
    (λ ws none one c l h.
    ⊎_elim
    (λ (low : c < first + count). none c l low)
    (λ high. subst (λ j. HasNoneIn key j order ws) (at ∙ omega (arith, high, h)) (subst (λ k. HasNoneIn k child order ws) k one))
    (cases_lt c (first + count)))
    below here

-- a child past the last one has no block
pub none_past : (key : Key) (first count order child : ℕ) (old now : Option (List ℕ)) → child ≡ first + count → key.children ≤ child
    → FindsOf (HasNoneBelow key first count order) old now → FindsOf (HasNoneBelow key first (count + 1) order) old now
none_past key first count order child None now at past below = tt
none_past key first count order child (Some ws) now at past below = (
  below.0,
  λ c l h b is.
      ⊎_elim
      (λ (low : c < first + count). below.1 c l low b is)
      (λ high. absurd (omega (arith, at, past, high, h, is.in_child, is.is_block.inside, pow_pos b.order)))
      (cases_lt c (first + count)),
)

-- all eight children of a tree
pub none_of_tree : (key : Key) (tree count order : ℕ) (old now : Option (List ℕ)) → 8 ≤ count
    → FindsOf (HasNoneBelow key (8 * tree) count order) old now → FindsOf (HasNoneOfTree key tree order) old now
none_of_tree key tree count order None now all none = tt
none_of_tree key tree count order (Some ws) now all none = (
  none.0,
  λ b is. none.1 (child_of b.frame) (omega (arith, is.in_tree)) (omega (arith, is.in_tree)) b
      (record { is_block = is.is_block; has_order = is.has_order; in_child = refl }),
)
