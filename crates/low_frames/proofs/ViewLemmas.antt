-- What a take does to the view, step by step.
use Rattle.std.proofs.Common.{◌≡◌, ⊎_elim, ℕ, ◌+◌, ◌-◌, ◌*◌, ◌/◌, ◌^◌, ◌<◌, ◌≤◌, List, [], ◌∷◌, ◌++◌, Option, None, refl, ap, sym}
use Rattle.std.proofs.Common.{◌∙◌, arith, subst}
use Rattle.std.specs.Prelude.{pos, ◌+ℤ◌}
use Rattle.std.proofs.lemmas.Bool.{cases_lt}
use Rattle.std.proofs.lemmas.Bool.Decides.{nat_tests}
use Rattle.std.proofs.lemmas.Nat.{pow_pos}
use Rattle.std.proofs.lemmas.List.Elements.{All-cons, All-nil}
use Rattle.frame_model.specs.declared.block.FrameBlock.{FrameBlock}
use Rattle.frame_model.specs.declared.key.Key.{Key}
use Rattle.frame_model.specs.declared.view.Amount.{Amount}
use Rattle.frame_model.specs.declared.view.View.{View}
use Rattle.frame_model.specs.Key.{child_of, tree_of_child}
use Rattle.frame_model.specs.Block.{block, IsBlock, covers, small_at}
use Rattle.frame_model.specs.View.{counted, count_in, charged_in, names}
use Rattle.frame_model.specs.Steps.Amounts.{more, less, Leaves, IsRun}
use Rattle.frame_model.specs.Steps.Conditions.{CanRefund}
use Rattle.frame_model.specs.Seats.{CanHandOut, left_by}
use Rattle.std.specs.List.{sum_by}
use Rattle.std.proofs.lemmas.List.Sums.{sum_by-cons, sum_by-append}
use Rattle.frame_model.specs.Holding.{holders, IsFreeBlock}
use Rattle.frame_core.specs.Mover.{IsApart, LiesInside}
use Rattle.frame_model.specs.Steps.{refund}
use Rattle.frame_core.specs.Moves.{after, hand_out_block}
use Rattle.frame_model.specs.Without.{without, HasFrames}
use Rattle.frame_model.proofs.Amounts.{count_none, more_here, names_none}
use Rattle.frame_model.proofs.Blocks.{smalls_cons, smalls_none, wholes_cons, wholes_none, run_is_block, child_is_block}
use Rattle.frame_model.proofs.Without.{without_leaves, without_itself, whole_child, first_of_child}
use Rattle.low_frames.specs.Outcomes.{HasNoBootFrame}
use Rattle.low_frames.specs.Takes.{IsAsBefore, HasCharged, HasClaimed, HasClaimedIn, HasTakenHuge, HasHandedOut, IsBlockIn}

-- Amounts.

pub charged_here : (child n : ℕ) → count_in child (more child n None) ≡ n
charged_here child n = omega (arith, more_here child n None tt (λ other ne. count_none other), count_none child)

pub charged_back : (child n : ℕ) → less child n (more child n None) ≡ None
unfolding more less counted
charged_back child n = grind (arith, nat_tests)

-- Blocks.

covers-le : (b : FrameBlock) (x : ℕ) → covers b x ≤ 1
unfolding covers
covers-le b x = grind (arith, nat_tests)

pub is_covered : (b : FrameBlock) (x : ℕ) → b.frame ≤ x → x < b.frame + 2 ^ b.order → covers b x ≡ 1
unfolding covers
is_covered b x l h = grind (arith, nat_tests)

pub covered_from : (b : FrameBlock) (x : ℕ) → covers b x ≡ 1 → (b.frame ≤ x) × (x < b.frame + 2 ^ b.order)
unfolding covers
covered_from b x h = grind (arith, nat_tests)

pub small_is : (x : ℕ) (b : FrameBlock) → b.order < 9 → small_at x b ≡ covers b x
unfolding small_at
small_is x b h = grind (arith, nat_tests)

-- a list of one block has its frames
one_has_frames : (key : Key) (b : FrameBlock) → IsBlock key b → HasFrames (b ∷ []) b
one_has_frames key b is = record {
  smalls = λ low x h. omega (arith, smalls_cons x b [], smalls_none x, small_is x b low);
  wholes = λ top. omega (
    arith,
    wholes_cons (child_of b.frame) b [],
    wholes_none (child_of b.frame),
    whole_child b top
        (first_of_child b is.aligned top),
  );
}

-- the block of a run of bits lies in the child of the word
pub run_in_child : (key : Key) (child i bit order : ℕ) → i < 8 → IsRun key (8 * child + i) bit order
    → IsBlockIn key child order (block (64 * (8 * child + i) + bit) order)
run_in_child key child i bit order h r = record {
  is_block = run_is_block key (8 * child + i) bit order r;
  has_order = refl;
  in_child = omega (arith, r.fits, pow_pos order);
}

-- the only block of a list leaves it
pub one_leaves : (key : Key) (b : FrameBlock) (blocks : List FrameBlock) → IsBlock key b → blocks ≡ b ∷ []
    → Leaves key blocks b (without b blocks)
one_leaves key b blocks is e = subst (λ l. Leaves key l b (without b l)) (sym e)
    (without_leaves key b (b ∷ []) is (All-cons (IsBlock key) b [] is (All-nil (IsBlock key))) (one_has_frames key b is))

-- one block in flight can be handed out
pub can_hand_out : (key : Key) (v : View) (b : FrameBlock) → 0 < v.share → IsBlock key b → v.own ≡ b ∷ [] → (b.order ≡ 9 → v.filled ≡ [])
    → CanHandOut key v b (without b v.own)
can_hand_out key v b share is own filled = record {
  share = share;
  is_block = is;
  leaves = one_leaves key b v.own is own;
  unfilled = λ top word e. ap (names word) (filled top) ∙ names_none word;
}

-- Views.

-- a claim in a word of the child is one in the child
pub claimed_in : (child i bit order : ℕ) (v u w : View) → i < 8 → IsAsBefore v u → HasClaimed (8 * child + i) bit order u w
    → HasClaimedIn child (64 * (8 * child + i) + bit) order v w
claimed_in child i bit order v u w h before e =
    let F : View → ℕ → ℕ → View = (λ x c t. record x {
      charged = less c (2 ^ order) x.charged;
      paid = less t (2 ^ order) x.paid;
      own = block (64 * (8 * child + i) + bit) order ∷ x.own;
      moves = w.moves;
      lost = w.lost;
    }) in
    let c : (8 * child + i) / 8 ≡ child = omega arith in
    let t : (8 * child + i) / 64 ≡ child / 8 = omega arith in
    e ∙ ap (λ k. F u k ((8 * child + i) / 64)) c ∙ ap (λ k. F u child k) t ∙ ap (λ (x : View). F x child (child / 8)) before

-- what was charged is there
pub charged_of : (child n : ℕ) (v u : View) → HasCharged child n v u → v.charged ≡ None → charged_in child u ≡ n
charged_of child n v u e none = ap (charged_in child) e ∙ ap (λ a. count_in child (more child n a)) none ∙ charged_here child n

pub can_refund : (key was : Key) (child n : ℕ) (v u w : View) → key ≡ was → child < was.children → HasCharged child n v u
    → v.charged ≡ None → IsAsBefore u w → CanRefund key w child n
can_refund key was child n v u w k inside e none before = record {
  inside = subst (λ (x : Key). child < x.children) (sym k) inside;
  charged = omega (arith, ap (charged_in child) before, charged_of child n v u e none);
}

-- a charge and its refund leave the view as it was
pub refunded : (t : ℕ → ℕ) (child n : ℕ) (v u x w : View) → HasCharged child n v u → v.charged ≡ None → IsAsBefore u x
    → w ≡ after t (refund child n) x → IsAsBefore v w
refunded t child n v u x w e none before f =
    let F : View → Option Amount → ℕ → ℕ → View = (λ y a m l. record y { charged = a; moves = m; lost = l }) in
    let c : less child n (more child n v.charged) ≡ v.charged = ap (λ a. less child n (more child n a)) none ∙ charged_back child n
    ∙ sym none in
    f ∙ ap (λ (y : View). F y (less child n y.charged) (t x.moves) x.lost) before
    ∙ ap (λ (y : View). F y (less child n y.charged) (t x.moves) x.lost) e ∙ ap (λ a. F v a (t x.moves) x.lost) c
    ∙ sym (ap (λ m. F v v.charged m w.lost) (ap (λ y. y.moves) f) ∙ ap (λ l. F v v.charged (t x.moves) l) (ap (λ y. y.lost) f))

-- a charge, a claim and a handing out leave the view with less paid and one more lent
pub handed_out : (t : ℕ → ℕ) (key : Key) (child frame order n : ℕ) (v u x w : View) → n ≡ 2 ^ order → HasCharged child n v u
    → v.charged ≡ None → v.own ≡ [] → HasClaimedIn child frame order u x → IsBlock key (block frame order)
    → w ≡ left_by t (hand_out_block (block frame order)) x → HasHandedOut (tree_of_child child) order v w
handed_out t key child frame order n v u x w size e none own f is h =
    let b : FrameBlock = block frame order in
    let tree : ℕ = tree_of_child child in
    let F : View → Option Amount → List FrameBlock → ℕ → ℕ → View = (λ y a o m l. record y {
      charged = a;
      paid = less tree (2 ^ order) y.paid;
      own = o;
      lent = y.lent +ℤ pos 1;
      moves = m;
      lost = l;
    }) in
    let G : View → View = (λ y. F y (less child (2 ^ order) y.charged) (without b (b ∷ y.own)) (t x.moves) x.lost) in
    let c : less child (2 ^ order) (more child n v.charged) ≡ v.charged =
    ap (λ k. less child k (more child n v.charged)) (sym size) ∙ ap (λ a. less child n (more child n a)) none ∙ charged_back child n
    ∙ sym none in
    let o : without b (b ∷ v.own) ≡ v.own = ap (λ l. without b (b ∷ l)) own ∙ without_itself key b is ∙ sym own in
    h
    ∙ ap (λ (y : View). record y { own = without b y.own; lent = y.lent +ℤ pos 1; moves = t x.moves; lost = x.lost }) f
    ∙ ap G e
    ∙ ap (λ a. F v a (without b (b ∷ v.own)) (t x.moves) x.lost) c
    ∙ ap (λ l. F v v.charged l (t x.moves) x.lost) o
    ∙ sym (ap (λ m. F v v.charged v.own m w.lost) (ap (λ y. y.moves) h) ∙ ap (λ l. F v v.charged v.own (t x.moves) l) (ap (λ y. y.lost) h))

-- the one block that was claimed can be handed out
pub can_hand_out_claimed : (key was : Key) (child frame order n : ℕ) (v u w : View) → key ≡ was → order < 9 → 0 < v.share
    → HasCharged child n v u → v.own ≡ [] → HasClaimedIn child frame order u w → IsBlock was (block frame order)
    → CanHandOut key w (block frame order) (without (block frame order) w.own)
can_hand_out_claimed key was child frame order n v u w k low share e own f is =
    let b : FrameBlock = block frame order in
    can_hand_out key w b (subst (λ s. 0 < s) (sym (ap (λ x. x.share) f ∙ ap (λ x. x.share) e)) share)
    (subst (λ k. IsBlock k b) (sym k) is) (ap (λ x. x.own) f ∙ ap (λ (x : View). b ∷ x.own) e
    ∙ ap (λ l. b ∷ l) own) (λ top. absurd (omega arith))

-- a child taken whole can be handed out
pub can_hand_out_huge : (key was : Key) (child : ℕ) (v w : View) → key ≡ was → child < was.children → 0 < v.share → v.own ≡ []
    → v.filled ≡ [] → HasTakenHuge child v w → CanHandOut key w (block (512 * child) 9) (without (block (512 * child) 9) w.own)
can_hand_out_huge key was child v w k inside share own filled e =
    let b : FrameBlock = block (512 * child) 9 in
    can_hand_out key w b (subst (λ s. 0 < s) (sym (ap (λ x. x.share) e)) share)
    (subst (λ k. IsBlock k b) (sym k) (child_is_block was child inside)) (ap (λ x. x.own) e
    ∙ ap (λ l. b ∷ l) own) (λ top. ap (λ x. x.filled) e ∙ filled)

pub handed_out_huge : (t : ℕ → ℕ) (key : Key) (child : ℕ) (v x w : View) → child < key.children → v.own ≡ [] → HasTakenHuge child v x
    → w ≡ left_by t (hand_out_block (block (512 * child) 9)) x → HasHandedOut (tree_of_child child) 9 v w
handed_out_huge t key child v x w inside own e h =
    let b : FrameBlock = block (512 * child) 9 in
    let F : List FrameBlock → ℕ → ℕ → View = (λ o m l. record v {
      paid = less (tree_of_child child) 512 v.paid;
      own = o;
      lent = v.lent +ℤ pos 1;
      moves = m;
      lost = l;
    }) in
    let o : without b (b ∷ v.own) ≡ v.own = ap (λ l. without b (b ∷ l)) own ∙ without_itself key b (child_is_block key child inside)
    ∙ sym own in
    h
    ∙ ap (λ (y : View). record y { own = without b y.own; lent = y.lent +ℤ pos 1; moves = t x.moves; lost = x.lost }) e
    ∙ ap (λ l. F l (t x.moves) x.lost) o
    ∙ sym (ap (λ m. F v.own m w.lost) (ap (λ y. y.moves) h) ∙ ap (λ l. F v.own (t x.moves) l) (ap (λ y. y.lost) h))

-- What is kept or held back.

both_holders : (x : ℕ) (bs cs : List FrameBlock) → holders x (bs ++ cs) ≡ holders x bs + holders x cs
unfolding holders
both_holders x bs cs = sum_by-append (λ b. covers b x) bs cs

module _ {key : Key} {w : View} (d : FrameBlock) (own : (x : ℕ) → covers d x ≡ 1 → 0 < holders x w.own) (apart : IsApart key w) where
  -- a block in flight shares no frame with what is kept
  pub flight_apart : {blocks : List FrameBlock} → w.kept ≡ blocks → IsFreeBlock blocks d
  flight_apart kept x h = omega (arith, own x h, apart.disjoint x, both_holders x w.own w.kept, ap (holders x) kept)

  -- nor with what the opening held back
  pub flight_not_boot : HasNoBootFrame key d
  flight_not_boot x sealed boot =
      ⊎_elim
      (λ none. omega arith)
      (λ (some : 1 ≤ covers d x). absurd (omega (
        arith,
        own x (omega (arith, covers-le d x)),
        apart.no_boot_frame x sealed boot,
        both_holders x w.own w.kept,
      )))
      (cases_lt (covers d x) 1)

  -- nor is it past the end, where the view has a share
  pub flight_inside : 0 < w.share → LiesInside key d
  flight_inside share =
      let last : ℕ = d.frame + 2 ^ d.order - 1 in
      ⊎_elim
      (λ (past : key.frames < d.frame + 2 ^ d.order). absurd (omega (
        arith,
        own last (is_covered d last (omega (arith, pow_pos d.order)) (omega (arith, pow_pos d.order))),
        apart.inside share last (omega (arith, past)),
      )))
      (λ here. here)
      (cases_lt key.frames (d.frame + 2 ^ d.order))

-- the frames of a block that was put to those in flight are held
pub own_covers : (v w : View) (b d : FrameBlock) → d ≡ b → w.own ≡ b ∷ v.own → (x : ℕ) → covers d x ≡ 1
    → 0 < holders x w.own
unfolding holders
own_covers v w b d same own x h =
    let f : FrameBlock → ℕ = λ e. covers e x in
    omega (arith, ap (sum_by f) own, sum_by-cons f b v.own, h, ap f same)
