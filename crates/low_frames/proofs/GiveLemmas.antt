-- What a give does to the view, step by step.
use Rattle.std.proofs.Common.{◌≡◌, ◌⊎◌, inl, inr, ⊎_elim, ℕ, zero, suc, ◌+◌, ◌-◌, ◌*◌, ◌/◌, ◌%◌, ◌^◌, ◌<◌, ◌≤◌, List, [], ◌∷◌, Option}
use Rattle.std.proofs.Common.{None, refl, ap, sym, subst, ◌∙◌, arith}
use Rattle.std.specs.Prelude.{pos, ◌-ℤ◌}
use Rattle.std.proofs.lemmas.Bool.{cases_lt}
use Rattle.std.proofs.Math.Nat.{pow-le-pow_right}
use Rattle.std.proofs.lemmas.Nat.{pow_pos}
use Rattle.frame_model.specs.declared.block.FrameBlock.{FrameBlock}
use Rattle.frame_model.specs.declared.key.Key.{Key}
use Rattle.frame_model.specs.declared.view.Amount.{Amount}
use Rattle.frame_model.specs.declared.view.View.{View}
use Rattle.frame_model.specs.Key.{tree_of, tree_of_child}
use Rattle.frame_model.specs.Block.{block, IsBlock}
use Rattle.frame_model.specs.View.{count_in, NoneBut, names, holder}
use Rattle.frame_model.specs.Steps.{refund}
use Rattle.frame_model.specs.Steps.Amounts.{more, less, Leaves, IsRun}
use Rattle.frame_model.specs.Steps.Conditions.{CanRefund, CanRelease, CanGiveHuge}
use Rattle.frame_model.specs.Seats.{hand_in, joined_by}
use Rattle.frame_core.specs.Moves.{after, release_run, give_whole}
use Rattle.frame_model.specs.Without.{without}
use Rattle.frame_model.proofs.Amounts.{count_none, names_none}
use Rattle.frame_model.proofs.Blocks.{run_is_block}
use Rattle.frame_model.proofs.Without.{without_itself}
use Rattle.low_frames.specs.Gives.{HasReleased, HasTakenBack}
use Rattle.low_frames.specs.Groups.{HoldsWords}
use Rattle.low_frames.proofs.AmountLemmas.{raised, HasReleasedSome, raised_none, raised_some, raised_more, raised_none_but}
use Rattle.low_frames.proofs.ViewLemmas.{charged_here, charged_back, one_leaves}
use Rattle.low_frames.proofs.WordsLemmas.{words_less, words_leave, no_words, words_of_block}

-- Words.

pub words_at : (key : Key) (blocks : List FrameBlock) (f g m n : ℕ) → f ≡ g → m ≡ n → HoldsWords key blocks f m → HoldsWords key blocks g n
words_at key blocks f g m n e h are = subst (HoldsWords key blocks g) h (subst (λ i. HoldsWords key blocks i m) e are)

word_run : (key : Key) (word : ℕ) → word < 8 * key.children → IsRun key word 0 6
word_run key word h = record { inside = h; small = omega arith; aligned = omega arith; fits = omega arith }

pub none_released : (child : ℕ) (v : View) → HasReleasedSome child 0 v v
none_released child v =
    ap (λ a. record v { charged = a }) (sym (raised_none child v.charged))
    ∙ ap (λ a. record v { charged = raised child 0 v.charged; paid = a }) (sym (raised_none (tree_of_child child) v.paid))

module _ (key was : Key) (child first count i : ℕ) (v u : View) (same : key ≡ was) (inside : child < was.children)
    (within : first + count ≤ 8) (more_left : i < count) (released : HasReleasedSome child (64 * i) v u)
    (own : HoldsWords was u.own (8 * child + first + i) (count - i)) where
  word : ℕ
  word = 8 * child + first + i

  inside_word : 8 * child + first + i < 8 * was.children
  inside_word = omega arith

  own_next : HoldsWords was u.own (8 * child + first + i) (count - (i + 1) + 1)
  own_next = words_at was u.own (8 * child + first + i) (8 * child + first + i) (count - i) (count - (i + 1) + 1) (omega arith)
      (omega arith) own

  pub can_release_word : NoneBut child v.charged → NoneBut (tree_of_child child) v.paid
      → CanRelease key u (8 * child + first + i) 0 6 (without (block (64 * (8 * child + first + i) + 0) 6) u.own)
  can_release_word charged paid =
      let w : ℕ = 8 * child + first + i in
      let b : FrameBlock = block (64 * w + 0) 6 in
      let c : child ≡ w / 8 = omega arith in
      let t : child / 8 ≡ w / 64 = omega arith in
      subst (λ k. CanRelease k u w 0 6 (without b u.own)) (sym same) (record {
        is_run = word_run was w inside_word;
        leaves = words_leave was u.own w (count - i) b (run_is_block was w 0 6 (word_run was w inside_word)) (omega arith) (omega arith)
            (omega arith) own;
        charged = subst (λ k. NoneBut k u.charged) c (subst (NoneBut child) (sym (ap (λ x. x.charged) released))
            (raised_none_but child (64 * i) v.charged charged));
        paid = subst (λ k. NoneBut k u.paid) t (subst (NoneBut (child / 8)) (sym (ap (λ x. x.paid) released))
            (raised_none_but (child / 8) (64 * i) v.paid paid));
      })

  module _ (t : ℕ → ℕ) (w : View) (step : w ≡ after t (release_run (8 * child + first + i) 0 6) u) where
    pub released_more : HasReleasedSome child (64 * (i + 1)) v w
    released_more =
        let at : ℕ = 8 * child + first + i in
        let F : Option Amount → Option Amount
        → View = (λ a p. record v { charged = a; paid = p; own = w.own; moves = w.moves; lost = w.lost }) in
        let c : at / 8 ≡ child = omega arith in
        let d : at / 64 ≡ child / 8 = omega arith in
        let n : 64 * i + 2 ^ 6 ≡ 64 * (i + 1) = omega arith in
        let charged : w.charged ≡ raised child (64 * (i + 1)) v.charged =
        ap (λ x. x.charged) step ∙ ap (λ k. more k (2 ^ 6) u.charged) c ∙ ap (λ (x : View). more child (2 ^ 6) x.charged) released
        ∙ raised_more child (2 ^ 6) (64 * i) v.charged (omega arith) ∙ ap (λ k. raised child k v.charged) n in
        let paid : w.paid ≡ raised (child / 8) (64 * (i + 1)) v.paid =
        ap (λ x. x.paid) step ∙ ap (λ k. more k (2 ^ 6) u.paid) d ∙ ap (λ (x : View). more (child / 8) (2 ^ 6) x.paid) released
        ∙ raised_more (child / 8) (2 ^ 6) (64 * i) v.paid (omega arith) ∙ ap (λ k. raised (child / 8) k v.paid) n in
        let G : View → View = (λ x. record x { charged = w.charged; paid = w.paid; own = w.own; moves = w.moves; lost = w.lost }) in
        ap G step ∙ ap G released ∙ ap (λ a. F a w.paid) charged ∙ ap (λ p. F (raised child (64 * (i + 1)) v.charged) p) paid

    pub words_left : HoldsWords was w.own (8 * child + first + (i + 1)) (count - (i + 1))
    words_left =
        let at : ℕ = 8 * child + first + i in
        subst (λ l. HoldsWords was l (8 * child + first + (i + 1)) (count - (i + 1))) (sym (ap (λ x. x.own) step))
        (words_at was (without (block (64 * at + 0) 6) u.own) (at + 1) (8 * child + first + (i + 1)) (count - (i + 1)) (count - (i + 1))
        (omega arith) refl (words_less was u.own at (count - (i + 1)) inside_word own_next))

-- all words were released
pub all_released : (key : Key) (child first count i : ℕ) (v u : View) → 0 < count → count ≡ i → HasReleasedSome child (64 * i) v u
    → HoldsWords key u.own (8 * child + first + i) (count - i) → HasReleased child (64 * count) v u
all_released key child first count i v u some e released own =
    let F : Option Amount → Option Amount → List FrameBlock
    → View = (λ a p o. record v { charged = a; paid = p; own = o; moves = u.moves; lost = u.lost }) in
    let n : 64 * i ≡ 64 * count = omega arith in
    let none : u.own ≡ [] = no_words key u.own (8 * child + first + i)
    (words_at key u.own (8 * child + first + i) (8 * child + first + i) (count - i) 0 refl (omega arith) own) in
    released ∙ ap (λ k. F (raised child k v.charged) (raised (child / 8) k v.paid) u.own) n
    ∙ ap (λ a. F a (raised (child / 8) (64 * count) v.paid) u.own) (raised_some child (64 * count) v.charged (omega arith))
    ∙ ap (λ p. F (more child (64 * count) v.charged) p u.own) (raised_some (child / 8) (64 * count) v.paid (omega arith))
    ∙ ap (λ o. F (more child (64 * count) v.charged) (more (child / 8) (64 * count) v.paid) o) none

-- Blocks.

-- a block of an order up to 6 lies in one word
pub aligned_in_word : (f o : ℕ) → o ≤ 6 → f % 2 ^ o ≡ 0 → (f % 64 % 2 ^ o ≡ 0) × (f % 64 + 2 ^ o ≤ 64)
aligned_in_word f zero h e = (omega arith, omega arith)
aligned_in_word f (suc zero) h e = (omega arith, omega arith)
aligned_in_word f (suc (suc zero)) h e = (omega arith, omega arith)
aligned_in_word f (suc (suc (suc zero))) h e = (omega arith, omega arith)
aligned_in_word f (suc (suc (suc (suc zero)))) h e = (omega arith, omega arith)
aligned_in_word f (suc (suc (suc (suc (suc zero))))) h e = (omega arith, omega arith)
aligned_in_word f (suc (suc (suc (suc (suc (suc zero)))))) h e = (omega arith, omega arith)
aligned_in_word f (suc (suc (suc (suc (suc (suc (suc o))))))) h e = absurd (omega arith)

-- a block of order 7 or 8 is whole words of one child
pub size_in_words : (o : ℕ) → 7 ≤ o → o ≤ 8 → 2 ^ o ≡ 64 * (2 ^ o / 64)
size_in_words o l h = ⊎_elim (λ e. ap (λ k. 2 ^ k) e ∙ sym (ap (λ k. 64 * (2 ^ k / 64)) e)) (λ e. ap (λ k. 2 ^ k) e
    ∙ sym (ap (λ k. 64 * (2 ^ k / 64)) e)) (seven_or_eight o l h)
  where
    seven_or_eight : (o : ℕ) → 7 ≤ o → o ≤ 8 → (o ≡ 7) ⊎ (o ≡ 8)
    seven_or_eight o l h = ⊎_elim (λ a. inl (omega arith)) (λ b. inr (omega arith)) (cases_lt o 8)

pub begins_in_words : (f o : ℕ) → 7 ≤ o → o ≤ 8 → f % 2 ^ o ≡ 0 → f ≡ 64 * (8 * (f / 512) + f / 64 % 8)
begins_in_words f o l h e = ⊎_elim (λ a. seven (omega arith)) (λ b. eight (omega arith)) (cases_lt o 8)
  where
    seven : o ≡ 7 → f ≡ 64 * (8 * (f / 512) + f / 64 % 8)
    seven q = let m : f % 128 ≡ 0 = subst (λ k. f % 2 ^ k ≡ 0) q e in omega arith

    eight : o ≡ 8 → f ≡ 64 * (8 * (f / 512) + f / 64 % 8)
    eight q = let m : f % 256 ≡ 0 = subst (λ k. f % 2 ^ k ≡ 0) q e in omega arith

pub some_words : (o n : ℕ) → 7 ≤ o → o ≤ 8 → n ≡ 2 ^ o → 0 < n / 64
some_words o n l h e = let p : 0 < 2 ^ o = pow_pos o in omega (arith, size_in_words o l h)

-- the block in flight, of whole words
pub words_in_flight : (key : Key) (v : View) (frame order child n : ℕ) → 7 ≤ order → order ≤ 8 → IsBlock key (block frame order)
    → v.own ≡ block frame order ∷ [] → child ≡ frame / 512 → n ≡ 2 ^ order → HoldsWords key v.own (8 * child + frame / 64 % 8) (n / 64)
words_in_flight key v frame order child n l h is own c e =
    let b : FrameBlock = block frame order in
    let s : 2 ^ order ≡ 64 * (n / 64) = size_in_words order l h ∙ ap (λ k. 64 * (k / 64)) (sym e) in
    subst (λ bs. HoldsWords key bs (8 * child + frame / 64 % 8) (n / 64)) (sym own)
    (words_of_block key b (8 * child + frame / 64 % 8) (n / 64) is (omega arith) (begins_in_words frame order l h is.aligned
    ∙ ap (λ k. 64 * (8 * k + frame / 64 % 8)) (sym c)) s)

pub can_release_block : (key : Key) (v : View) (frame order : ℕ) → order ≤ 6 → IsBlock key (block frame order)
    → v.own ≡ block frame order ∷ [] → NoneBut (frame / 512) v.charged → NoneBut (frame / 512 / 8) v.paid
    → CanRelease key v (frame / 64) (frame % 64) order (without (block (64 * (frame / 64) + frame % 64) order) v.own)
can_release_block key v frame order h is own charged paid =
    let f : frame ≡ 64 * (frame / 64) + frame % 64 = omega arith in
    let b : FrameBlock = block frame order in
    let p : 0 < 2 ^ order = pow_pos order in
    record {
      is_run = record {
        inside = omega (arith, is.inside);
        small = h;
        aligned = (aligned_in_word frame order h is.aligned).0;
        fits =
            (aligned_in_word frame order h is.aligned).1;
      };
      leaves = subst (λ k. Leaves key v.own (block k order) (without (block k order) v.own)) f (one_leaves key b v.own is own);
      charged = subst (λ k. NoneBut k v.charged) (omega arith) charged;
      paid = subst (λ k. NoneBut k v.paid) (omega arith) paid;
    }

pub block_released : (t : ℕ → ℕ) (key : Key) (v w : View) (frame order : ℕ) → IsBlock key (block frame order)
    → v.own ≡ block frame order ∷ [] → w ≡ after t (release_run (frame / 64) (frame % 64) order) v
    → HasReleased (frame / 512) (2 ^ order) v w
block_released t key v w frame order is own e =
    let b : FrameBlock = block frame order in
    let f : 64 * (frame / 64) + frame % 64 ≡ frame = omega arith in
    let c : frame / 64 / 8 ≡ frame / 512 = omega arith in
    let d : frame / 64 / 64 ≡ frame / 512 / 8 = omega arith in
    let F : ℕ → ℕ → List FrameBlock
    → View = (λ i j o. record v {
      charged = more i (2 ^ order) v.charged;
      paid = more j (2 ^ order) v.paid;
      own = o;
      moves = w.moves;
      lost = w.lost;
    }) in
    let none : w.own ≡ [] = ap (λ x. x.own) e ∙ ap (λ k. without (block k order) v.own) f ∙ ap (without b) own ∙ without_itself key b is in
    ap (λ (x : View). record x { own = w.own; moves = w.moves; lost = w.lost }) e ∙ ap (λ k. F k (frame / 64 / 64) w.own) c
    ∙ ap (λ k. F (frame / 512) k w.own) d ∙ ap (F (frame / 512) (frame / 512 / 8)) none

pub words_released : (v w : View) (child frame order n : ℕ) → 7 ≤ order → order ≤ 8 → child ≡ frame / 512 → n ≡ 2 ^ order
    → HasReleased child (64 * (n / 64)) v w → HasReleased (frame / 512) (2 ^ order) v w
words_released v w child frame order n l h c e r =
    let s : 64 * (n / 64) ≡ 2 ^ order = ap (λ k. 64 * (k / 64)) e ∙ sym (size_in_words order l h) in
    subst (λ k. HasReleased (frame / 512) k v w) s (subst (λ k. HasReleased k (64 * (n / 64)) v w) c r)

-- The give.

module _ (t : ℕ → ℕ) (key : Key) (about : Option Key) (b : FrameBlock) (v x : View) (is : IsBlock key b) (nothing : v.charged ≡ None)
    (own : v.own ≡ []) (joined : x ≡ joined_by t hand_in v (holder about b)) where
  pub in_flight : x.own ≡ b ∷ []
  in_flight = ap (λ y. y.own) joined ∙ ap (λ l. b ∷ l) own

  pub charged_nothing : x.charged ≡ None
  charged_nothing = ap (λ y. y.charged) joined ∙ nothing

  pub charges_but : (child : ℕ) → NoneBut child x.charged
  charges_but child other ne = ap (count_in other) charged_nothing ∙ count_none other

  pub can_give_huge : (k : Key) (frame order child : ℕ) → k ≡ key → frame ≡ b.frame → order ≡ b.order → order ≡ 9 → child ≡ frame / 512
      → v.filled ≡ [] → NoneBut (tree_of b.frame) v.paid → CanGiveHuge k x child (without (block (512 * child) 9) x.own)
  can_give_huge k frame order child e f o nine c filled paid =
      let z : b.frame % 512 ≡ 0 = subst (λ i. b.frame % 2 ^ i ≡ 0) (sym o ∙ nine) is.aligned in
      let whole : b ≡ block (512 * child) 9 = ap (λ i. block i b.order) (omega (arith, z, f, c))
      ∙ ap (block (512 * child)) (sym o ∙ nine) in
      let same : tree_of b.frame ≡ tree_of_child child = omega (arith, f, c) in
      subst (λ k. CanGiveHuge k x child (without (block (512 * child) 9) x.own)) (sym e) (record {
        inside = omega (arith, is.inside, c, f, pow_pos b.order);
        leaves = subst (λ d. Leaves key x.own d (without d x.own)) whole (one_leaves key b x.own is in_flight);
        unfilled = λ word h. ap (names word) (ap (λ y. y.filled) joined ∙ filled) ∙ names_none word;
        paid = subst (λ i. NoneBut i x.paid) same (subst (NoneBut (tree_of b.frame)) (sym (ap (λ y. y.paid) joined)) paid);
      })

  pub huge_back : (w : View) (frame order child : ℕ) → frame ≡ b.frame → order ≡ b.order → order ≡ 9 → child ≡ frame / 512
      → w ≡ after t (give_whole child) x → HasTakenBack b v w
  huge_back w frame order child f o nine c e =
      let z : b.frame % 512 ≡ 0 = subst (λ i. b.frame % 2 ^ i ≡ 0) (sym o ∙ nine) is.aligned in
      let whole : block (512 * child) 9 ≡ b = sym (ap (λ i. block i b.order) (omega (arith, z, f, c))
      ∙ ap (block (512 * child)) (sym o ∙ nine)) in
      let same : tree_of_child child ≡ tree_of b.frame = omega (arith, f, c) in
      let size : 512 ≡ 2 ^ b.order = ap (λ i. 2 ^ i) (sym (sym o ∙ nine)) in
      let F : ℕ → ℕ → List FrameBlock
      → View = (λ i n l. record v { paid = more i n v.paid; own = l; lent = v.lent -ℤ pos 1; moves = w.moves; lost = w.lost }) in
      let none : w.own ≡ v.own = ap (λ y. y.own) e ∙ ap (λ d. without d x.own) whole ∙ ap (without b) in_flight ∙ without_itself key b is
      ∙ sym own in
      ap (λ (y : View). record y { own = w.own; moves = w.moves; lost = w.lost }) e
      ∙ ap (λ (y : View). record y { paid = more (tree_of_child child) 512 y.paid; own = w.own; moves = w.moves; lost = w.lost }) joined
      ∙ ap (λ i. F i 512 w.own) same ∙ ap (λ n. F (tree_of b.frame) n w.own) size ∙ ap (F (tree_of b.frame) (2 ^ b.order)) none

  module _ (frame order child n : ℕ) (f : frame ≡ b.frame) (o : order ≡ b.order) (c : child ≡ frame / 512) (e : n ≡ 2 ^ order) (y : View)
      (released : HasReleased (frame / 512) (2 ^ order) x y) where
    charged_then : y.charged ≡ more child n None
    charged_then = ap (λ q. q.charged) released ∙ ap (λ i. more i (2 ^ order) x.charged) (sym c)
        ∙ ap (λ i. more child i x.charged) (sym e) ∙ ap (more child n) charged_nothing

    pub can_refund_then : (k : Key) → k ≡ key → CanRefund k y child n
    can_refund_then k q = subst (λ k. CanRefund k y child n) (sym q) (record {
      inside = omega (arith, is.inside, c, f, pow_pos b.order);
      charged = omega (arith, ap (count_in child) charged_then, charged_here child n);
    })

    pub small_back : (w : View) → w ≡ after t (refund child n) y → HasTakenBack b v w
    small_back w step =
        let G : View → Option Amount → List FrameBlock
        → View = (λ z a l. record z { charged = a; own = l; moves = w.moves; lost = w.lost }) in
        let F : ℕ → ℕ → Option Amount → List FrameBlock
        → View = (λ i m a l. record v {
          charged = a;
          paid = more i m v.paid;
          own = l;
          lent = v.lent -ℤ pos 1;
          moves = w.moves;
          lost =
              w.lost;
        }) in
        let charged : w.charged ≡ v.charged = ap (λ z. z.charged) step ∙ ap (less child n) charged_then ∙ charged_back child n
        ∙ sym nothing in
        let none : w.own ≡ v.own = ap (λ z. z.own) step ∙ ap (λ z. z.own) released ∙ sym own in
        let tree : frame / 512 / 8 ≡ tree_of b.frame = omega (arith, f) in
        let size : 2 ^ order ≡ 2 ^ b.order = ap (λ i. 2 ^ i) o in
        ap (λ (z : View). G z w.charged w.own) step ∙ ap (λ (z : View). G z w.charged w.own) released
        ∙ ap (λ (z : View). record z {
          charged = w.charged;
          paid = more (frame / 512 / 8) (2 ^ order) z.paid;
          own = w.own;
          moves =
              w.moves;
          lost = w.lost;
        }) joined
        ∙ ap (λ i. F i (2 ^ order) w.charged w.own) tree ∙ ap (λ m. F (tree_of b.frame) m w.charged w.own) size
        ∙ ap (λ a. F (tree_of b.frame) (2 ^ b.order) a w.own) charged ∙ ap (F (tree_of b.frame) (2 ^ b.order) v.charged) none

-- a block of an order up to 8 has at most four bit words
pub few_words : (order n : ℕ) → order ≤ 8 → n ≡ 2 ^ order → n / 64 ≤ 4
few_words order n h e = let p : 2 ^ order ≤ 2 ^ 8 = pow-le-pow_right {n = 2} (omega arith) h in omega (arith, e, p)
