-- A split, step by step.
use Rattle.std.proofs.Common.{◌≡◌, ⊎_elim, ℕ, zero, suc, ◌+◌, ◌-◌, ◌*◌, ◌/◌, ◌%◌, ◌^◌, ◌<◌, ◌≤◌, List, [], ◌∷◌, refl, ap, sym, subst, ◌∙◌}
use Rattle.std.proofs.Common.{arith}
use Rattle.std.specs.Prelude.{Some, ℤ, pos, ◌+ℤ◌, ◌-ℤ◌}
use Rattle.std.proofs.lemmas.Bool.{cases_eq}
use Rattle.std.proofs.lemmas.Bool.Decides.{nat_tests}
use Rattle.std.proofs.Math.Nat.{pow-suc}
use Rattle.std.proofs.lemmas.List.Elements.{All-cons, All-nil}
use Rattle.frame_model.specs.declared.block.FrameBlock.{FrameBlock}
use Rattle.frame_model.specs.declared.key.Key.{Key}
use Rattle.frame_model.specs.declared.view.View.{View}
use Rattle.frame_model.specs.Block.{block, IsBlock, covers, small_at, smalls, wholes}
use Rattle.frame_model.specs.View.{names, holder}
use Rattle.frame_model.specs.Steps.{fill_word}
use Rattle.frame_model.specs.Steps.Amounts.{Leaves, put_in}
use Rattle.frame_model.specs.Steps.Conditions.{CanFillWord, CanDropFlag}
use Rattle.frame_model.specs.Seats.{hand_in, CanHandOut, joined_by, left_by}
use Rattle.frame_core.specs.Moves.{after, drop_whole, hand_out_block}
use Rattle.frame_model.specs.Without.{without, HasFrames}
use Rattle.frame_model.proofs.Amounts.{names_put, names_here, names_else}
use Rattle.frame_model.proofs.Blocks.{smalls_none, wholes_none, smalls_cons, wholes_cons, not_whole, halves, child_is_block, half_is_block}
use Rattle.frame_model.proofs.Blocks.{other_half_is_block, whole_here}
use Rattle.frame_model.proofs.Without.{without_leaves, without_itself, leaves_nothing}
use Rattle.std.proofs.lemmas.Int.{ints}
use Rattle.std.proofs.lemmas.Nat.{pow_pos}
use Rattle.core_frames.specs.Search.{HasLentOne}
use Rattle.core_frames.specs.Splits.{Bears, MakeTwo}

-- Views.

pub bears : (v u w : View) (o a p : List FrameBlock) (f b q : List ℕ) (k d l : ℤ) (m n : ℕ) → Bears v o f k u
    → w ≡ record u { own = a; filled = b; lent = d; moves = m; lost = n } → a ≡ p → b ≡ q → d ≡ l → Bears v p q l w
bears v u w o a p f b q k d l m n e g x y z =
    let F : List FrameBlock → List ℕ → ℤ → ℕ → ℕ → View = (λ a b d m n. record v {
      own = a;
      filled = b;
      lent = d;
      moves = m;
      lost = n;
    }) in
    g
    ∙ ap (λ (y : View). record y { own = a; filled = b; lent = d; moves = m; lost = n }) e
    ∙ ap (λ i. F i b d m n) x ∙ ap (λ i. F p i d m n) y ∙ ap (λ i. F p q i m n) z
    ∙ sym (ap (λ i. F p q l i w.lost) (ap (λ y. y.moves) g) ∙ ap (λ i. F p q l m i) (ap (λ y. y.lost) g))

-- what is in flight then is so by itself
pub own_borne : (v w : View) (o : List FrameBlock) (f : List ℕ) (k : ℤ) → Bears v o f k w → Bears v w.own f k w
own_borne v w o f k e = bears v v w v.own o w.own v.filled f f v.lent k k w.moves w.lost refl e (sym (ap (λ (x : View). x.own) e)) refl refl

-- Halves.

small_is : (x : ℕ) (b : FrameBlock) → b.order ≤ 8 → small_at x b ≡ covers b x
unfolding small_at
small_is x b h = grind (arith, nat_tests)

apart : (x f o : ℕ) → covers (block f o) x + covers (block (f + 2 ^ o) o) x ≤ 1
unfolding covers
apart x f o = grind (arith, nat_tests)

half_aligned : (o f : ℕ) → o < 8 → f % 2 ^ suc o ≡ 0 → (f % 2 ^ o ≡ 0) × ((f + 2 ^ o) % 2 ^ o ≡ 0)
half_aligned zero f h e = (omega arith, omega arith)
half_aligned (suc zero) f h e = (omega arith, omega arith)
half_aligned (suc (suc zero)) f h e = (omega arith, omega arith)
half_aligned (suc (suc (suc zero))) f h e = (omega arith, omega arith)
half_aligned (suc (suc (suc (suc zero)))) f h e = (omega arith, omega arith)
half_aligned (suc (suc (suc (suc (suc zero))))) f h e = (omega arith, omega arith)
half_aligned (suc (suc (suc (suc (suc (suc zero)))))) f h e = (omega arith, omega arith)
half_aligned (suc (suc (suc (suc (suc (suc (suc zero))))))) f h e = (omega arith, omega arith)
half_aligned (suc (suc (suc (suc (suc (suc (suc (suc o)))))))) f h e = absurd (omega arith)

module _ (key : Key) (f o : ℕ) (blocks : List FrameBlock) (two : MakeTwo key f o blocks) where
  low : FrameBlock
  low = block f o

  pub low_left : HasFrames blocks (block f o)
  low_left = record {
    smalls = λ l x c. omega (
      arith,
      two.smalls x,
      small_is x (block f o) two.small,
      small_is x (block (f + 2 ^ o) o) two.small,
      apart x f o,
      c,
    );
    wholes = λ nine. absurd (omega (arith, two.small, nine));
  }

  pub low_leaves : Leaves key blocks (block f o) (without (block f o) blocks)
  low_leaves = without_leaves key (block f o) blocks two.lower two.are_blocks low_left

  one_left : (x : ℕ) → smalls x (without (block f o) blocks) ≡ small_at x (block (f + 2 ^ o) o)
  one_left x = omega (arith, low_leaves.smalls x, two.smalls x)

  no_whole : (c : ℕ) → wholes c (without (block f o) blocks) ≡ 0
  no_whole c = omega (arith, low_leaves.wholes c, two.wholes c)

  high_left : HasFrames (without (block f o) blocks) (block (f + 2 ^ o) o)
  high_left = record {
    smalls = λ l x c. omega (arith, one_left x, small_is x (block (f + 2 ^ o) o) two.small, c);
    wholes = λ nine. absurd (omega (arith, two.small, nine));
  }

  pub high_leaves : Leaves key (without (block f o) blocks) (block (f + 2 ^ o) o)
      (without (block (f + 2 ^ o) o) (without (block f o) blocks))
  high_leaves = without_leaves key (block (f + 2 ^ o) o) (without (block f o) blocks) two.upper low_leaves.are_blocks high_left

  pub none_left : without (block (f + 2 ^ o) o) (without (block f o) blocks) ≡ []
  none_left =
      leaves_nothing key (without (block f o) blocks) (block (f + 2 ^ o) o) (without (block (f + 2 ^ o) o) (without (block f o) blocks))
      high_leaves one_left (λ c. omega (arith, no_whole c, not_whole c (block (f + 2 ^ o) o) (omega (arith, two.small))))

  pub can_hand_out_low : (v : View) → 0 < v.share → v.own ≡ blocks → CanHandOut key v (block f o) (without (block f o) v.own)
  can_hand_out_low v share e = record {
    share = share;
    is_block = two.lower;
    leaves = subst (λ bs. Leaves key bs (block f o) (without (block f o) bs)) (sym e) low_leaves;
    unfilled = λ nine. absurd (omega (arith, two.small, nine));
  }

  pub can_hand_out_high : (v : View) → 0 < v.share → v.own ≡ without (block f o) blocks
      → CanHandOut key v (block (f + 2 ^ o) o) (without (block (f + 2 ^ o) o) v.own)
  can_hand_out_high v share e = record {
    share = share;
    is_block = two.upper;
    leaves = subst (λ bs. Leaves key bs (block (f + 2 ^ o) o) (without (block (f + 2 ^ o) o) bs)) (sym e) high_leaves;
    unfilled = λ nine. absurd (omega (arith, two.small, nine));
  }

-- the two halves of a block below order 9
pub two_of_small : (key : Key) (f o : ℕ) → o < 8 → IsBlock key (block f (suc o)) → MakeTwo key f o (block f (suc o) ∷ [])
two_of_small key f o h is = record {
  small = omega arith;
  lower = record { order = omega arith; aligned = (half_aligned o f h is.aligned).0; inside = omega (arith, is.inside, pow-suc 2 o) };
  upper = record { order = omega arith; aligned = (half_aligned o f h is.aligned).1; inside = omega (arith, is.inside, pow-suc 2 o) };
  are_blocks = All-cons (IsBlock key) (block f (suc o)) [] is (All-nil (IsBlock key));
  smalls = λ x. omega (arith, smalls_cons x (block f (suc o)) [], smalls_none x, halves x f o h);
  wholes = λ c. omega (arith, wholes_cons c (block f (suc o)) [], wholes_none c, not_whole c (block f (suc o)) (omega arith));
}

-- the two blocks that a huge frame becomes
pub two_of_huge : (key : Key) (c : ℕ) → c < key.children → MakeTwo key (512 * c) 8 (block (512 * c) 8 ∷ block (512 * c + 256) 8 ∷ [])
two_of_huge key c h =
    let low : FrameBlock = block (512 * c) 8 in
    let high : FrameBlock = block (512 * c + 256) 8 in
    record {
      small = omega arith;
      lower = half_is_block key c h;
      upper = other_half_is_block key c h;
      are_blocks = All-cons (IsBlock key) low (high ∷ []) (half_is_block key c h)
          (All-cons (IsBlock key) high [] (other_half_is_block key c h) (All-nil (IsBlock key)));
      smalls = λ x. omega (arith, smalls_cons x low (high ∷ []), smalls_cons x high [], smalls_none x);
      wholes = λ d. omega (
        arith,
        wholes_cons d low (high ∷ []),
        wholes_cons d high [],
        wholes_none d,
        not_whole d low (omega arith),
        not_whole d high (omega arith),
      );
    }

pub two_small : (key : Key) (f o : ℕ) → 0 < o → o < 9 → IsBlock key (block f o) → MakeTwo key f (o - 1) (block f o ∷ [])
two_small key f zero some h is = absurd (omega arith)
two_small key f (suc o) some h is =
    let e : suc o - 1 ≡ o = omega arith in
    subst (λ k. MakeTwo key f k (block f (suc o) ∷ [])) (sym e) (two_of_small key f o (omega arith) is)

-- a block of order 9 begins where its child does
pub as_child : (key : Key) (b : FrameBlock) → IsBlock key b → 9 ≤ b.order → b ≡ block (512 * (b.frame / 512)) 9
as_child key b is h =
    let nine : b.order ≡ 9 = omega (arith, is.order) in
    let whole : b.frame % 512 ≡ 0 = subst (λ o. b.frame % 2 ^ o ≡ 0) nine is.aligned in
    let first : b.frame ≡ 512 * (b.frame / 512) = omega arith in
    ap (λ f. block f b.order) first ∙ ap (block (512 * (b.frame / 512))) nine

pub two_huge : (key : Key) (b : FrameBlock) (c : ℕ) (own : List FrameBlock) → IsBlock key b → 9 ≤ b.order → c ≡ b.frame / 512
    → c < key.children → own ≡ block (512 * c) 8 ∷ block (512 * c + 256) 8 ∷ [] → MakeTwo key b.frame (b.order - 1) own
two_huge key b c own is h at inside e =
    let there : b ≡ block (512 * c) 9 = as_child key b is h ∙ ap (λ k. block (512 * k) 9) (sym at) in
    let frame : 512 * c ≡ b.frame = sym (ap (λ (d : FrameBlock). d.frame) there) in
    let order : 8 ≡ b.order - 1 = sym (ap (λ (d : FrameBlock). d.order - 1) there) in
    subst (MakeTwo key b.frame (b.order - 1)) (sym e)
    (subst (λ o. MakeTwo key b.frame o (block (512 * c) 8 ∷ block (512 * c + 256) 8 ∷ [])) order
    (subst (λ f. MakeTwo key f 8 (block (512 * c) 8 ∷ block (512 * c + 256) 8 ∷ [])) frame (two_of_huge key c inside)))

pub child_inside : (key : Key) (b : FrameBlock) → IsBlock key b → b.frame / 512 < key.children
child_inside key b is = omega (arith, is.inside, pow_pos b.order)

-- A huge frame becomes set bits.

one_whole : (c : ℕ) → wholes c (block (512 * c) 9 ∷ []) ≡ 1
one_whole c = omega (arith, wholes_cons c (block (512 * c) 9) [], wholes_none c, whole_here c)

pub can_fill : (key was : Key) (u : View) (c i word : ℕ) → key ≡ was → c < was.children → i < 8 → word ≡ 8 * c + i
    → u.own ≡ block (512 * c) 9 ∷ [] → CanFillWord key u word
can_fill key was u c i word k inside h is own =
    let here : word / 8 ≡ c = omega arith in
    record {
      inside = omega (arith, inside, ap (λ (x : Key). x.children) k);
      own = omega (arith, ap (λ d. wholes d u.own) here, ap (wholes c) own, one_whole c);
    }

pub filled_more : (t : ℕ → ℕ) (u w : View) (first i word : ℕ) → w ≡ after t (fill_word word) u → word ≡ first + i
    → ((n : ℕ) → first ≤ n → n < first + i → names n u.filled ≡ 1) → (n : ℕ) → first ≤ n → n < first + (i + 1) → names n w.filled ≡ 1
filled_more t u w first i word e is before n l h =
    ap (λ (v : View). names n v.filled) e ∙ names_put n word u.filled
    ∙ ⊎_elim (λ s. ap (λ k. names n (k ∷ u.filled)) (sym s) ∙ names_here n u.filled)
    (λ ne. names_else n word u.filled ne ∙ before n l (omega (arith, h, is, ne))) (cases_eq n word)

child_left : (c : ℕ) → HasFrames (block (512 * c) 9 ∷ []) (block (512 * c) 9)
child_left c =
    let here : 512 * c / 512 ≡ c = omega arith in
    record {
      smalls = λ l. absurd (omega (arith, l));
      wholes = λ nine. omega (arith, ap (λ d. wholes d (block (512 * c) 9 ∷ [])) here, one_whole c);
    }

pub can_drop : (key was : Key) (u : View) (c : ℕ) → key ≡ was → c < was.children → u.own ≡ block (512 * c) 9 ∷ []
    → ((n : ℕ) → 8 * c ≤ n → n < 8 * c + 8 → names n u.filled ≡ 1)
    → CanDropFlag key u c (without (block (512 * c) 9) u.own)
can_drop key was u c k inside own filled =
    let b : FrameBlock = block (512 * c) 9 in
    let here : c < key.children = omega (arith, inside, ap (λ (x : Key). x.children) k) in
    let is : IsBlock key b = child_is_block key c here in
    record {
      inside = here;
      leaves = subst (λ bs. Leaves key bs b (without b bs)) (sym own)
          (without_leaves key b (b ∷ []) is (All-cons (IsBlock key) b [] is (All-nil (IsBlock key))) (child_left c));
      filled = λ n e. filled n (omega arith) (omega arith);
    }

pub dropped : (t : ℕ → ℕ) (key : Key) (v u w : View) (c : ℕ) → c < key.children → v.own ≡ block (512 * c) 9 ∷ []
    → Bears v v.own u.filled v.lent u → w ≡ after t (drop_whole c) u
    → Bears v (block (512 * c) 8 ∷ block (512 * c + 256) 8 ∷ []) [] v.lent w
dropped t key v u w c inside own e g =
    let b : FrameBlock = block (512 * c) 9 in
    let low : FrameBlock = block (512 * c) 8 in
    let high : FrameBlock = block (512 * c + 256) 8 in
    let none : without b u.own ≡ [] =
    ap (without b) (ap (λ (x : View). x.own) e ∙ own) ∙ without_itself key b (child_is_block key c inside) in
    bears v u w v.own (low ∷ high ∷ without b u.own) (low ∷ high ∷ []) u.filled [] [] v.lent u.lent v.lent (t u.moves) u.lost e g
    (ap (λ bs. low ∷ high ∷ bs) none) refl (ap (λ x. x.lent) e)

pub filled_one : (t : ℕ → ℕ) (v u w : View) (word : ℕ) → Bears v v.own u.filled v.lent u → w ≡ after t (fill_word word) u
    → Bears v v.own w.filled v.lent w
filled_one t v u w word e g =
    bears v u w v.own u.own v.own u.filled (put_in word u.filled) w.filled v.lent u.lent v.lent (t u.moves) u.lost e g
    (ap (λ x. x.own) e) (sym (ap (λ x. x.filled) g)) (ap (λ x. x.lent) e)

-- Seats.

pub brought_in : (t : ℕ → ℕ) (key : Key) (b : FrameBlock) (v w : View) → v.own ≡ []
    → w ≡ joined_by t hand_in v (holder (Some key) b) → Bears v (b ∷ []) v.filled (v.lent -ℤ pos 1) w
brought_in t key b v w none e =
    bears v v w v.own (b ∷ v.own) (b ∷ []) v.filled v.filled v.filled v.lent (v.lent -ℤ pos 1) (v.lent -ℤ pos 1) (t v.moves) v.lost refl e
    (ap (λ bs. b ∷ bs) none) refl refl

pub broken_up : (v u w : View) (b : FrameBlock) (own : List FrameBlock) → v.filled ≡ [] → Bears v (b ∷ []) v.filled (v.lent -ℤ pos 1) u
    → Bears u own [] u.lent w → Bears v w.own v.filled (v.lent -ℤ pos 1) w
broken_up v u w b own none e g =
    bears v u w (b ∷ []) own w.own v.filled [] v.filled (v.lent -ℤ pos 1) u.lent (v.lent -ℤ pos 1) w.moves w.lost e g
    (sym (ap (λ x. x.own) g)) (sym none) (ap (λ x. x.lent) e)

pub both_out : (t : ℕ → ℕ) (key : Key) (v u w : View) (f o n : ℕ) → MakeTwo key f o v.own → n ≡ 2 ^ o
    → u ≡ left_by t (hand_out_block (block f o)) v → w ≡ left_by t (hand_out_block (block (f + n) o)) u
    → Bears v [] v.filled (v.lent +ℤ pos 1 +ℤ pos 1) w
both_out t key v u w f o n two size e g =
    let low : FrameBlock = block f o in
    let first : Bears v (without low v.own) v.filled (v.lent +ℤ pos 1) u =
    bears v v u v.own (without low v.own) (without low v.own) v.filled v.filled v.filled v.lent (v.lent +ℤ pos 1) (v.lent +ℤ pos 1)
    (t v.moves) v.lost refl e refl refl refl in
    bears v u w (without low v.own) (without (block (f + n) o) u.own) [] v.filled u.filled v.filled (v.lent +ℤ pos 1)
    (u.lent +ℤ pos 1) (v.lent +ℤ pos 1 +ℤ pos 1) (t u.moves) u.lost first g
    (ap (λ k. without (block (f + k) o) u.own) size
    ∙ ap (λ (x : View). without (block (f + 2 ^ o) o) x.own) e ∙ none_left key f o v.own two)
    (ap (λ x. x.filled) e) (ap (λ x. x.lent +ℤ pos 1) e)

lent_one : (z : ℤ) → (z -ℤ pos 1) +ℤ pos 1 +ℤ pos 1 ≡ z +ℤ pos 1
lent_one z = omega (arith, ints)

pub split_up : (v u w : View) → v.own ≡ [] → Bears v u.own v.filled (v.lent -ℤ pos 1) u
    → Bears u [] u.filled (u.lent +ℤ pos 1 +ℤ pos 1) w → HasLentOne v w
split_up v u w none e g =
    bears v u w u.own [] v.own v.filled u.filled v.filled (v.lent -ℤ pos 1) (u.lent +ℤ pos 1 +ℤ pos 1) (v.lent +ℤ pos 1) w.moves w.lost e g
    (sym none) (ap (λ x. x.filled) e) (ap (λ x. x.lent +ℤ pos 1 +ℤ pos 1) e ∙ lent_one v.lent)

pub huge_own : (u : View) (c : ℕ) → u.own ≡ block (512 * c) 9 ∷ [] → 0 < wholes c u.own
huge_own u c e = omega (arith, ap (wholes c) e, one_whole c)
