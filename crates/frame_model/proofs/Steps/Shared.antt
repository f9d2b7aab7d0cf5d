-- What the kinds of steps share: the views before and after, sums, and words as their readers say them.
use Rattle.std.proofs.Common.{◌≡◌, ◌≢◌, ◌⊎◌, inl, inr, ⊎_elim, ℕ, ◌+◌, ◌*◌, ◌/◌, ◌%◌, ◌<◌, ◌≤◌, List, [], get_or, set, Option, Some, Bool}
use Rattle.std.proofs.Common.{true, false, refl, ap, sym, subst, ◌∙◌, arith}
use Rattle.std.specs.List.{All}
use Rattle.std.specs.Prelude.{if◌then◌else◌, nat_eq}
use Rattle.std.specs.Int.{bit_at}
use Rattle.std.proofs.lemmas.Bool.{cases_eq}
use Rattle.std.proofs.lemmas.Bool.Decides.{nat_tests}
use Rattle.std.proofs.lemmas.Nat.Bits.{bit_at-lt}
use mathlib.Core.Option.{some}
use lib.ListN.{get_elem?}
use Rattle.frame_words.specs.Words.{free_in, flag_in, lane_in, lane_put, rest_in}
use Rattle.frame_model.specs.declared.block.FrameBlock.{FrameBlock}
use Rattle.frame_model.specs.declared.key.Key.{Key}
use Rattle.frame_model.specs.declared.view.Amount.{Amount}
use Rattle.frame_model.specs.declared.view.View.{View}
use Rattle.frame_model.specs.Key.{frame_count, tree_count, child_of}
use Rattle.frame_model.specs.Block.{IsBlock, smalls, wholes}
use Rattle.frame_model.specs.Words.{entry_place, tree_place, local_place, bits_place, entry_of, free_of, huge_of, tree_word_of}
use Rattle.frame_model.specs.Words.{tree_free_of, reserved_of, local_word_of, rest_of, bit_word_of, bit_of, with_entry, with_tree}
use Rattle.frame_model.specs.Words.{with_local, with_bits}
use Rattle.frame_model.specs.View.{count_in, IsAmount, NoneBut, names, is_at, small_in, whole_in, fills, marks, charged_in, blocks_out}
use Rattle.frame_model.specs.View.{ground_blocks, ground_small_in, ground_in, spent, LiesIn, IsViewOf, fixed_ground, ground_with}
use Rattle.frame_model.specs.View.{boot_blocks}
use Rattle.frame_model.specs.Fit.{total, Fit}
use Rattle.frame_model.proofs.Sums.{at-le-sum, All-at, sum_plus, sum_below, sum_below_but}
use Rattle.frame_model.proofs.Amounts.{names-le, names_none}
use Rattle.frame_model.proofs.Blocks.{smalls_none}
use Rattle.frame_model.proofs.Keeps.{total_is}
use Rattle.frame_model.proofs.Balances.{SameRights, SameBlocks}

-- Words as their readers say them.

pub free_is : (n : ℕ) → free_in n ≡ n % 32768
unfolding free_in
free_is n = refl

pub flag_is : (n : ℕ) → flag_in n ≡ n / 32768
unfolding flag_in
flag_is n = refl

pub free_of_is : (ws : List ℕ) (c : ℕ) → free_of ws c ≡ free_in (entry_of ws c)
unfolding free_of
free_of_is ws c = refl

pub huge_of_is : (ws : List ℕ) (c : ℕ) → huge_of ws c ≡ flag_in (entry_of ws c)
unfolding huge_of
huge_of_is ws c = refl

pub entry_of_is : (ws : List ℕ) (c : ℕ) → entry_of ws c ≡ lane_in (get_or ws (entry_place c) 0) c
unfolding entry_of
entry_of_is ws c = refl

pub tree_free_is : (key : Key) (ws : List ℕ) (t : ℕ)
    → tree_free_of key ws t ≡ free_in (get_or ws (tree_place key t) 0)
unfolding tree_free_of tree_word_of
tree_free_is key ws t = refl

pub reserved_is : (key : Key) (ws : List ℕ) (t : ℕ)
    → reserved_of key ws t ≡ flag_in (get_or ws (tree_place key t) 0)
unfolding reserved_of tree_word_of
reserved_is key ws t = refl

pub rest_of_is : (key : Key) (ws : List ℕ) (k : ℕ)
    → rest_of key ws k ≡ rest_in (get_or ws (local_place key k) 0)
unfolding rest_of local_word_of
rest_of_is key ws k = refl

pub bit_word_is : (key : Key) (ws : List ℕ) (k : ℕ) → bit_word_of key ws k ≡ get_or ws (bits_place key k) 0
unfolding bit_word_of
bit_word_is key ws k = refl

pub bit_is : (key : Key) (ws : List ℕ) (x k : ℕ) → x / 64 ≡ k
    → bit_of key ws x ≡ bit_at (bit_word_of key ws k) (x % 64)
unfolding bit_of
bit_is key ws x k e = ap (λ j. bit_at (bit_word_of key ws j) (x % 64)) e

pub bit-le : (key : Key) (ws : List ℕ) (x : ℕ) → bit_of key ws x ≤ 1
unfolding bit_of
bit-le key ws x = omega (arith, bit_at-lt (bit_word_of key ws (x / 64)) (x % 64))

-- a word that is written by its number is written as an entry, a tree word, a local word or a bit word
pub as_entry : (ws : List ℕ) (c e n : ℕ) → n ≡ lane_put (get_or ws (entry_place c) 0) c e
    → with_entry ws c e ≡ set ws (entry_place c) n
unfolding with_entry
as_entry ws c e n is = ap (set ws (entry_place c)) (sym is)

pub as_tree : (key : Key) (ws : List ℕ) (t n m : ℕ) → m ≡ n
    → with_tree key ws t n ≡ set ws (tree_place key t) m
unfolding with_tree
as_tree key ws t n m is = ap (set ws (tree_place key t)) (sym is)

pub as_local : (key : Key) (ws : List ℕ) (k n : ℕ) → with_local key ws k n ≡ set ws (local_place key k) n
unfolding with_local
as_local key ws k n = refl

pub as_bits : (key : Key) (ws : List ℕ) (w n m : ℕ) → m ≡ n
    → with_bits key ws w n ≡ set ws (bits_place key w) m
unfolding with_bits
as_bits key ws w n m is = ap (set ws (bits_place key w)) (sym is)

-- the fit of words that are written in another way
pub lands : (key : Key) (shares : ℕ) (ws new : List ℕ) (views : List View) → ws ≡ new
    → Fit key shares ws views → Fit key shares new views
lands key shares ws new views e fit = subst (λ (l : List ℕ). Fit key shares l views) e fit

-- Rights.

pub none_out : (v : View) → 0 < v.share → blocks_out v ≡ 0
unfolding blocks_out
none_out v h = grind (arith, nat_tests)

ground_same : (v w : View) → w.is_ground ≡ v.is_ground → ground_in w ≡ ground_in v
unfolding ground_in
ground_same v w e = rw e refl

some_test : (n : ℕ) → 0 < n → nat_eq n 0 ≡ false
some_test n h = grind (arith, nat_tests)

-- what was held before the opening, by the form of the view
pub ground_kept : (v : View) → v.is_ground ≡ true → 0 < v.share → ground_blocks v ≡ v.kept
unfolding ground_blocks
ground_kept v g h = let s = some_test v.share h in rw (g, s) refl

pub ground_owned : (v : View) → v.is_ground ≡ true → v.share ≡ 0 → ground_blocks v ≡ v.own
unfolding ground_blocks
ground_owned v g z = rw (g, z) refl

pub ground_none : (v : View) → v.is_ground ≡ false → ground_blocks v ≡ []
unfolding ground_blocks
ground_none v g = rw g refl

-- and it is part of what the view has
pub ground-le : (x : ℕ) (v : View) → ground_small_in x v ≤ small_in x v
ground-le x v = by v.is_ground refl
  where
    by : (b : Bool) → v.is_ground ≡ b → ground_small_in x v ≤ small_in x v
    by true e =
        ⊎_elim
        (λ z. omega (arith, ap (smalls x) (ground_owned v e z)))
        (λ n. omega (arith, ap (smalls x) (ground_kept v e (omega arith))))
        (cases_eq v.share 0)
    by false e = omega (arith, ap (smalls x) (ground_none v e), smalls_none x)

-- a view with a share has the same of it while it keeps the same
pub ground_still : (v w : View) → 0 < v.share → 0 < w.share → w.is_ground ≡ v.is_ground → w.kept ≡ v.kept
    → ground_blocks w ≡ ground_blocks v
ground_still v w h s g k = by v.is_ground refl
  where
    by : (b : Bool) → v.is_ground ≡ b → ground_blocks w ≡ ground_blocks v
    by true e = ground_kept w (g ∙ e) s ∙ k ∙ sym (ground_kept v e h)
    by false e = ground_none w (g ∙ e) ∙ sym (ground_none v e)

-- a view that keeps its share, what it lends, whether it is the ground, and what it keeps
pub same_rights : (v w : View) → 0 < v.share → w.share ≡ v.share → w.lent ≡ v.lent → w.is_ground ≡ v.is_ground
    → w.kept ≡ v.kept → SameRights v w
same_rights v w h s l g k = record {
  shares = s;
  lents = l;
  out = none_out w (omega (arith, s)) ∙ sym (none_out v h);
  grounds = ground_same v w g;
  ground_blocks = λ x. ap (smalls x) (ground_still v w h (omega (arith, s, h)) g k);
}

pub same_blocks : (v w : View) → w.own ≡ v.own → w.kept ≡ v.kept → w.filled ≡ v.filled → SameBlocks v w
same_blocks v w o k f = record {
  wholes = λ c. omega (arith, ap (wholes c) o, ap (wholes c) k);
  smalls = λ x. omega (arith, ap (smalls x) o, ap (smalls x) k);
  fills = λ x. ap (names (x / 64)) f;
}

-- Views.

pub named : (key : Key) (v : View) → IsViewOf key v → 0 < v.share → v.about ≡ Some key
named key v i h = go i.named
  where
    go : (v ≡ spent) ⊎ (v.about ≡ Some key) → v.about ≡ Some key
    go (inl e) = let z : v.share ≡ 0 = ap (λ (u : View). u.share) e in absurd (omega arith)
    go (inr e) = e

module _ (key : Key) (v : View) (i : IsViewOf key v) (h : 0 < v.share) where
  -- the view with other amounts, another reservation, other own blocks and other filled words
  pub still : (a p : Option Amount) (r : Option ℕ) (own : List FrameBlock) (filled : List ℕ) (m : ℕ)
      → All (IsBlock key) own
      → (c : ℕ) → LiesIn (record v { charged = a; paid = p; reserving = r; own = own; filled = filled; moves = m }) c
      → ((w : ℕ) → 0 < names w filled → (w < 8 * key.children) × (0 < wholes (w / 8) own))
      → ((d : ℕ) → key.children ≤ d → count_in d a ≡ 0) → ((t : ℕ) → tree_count key ≤ t → count_in t p ≡ 0)
      → ((t : ℕ) → tree_count key ≤ t → is_at t r ≡ 0) → IsAmount a → IsAmount p
      → IsViewOf key (record v { charged = a; paid = p; reserving = r; own = own; filled = filled; moves = m })
  still a p r own filled m are c lies full far_a far_p far_r some_a some_p = record {
    named = inr (named key v i h);
    own = are;
    kept = i.kept;
    no_part = λ z. absurd (omega arith);
    one_block = λ z g. absurd (omega arith);
    one_child = λ z. (c, lies);
    filled = λ w q. let t = full w q in record { inside = t.0; share = h; own = t.1 };
    charged = far_a;
    paid = far_p;
    reserving = far_r;
    some_charged = some_a;
    some_paid = some_p;
  }

  -- the view with other frames paid, or another reservation
  pub still_paying : (p : Option Amount) (r : Option ℕ) (m : ℕ)
      → ((t : ℕ) → tree_count key ≤ t → count_in t p ≡ 0) → ((t : ℕ) → tree_count key ≤ t → is_at t r ≡ 0)
      → IsAmount p
      → IsViewOf key (record v { paid = p; reserving = r; moves = m })
  still_paying p r m far_p far_r some_p =
      let l : LiesIn v (i.one_child h).0 = (i.one_child h).1 in
      still v.charged p r v.own v.filled m i.own (i.one_child h).0 (record { charged = l.charged; smalls = l.smalls; wholes = l.wholes })
      (λ w q. ((i.filled w q).inside, (i.filled w q).own)) i.charged far_p far_r i.some_charged some_p

  -- the view with other frames charged, in the child c
  pub still_charging : (a : Option Amount) (m c : ℕ) → NoneBut c a
      → ((x : ℕ) → child_of x ≢ c → smalls x v.own ≡ 0) → ((d : ℕ) → d ≢ c → wholes d v.own ≡ 0)
      → ((d : ℕ) → key.children ≤ d → count_in d a ≡ 0) → IsAmount a
      → IsViewOf key (record v { charged = a; moves = m })
  still_charging a m c none s w far some_a =
      still a v.paid v.reserving v.own v.filled m i.own c (record { charged = none; smalls = s; wholes = w })
      (λ k q. ((i.filled k q).inside, (i.filled k q).own)) far i.paid i.reserving some_a i.some_paid

  -- where a view charges something, it has all in flight
  pub lies_in_charged : (c : ℕ) → 0 < charged_in c v → LiesIn v c
  lies_in_charged c q =
      let l : LiesIn v (i.one_child h).0 = (i.one_child h).1 in
      ⊎_elim (λ e. subst (LiesIn v) (sym e) l) (λ n. absurd (omega (arith, l.charged c n))) (cases_eq c (i.one_child h).0)

  -- where a view has a frame in flight, it has all in flight
  pub lies_in_owned : (x : ℕ) → 0 < smalls x v.own → LiesIn v (child_of x)
  lies_in_owned x q =
      let l : LiesIn v (i.one_child h).0 = (i.one_child h).1 in
      ⊎_elim (λ e. subst (LiesIn v) (sym e) l) (λ n. absurd (omega (arith, l.smalls x n))) (cases_eq (child_of x) (i.one_child h).0)

  pub lies_in_whole : (c : ℕ) → 0 < wholes c v.own → LiesIn v c
  lies_in_whole c q =
      let l : LiesIn v (i.one_child h).0 = (i.one_child h).1 in
      ⊎_elim (λ e. subst (LiesIn v) (sym e) l) (λ n. absurd (omega (arith, l.wholes c n))) (cases_eq c (i.one_child h).0)

-- Sums over all views.

fills_of : (b : Bool) (x : ℕ) (u w : View) → u.filled ≡ [] → w.filled ≡ [] → fills x (if b then u else w) ≡ 0
fills_of true x u w e f = ap (names (x / 64)) e ∙ names_none (x / 64)
fills_of false x u w e f = ap (names (x / 64)) f ∙ names_none (x / 64)

pub fixed_fills : (key : Key) (x : ℕ) → fills x (fixed_ground key) ≡ 0
unfolding fixed_ground
fixed_fills key x = fills_of key.sealed x (ground_with key (boot_blocks key)) spent refl refl

module _ (key : Key) (shares : ℕ) (ws : List ℕ) (vs : List View) (fit : Fit key shares ws vs) where
  -- past the end each frame is in one block below order 9, so its bit is set, and its child has no flag
  pub past_held : (x : ℕ) → key.frames ≤ x → x < frame_count key → total key (small_in x) vs ≡ 1
  past_held x p h = omega (
    arith,
    fit.past_end x p h,
    fit.apart x h,
    total_is key (ground_small_in x) vs,
    total_is key (small_in x) vs,
    ground-le x (fixed_ground key),
    sum_below (ground_small_in x) (small_in x) vs (λ k d l. ground-le x (get_or vs k d)),
  )

  pub past_set : (x : ℕ) → key.frames ≤ x → x < frame_count key → bit_of key ws x ≡ 1
  past_set x p h = omega (
    arith,
    past_held x p h,
    fit.bits x h,
    bit-le key ws x,
    total_is key (marks x) vs,
    total_is key (small_in x) vs,
    sum_plus (small_in x) (fills x) vs,
  )

  pub past_unflagged : (x : ℕ) → key.frames ≤ x → x < frame_count key → huge_of ws (child_of x) ≡ 0
  past_unflagged x p h = omega (arith, past_held x p h, fit.apart x h)

  pub part_unflagged : (c : ℕ) → c < key.children → key.frames < 512 * (c + 1) → huge_of ws c ≡ 0
  part_unflagged c h p =
      let last : child_of (512 * c + 511) ≡ c = omega arith in
      omega (arith, past_unflagged (512 * c + 511) (omega arith) (omega arith), ap (huge_of ws) last)

module _ (key : Key) (shares : ℕ) (ws : List ℕ) (vs : List View) (id : ℕ) (v : View)
    (fit : Fit key shares ws vs) (at : get_elem? vs id ≡ some v) where
  pub view_of : IsViewOf key v
  view_of = All-at (IsViewOf key) vs id v at fit.each

  pub at-le-total : (f : View → ℕ) → f v ≤ total key f vs
  at-le-total f = omega (arith, total_is key f vs, at-le-sum f vs id v at)

  -- past the end a view has no more than what was held before the opening
  pub past_alone : (x : ℕ) → key.frames ≤ x → x < frame_count key → small_in x v ≡ ground_small_in x v
  past_alone x p h = omega (
    arith,
    fit.past_end x p h,
    fit.apart x h,
    total_is key (ground_small_in x) vs,
    total_is key (small_in x) vs,
    ground-le x (fixed_ground key),
    ground-le x v,
    sum_below_but (ground_small_in x) (small_in x) vs id v at (λ k d l. ground-le x (get_or vs k d)),
  )

  -- what the views ask of a bit: their blocks, and the words that they have filled
  pub total_marks : (x : ℕ) → total key (marks x) vs ≡ total key (small_in x) vs + total key (fills x) vs
  total_marks x = omega (
    arith,
    total_is key (marks x) vs,
    total_is key (small_in x) vs,
    total_is key (fills x) vs,
    sum_plus (small_in x) (fills x) vs,
  )

  pub smalls-le-bit : (x : ℕ) → x < frame_count key → total key (small_in x) vs ≤ bit_of key ws x
  smalls-le-bit x h = omega (arith, fit.bits x h, total_marks x)

  -- the counters of a child whose huge frame the view has in flight
  pub flag_set : (c : ℕ) → c < key.children → 0 < wholes c v.own → huge_of ws c ≡ 1
  flag_set c h own = omega (arith, fit.wholes c h, at-le-total (whole_in c), own, fit.words_in_range.huge c h)

  pub no_smalls : (c x : ℕ) → c < key.children → 0 < wholes c v.own → child_of x ≡ c
      → total key (small_in x) vs ≡ 0
  no_smalls c x h own e = omega (arith, fit.apart x (omega arith), flag_set c h own, ap (huge_of ws) e)

  fills_below : (c x : ℕ) → child_of x ≡ c → (u : View) → IsViewOf key u → fills x u ≤ whole_in c u
  fills_below c x e u i =
      ⊎_elim
      (λ z. omega arith)
      (λ p. let q = i.filled (x / 64) (omega (arith, p)) in
      let same : x / 64 / 8 ≡ c = omega arith in
      omega (arith, q.own, ap (λ j. wholes j u.own) same, names-le (x / 64) u.filled))
      (cases_eq (names (x / 64) u.filled) 0)

  -- nobody else fills a word of a huge frame that the view has in flight
  pub fills_alone : (c x : ℕ) → c < key.children → 0 < wholes c v.own → child_of x ≡ c
      → total key (fills x) vs ≡ fills x v
  fills_alone c x h own e =
      omega (
        arith,
        at-le-total (fills x),
        names-le (x / 64) v.filled,
        flag_set c h own,
        fit.wholes c h,
        total_is key (fills x) vs,
        total_is key (whole_in c) vs,
        fixed_fills key x,
        sum_below_but (fills x) (whole_in c) vs id v at (λ k d l. fills_below c x e (get_or vs k d) (fit.each k d l)),
      )

  -- so the bits of that huge frame are those of the words that the view has filled
  pub bit_filled : (c x : ℕ) → c < key.children → 0 < wholes c v.own → child_of x ≡ c
      → bit_of key ws x ≡ fills x v
  bit_filled c x h own e = omega (
    arith,
    fit.bits x (omega arith),
    total_marks x,
    no_smalls c x h own e,
    fills_alone c x h own e,
  )
