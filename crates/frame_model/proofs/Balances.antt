-- Four classes of steps, by the word that they write, and how each keeps the fit: an entry, a bit word, a tree word, a local word.
-- A step owes what its own word and its own view change by; the readers of the other classes stay.
use Rattle.std.proofs.Common.{◌≡◌, ◌≢◌, ⊎_elim, ℕ, ◌+◌, ◌*◌, ◌/◌, ◌%◌, ◌^◌, ◌<◌, ◌≤◌, max, List, [], ◌∷◌, ◌++◌, length, get_or, take, drop}
use Rattle.std.proofs.Common.{set, refl, ap, ◌∙◌, arith, length-take, get_or-take, get_or-drop}
use Rattle.std.specs.List.{sum_by, All}
use Rattle.std.specs.Int.{bit_at}
use Rattle.std.specs.Int.Count.{ones}
use borrow.Author.Differences.{up, down}
use Rattle.std.proofs.lemmas.Bool.{cases_eq}
use Rattle.std.proofs.lemmas.List.Sums.{sum_by-le}
use Rattle.std.proofs.lemmas.List.Elements.{All-from_get_or}
use mathlib.Core.Option.{some}
use lib.ListN.{get_elem?}
use Rattle.frame_words.specs.Words.{free_in, flag_in, rest_in, local_word}
use Rattle.frame_model.specs.declared.key.Key.{Key}
use Rattle.frame_model.specs.declared.view.View.{View}
use Rattle.frame_model.specs.Key.{frame_count, tree_count, child_of, tree_of_child}
use Rattle.frame_model.specs.Words.{bit_of, bit_word_of, bits_place, set_of, free_of, huge_of, held_of, held_in_tree, tree_free_of}
use Rattle.frame_model.specs.Words.{reserved_of, rest_of, count_on, is_on, with_entry, with_tree, with_local, with_bits, IsRest, AreInRange}
use Rattle.frame_model.specs.View.{small_in, whole_in, fills, marks, charged_in, paid_on, reserves, blocks_out, ground_small_in, ground_in}
use Rattle.frame_model.specs.View.{IsViewOf}
use Rattle.frame_model.specs.Fit.{total, Fit}
use Rattle.frame_model.proofs.Words.{held_is, tree_here, tree_else, tree_same, EntryWritten, entry_written, TreeWritten, tree_written}
use Rattle.frame_model.proofs.Words.{LocalWritten, local_written, BitsWritten, bits_written}
use Rattle.frame_model.proofs.Keeps.{Balanced, turn_keeps, cut_keeps, join_keeps}
use Rattle.frame_model.proofs.Bits.{ones-le}

-- the view has its shares, lends and is out as before
pub record SameRights (v w : View) : Type 0 where
  pub shares : w.share ≡ v.share
  pub lents : w.lent ≡ v.lent
  pub out : blocks_out w ≡ blocks_out v
  pub grounds : ground_in w ≡ ground_in v
  pub ground_blocks : (x : ℕ) → ground_small_in x w ≡ ground_small_in x v

-- the view has the blocks and the filled words of before
pub record SameBlocks (v w : View) : Type 0 where
  pub wholes : (c : ℕ) → whole_in c w ≡ whole_in c v
  pub smalls : (x : ℕ) → small_in x w ≡ small_in x v
  pub fills : (x : ℕ) → fills x w ≡ fills x v

-- the entry of the child c becomes e, and v becomes w
pub record EntryBalance (key : Key) (ws : List ℕ) (views : List View) (c e : ℕ) (v w : View) : Type 0 where
  pub wholes_here : flag_in e + whole_in c v ≡ huge_of ws c + whole_in c w
  pub wholes_else : (d : ℕ) → d ≢ c → whole_in d w ≡ whole_in d v
  pub marks : (x : ℕ) → marks x w ≡ marks x v
  pub apart_here : (x : ℕ) → x < frame_count key → child_of x ≡ c
      → total key (small_in x) views + small_in x w + flag_in e ≤ 1 + small_in x v
  pub smalls_else : (x : ℕ) → child_of x ≢ c → small_in x w ≡ small_in x v
  pub entries_here : free_in e + charged_in c w + max (set_of key ws c) (512 * flag_in e) ≡ free_of ws c + charged_in c v + held_of key ws c
  pub entries_else : (d : ℕ) → d ≢ c → charged_in d w ≡ charged_in d v
  pub trees_here : max (set_of key ws c) (512 * flag_in e) + paid_on (tree_of_child c) w ≡ held_of key ws c + paid_on (tree_of_child c) v
  pub trees_else : (t : ℕ) → t ≢ tree_of_child c → paid_on t w ≡ paid_on t v
  pub reserves : (t : ℕ) → reserves t w ≡ reserves t v
  pub rights : SameRights v w
  pub free : free_in e ≤ 512
  pub huge : flag_in e ≤ 1

-- the bit word k becomes n, and v becomes w; s stands for the set frames of the child afterwards
pub record BitsBalance (key : Key) (ws : List ℕ) (views : List View) (k n : ℕ) (v w : View) : Type 0 where
  pub bits_here : (x : ℕ) → x / 64 ≡ k → bit_at n (x % 64) + marks x v ≡ bit_of key ws x + marks x w
  pub bits_else : (x : ℕ) → x / 64 ≢ k → marks x w ≡ marks x v
  pub apart : (x : ℕ) → x < frame_count key
      → total key (small_in x) views + small_in x w + huge_of ws (child_of x) ≤ 1 + small_in x v
  pub wholes : (d : ℕ) → whole_in d w ≡ whole_in d v
  pub entries_here : (s : ℕ) → s ≤ 512 → s + ones (bit_word_of key ws k) ≡ set_of key ws (k / 8) + ones n
      → charged_in (k / 8) w + max s (512 * huge_of ws (k / 8)) ≡ charged_in (k / 8) v + held_of key ws (k / 8)
  pub entries_else : (d : ℕ) → d ≢ k / 8 → charged_in d w ≡ charged_in d v
  pub trees_here : (s : ℕ) → s ≤ 512 → s + ones (bit_word_of key ws k) ≡ set_of key ws (k / 8) + ones n
      → max s (512 * huge_of ws (k / 8)) + paid_on (k / 64) w ≡ held_of key ws (k / 8) + paid_on (k / 64) v
  pub trees_else : (t : ℕ) → t ≢ k / 64 → paid_on t w ≡ paid_on t v
  pub reserves : (t : ℕ) → reserves t w ≡ reserves t v
  pub rights : SameRights v w
  pub below : n < 2 ^ 64

-- the word of the tree t becomes n, and v becomes w
pub record TreeBalance (key : Key) (ws : List ℕ) (t n : ℕ) (v w : View) : Type 0 where
  pub trees_here : free_in n + paid_on t w ≡ tree_free_of key ws t + paid_on t v
  pub trees_else : (u : ℕ) → u ≢ t → paid_on u w ≡ paid_on u v
  pub reserved_here : reserves t w + reserved_of key ws t ≡ reserves t v + flag_in n
  pub reserved_else : (u : ℕ) → u ≢ t → reserves u w ≡ reserves u v
  pub charged : (d : ℕ) → charged_in d w ≡ charged_in d v
  pub blocks : SameBlocks v w
  pub rights : SameRights v w
  pub free : free_in n ≤ 4096
  pub reserved : flag_in n ≤ 1

-- the local word of the core k becomes n, and v becomes w
pub record LocalBalance (key : Key) (ws : List ℕ) (k n : ℕ) (v w : View) : Type 0 where
  pub trees : (t : ℕ) → count_on t (rest_in n) + paid_on t w ≡ count_on t (rest_of key ws k) + paid_on t v
  pub reserved : (t : ℕ) → is_on t (rest_in n) + reserves t w ≡ is_on t (rest_of key ws k) + reserves t v
  pub charged : (d : ℕ) → charged_in d w ≡ charged_in d v
  pub blocks : SameBlocks v w
  pub rights : SameRights v w
  pub word : n ≡ local_word (rest_in n)
  pub rest : IsRest key (rest_in n)

-- no word changes, and the views `ins` have together what the views `outs` had
pub record ViewBalance (key : Key) (outs ins : List View) : Type 0 where
  pub wholes : (c : ℕ) → sum_by (whole_in c) ins ≡ sum_by (whole_in c) outs
  pub smalls : (x : ℕ) → sum_by (small_in x) ins ≡ sum_by (small_in x) outs
  pub marks : (x : ℕ) → sum_by (marks x) ins ≡ sum_by (marks x) outs
  pub charged : (c : ℕ) → sum_by (charged_in c) ins ≡ sum_by (charged_in c) outs
  pub paid : (t : ℕ) → sum_by (paid_on t) ins ≡ sum_by (paid_on t) outs
  pub reserves : (t : ℕ) → sum_by (reserves t) ins ≡ sum_by (reserves t) outs
  pub shares : sum_by (λ v. v.share) ins ≡ sum_by (λ v. v.share) outs
  pub lents : sum_by (λ v. up v.lent) ins + sum_by (λ v. down v.lent) outs + sum_by blocks_out outs
      ≡ sum_by (λ v. up v.lent) outs + sum_by (λ v. down v.lent) ins + sum_by blocks_out ins
  pub grounds : sum_by ground_in ins ≡ sum_by ground_in outs
  pub past_end : (x : ℕ) → key.frames ≤ x → x < frame_count key
      → sum_by (ground_small_in x) ins ≡ sum_by (ground_small_in x) outs

-- the rights of one view, as the lifting lemma asks for them
same_lents : (v w : View) → SameRights v w
    → up w.lent + down v.lent + blocks_out v ≡ up v.lent + down w.lent + blocks_out w
same_lents v w r = omega (arith, ap up r.lents, ap down r.lents, r.out)

next_place : (key : Key) (k i : ℕ) → bits_place key k + i ≡ bits_place key (k + i)
unfolding bits_place
next_place key k i = omega arith

-- the set frames of a child are at most all of it
pub set-le : (key : Key) (ws : List ℕ) (c : ℕ) → AreInRange key ws → c < key.children → set_of key ws c ≤ 512
unfolding set_of bit_word_of
set-le key ws c r h =
    let from : ℕ = bits_place key (8 * c) in
    let eight : List ℕ = take 8 (drop from ws) in
    let few : length eight ≤ 8 = omega (arith, length-take 8 (drop from ws)) in
    let all : All (λ n. ones n ≤ 64) eight =
    All-from_get_or (λ n. ones n ≤ 64) eight 0
    (λ i q.
    let short : i < 8 = omega arith in
    let got : get_or eight i 0 ≡ get_or ws (from + i) 0 = rw (get_or-take, get_or-drop) refl in
    let there : get_or ws (from + i) 0 < 2 ^ 64 =
    omega (arith, r.bits (8 * c + i) (omega arith), ap (λ p. get_or ws p 0) (next_place key (8 * c) i)) in
    omega (arith, ap ones got, ones-le 64 (get_or ws (from + i) 0) there)) in
    omega (arith, sum_by-le ones 64 eight all)

module _ (key : Key) (shares : ℕ) (ws : List ℕ) (views : List View) (id : ℕ) (v : View)
    (fit : Fit key shares ws views) (at : get_elem? views id ≡ some v) where
  pub entry_step : (c e : ℕ) (w : View) → c < key.children → e < 65536 → EntryBalance key ws views c e v w
      → IsViewOf key w → Fit key shares (with_entry ws c e) (set views id w)
  entry_step c e w h small b is =
      let new : List ℕ = with_entry ws c e in
      let z : EntryWritten key ws c e new = entry_written key ws c e fit.words_in_range h small in
      turn_keeps key shares ws views id v fit at new w (record {
        wholes = λ d q.
            ⊎_elim
            (λ s. omega (
              arith,
              z.huge_here,
              b.wholes_here,
              ap (huge_of new) s,
              ap (huge_of ws) s,
              ap (λ i. whole_in i v) s,
              ap (λ i. whole_in i w) s,
            ))
            (λ n. omega (arith, z.huge_else d n, b.wholes_else d n))
            (cases_eq d c);
        bits = λ x q. omega (arith, z.bits x, b.marks x);
        apart = λ x q.
            ⊎_elim
            (λ s. omega (arith, z.huge_here, ap (huge_of new) s, b.apart_here x q s))
            (λ n. omega (arith, z.huge_else (child_of x) n, fit.apart x q, b.smalls_else x n))
            (cases_eq (child_of x) c);
        entries = λ d q.
            ⊎_elim
            (λ s. omega (
              arith,
              z.free_here,
              z.held_here,
              b.entries_here,
              ap (held_of key new) s,
              ap (held_of key ws) s,
              ap (free_of new) s,
              ap (free_of ws) s,
              ap (λ i. charged_in i v) s,
              ap (λ i. charged_in i w) s,
            ))
            (λ n. omega (arith, z.free_else d n, z.held_else d n, b.entries_else d n))
            (cases_eq d c);
        trees = λ t q.
            ⊎_elim
            (λ s. omega (
              arith,
              z.tree_free t,
              z.resting t,
              tree_here key ws new c h (λ d l n. z.held_else d n),
              z.held_here,
              b.trees_here,
              ap (held_in_tree key new) s,
              ap (held_in_tree key ws) s,
              ap (λ i. paid_on i v) s,
              ap (λ i. paid_on i w) s,
            ))
            (λ n. omega (
              arith,
              z.tree_free t,
              z.resting t,
              tree_else key ws new c h (λ d l m. z.held_else d m) t n,
              b.trees_else t n,
            ))
            (cases_eq t (tree_of_child c));
        reserved = λ t q. omega (arith, z.cores t, z.reserved t, b.reserves t);
        shares = omega (arith, b.rights.shares);
        lents = omega (arith, same_lents v w b.rights);
        grounds = omega (arith, b.rights.grounds);
        past_end = λ x p q. omega (arith, b.rights.ground_blocks x);
        in_range = z.in_range b.free b.huge;
      }) is

  pub bits_step : (k n : ℕ) (w : View) → k < 8 * key.children → BitsBalance key ws views k n v w
      → IsViewOf key w → Fit key shares (with_bits key ws k n) (set views id w)
  bits_step k n w h b is =
      let new : List ℕ = with_bits key ws k n in
      let z : BitsWritten key ws k n new = bits_written key ws k n fit.words_in_range h in
      let child : k / 8 < key.children = omega arith in
      let range : AreInRange key new = z.in_range b.below in
      let few : set_of key new (k / 8) ≤ 512 = set-le key new (k / 8) range child in
      let held : held_of key new (k / 8) ≡ max (set_of key new (k / 8)) (512 * huge_of ws (k / 8)) =
      omega (arith, held_is key new (k / 8), z.huge (k / 8) child) in
      let same : tree_of_child (k / 8) ≡ k / 64 = omega arith in
      turn_keeps key shares ws views id v fit at new w (record {
        wholes = λ d q. omega (arith, z.huge d q, b.wholes d);
        bits = λ x q.
            ⊎_elim
            (λ s. omega (arith, z.bits_here x s, b.bits_here x s))
            (λ e. omega (arith, z.bits_else x e, b.bits_else x e))
            (cases_eq (x / 64) k);
        apart = λ x q. omega (arith, z.huge (child_of x) (omega arith), b.apart x q);
        entries = λ d q.
            ⊎_elim
            (λ s. omega (
              arith,
              z.free d q,
              held,
              b.entries_here (set_of key new (k / 8)) few z.sets_here,
              ap (held_of key new) s,
              ap (held_of key ws) s,
              ap (λ i. charged_in i v) s,
              ap (λ i. charged_in i w) s,
            ))
            (λ e. omega (arith, z.free d q, z.held_else d q e, b.entries_else d e))
            (cases_eq d (k / 8));
        trees = λ t q.
            ⊎_elim
            (λ s. omega (
              arith,
              z.tree_free t q,
              z.resting t,
              tree_here key ws new (k / 8) child z.held_else,
              held,
              b.trees_here (set_of key new (k / 8)) few z.sets_here,
              ap (held_in_tree key new) s,
              ap (held_in_tree key ws) s,
              ap (λ i. paid_on i v) s,
              ap (λ i. paid_on i w) s,
              ap (held_in_tree key new) same,
              ap (held_in_tree key ws) same,
            ))
            (λ e. omega (
              arith,
              z.tree_free t q,
              z.resting t,
              tree_else key ws new (k / 8) child z.held_else t (λ s. e (s ∙ same)),
              b.trees_else t e,
            ))
            (cases_eq t (k / 64));
        reserved = λ t q. omega (arith, z.cores t, z.reserved t q, b.reserves t);
        shares = omega (arith, b.rights.shares);
        lents = omega (arith, same_lents v w b.rights);
        grounds = omega (arith, b.rights.grounds);
        past_end = λ x p q. omega (arith, b.rights.ground_blocks x);
        in_range = range;
      }) is

  pub tree_step : (t n : ℕ) (w : View) → t < tree_count key → TreeBalance key ws t n v w → IsViewOf key w
      → Fit key shares (with_tree key ws t n) (set views id w)
  tree_step t n w h b is =
      let new : List ℕ = with_tree key ws t n in
      let z : TreeWritten key ws t n new = tree_written key ws t n fit.words_in_range h in
      turn_keeps key shares ws views id v fit at new w (record {
        wholes = λ d q. omega (arith, z.huge d q, b.blocks.wholes d);
        bits = λ x q. omega (arith, z.bits x, b.blocks.smalls x, b.blocks.fills x);
        apart = λ x q. omega (arith, z.huge (child_of x) (omega arith), fit.apart x q, b.blocks.smalls x);
        entries = λ d q. omega (arith, z.free d q, z.held d q, b.charged d);
        trees = λ u q.
            ⊎_elim
            (λ s. omega (
              arith,
              z.free_here,
              z.resting u,
              tree_same key ws new z.held u,
              b.trees_here,
              ap (tree_free_of key new) s,
              ap (tree_free_of key ws) s,
              ap (λ i. paid_on i v) s,
              ap (λ i. paid_on i w) s,
            ))
            (λ e. omega (arith, z.free_else u e, z.resting u, tree_same key ws new z.held u, b.trees_else u e))
            (cases_eq u t);
        reserved = λ u q.
            ⊎_elim
            (λ s. omega (
              arith,
              z.cores u,
              z.reserved_here,
              b.reserved_here,
              ap (reserved_of key new) s,
              ap (reserved_of key ws) s,
              ap (λ i. reserves i v) s,
              ap (λ i. reserves i w) s,
            ))
            (λ e. omega (arith, z.cores u, z.reserved_else u e, b.reserved_else u e))
            (cases_eq u t);
        shares = omega (arith, b.rights.shares);
        lents = omega (arith, same_lents v w b.rights);
        grounds = omega (arith, b.rights.grounds);
        past_end = λ x p q. omega (arith, b.rights.ground_blocks x);
        in_range = z.in_range b.free b.reserved;
      }) is

  pub local_step : (k n : ℕ) (w : View) → k < key.cores → LocalBalance key ws k n v w → IsViewOf key w
      → Fit key shares (with_local key ws k n) (set views id w)
  local_step k n w h b is =
      let new : List ℕ = with_local key ws k n in
      let z : LocalWritten key ws k n new = local_written key ws k n fit.words_in_range h in
      turn_keeps key shares ws views id v fit at new w (record {
        wholes = λ d q. omega (arith, z.huge d q, b.blocks.wholes d);
        bits = λ x q. omega (arith, z.bits x, b.blocks.smalls x, b.blocks.fills x);
        apart = λ x q. omega (arith, z.huge (child_of x) (omega arith), fit.apart x q, b.blocks.smalls x);
        entries = λ d q. omega (arith, z.free d q, z.held d q, b.charged d);
        trees = λ t q. omega (arith, z.tree_free t q, z.resting t, tree_same key ws new z.held t, b.trees t);
        reserved = λ t q. omega (arith, z.cores t, z.reserved t q, b.reserved t);
        shares = omega (arith, b.rights.shares);
        lents = omega (arith, same_lents v w b.rights);
        grounds = omega (arith, b.rights.grounds);
        past_end = λ x p q. omega (arith, b.rights.ground_blocks x);
        in_range = z.in_range b.word b.rest;
      }) is

  -- what no step of a word changes: views among themselves
  balanced : (outs ins : List View) → ViewBalance key outs ins → Balanced key ws views outs ws ins
  balanced outs ins b = record {
    wholes = λ d q. omega (arith, b.wholes d);
    bits = λ x q. omega (arith, b.marks x);
    apart = λ x q. omega (arith, fit.apart x q, b.smalls x);
    entries = λ d q. omega (arith, b.charged d);
    trees = λ t q. omega (arith, b.paid t);
    reserved = λ t q. omega (arith, b.reserves t);
    shares = b.shares;
    lents = b.lents;
    grounds = b.grounds;
    past_end = b.past_end;
    in_range = fit.words_in_range;
  }

  pub view_step : (w : View) → ViewBalance key (v ∷ []) (w ∷ []) → IsViewOf key w
      → Fit key shares ws (set views id w)
  view_step w b is = turn_keeps key shares ws views id v fit at ws w (balanced (v ∷ []) (w ∷ []) b) is

  pub cut_step : (left right : View) → ViewBalance key (v ∷ []) (left ∷ right ∷ []) → IsViewOf key left
      → IsViewOf key right → Fit key shares ws (set views id left ++ right ∷ [])
  cut_step left right b l r = cut_keeps key shares ws views id v fit at left right (balanced (v ∷ []) (left ∷ right ∷ []) b) l r

  pub join_step : (other : ℕ) (u both gone : View) → get_elem? (set views id both) other ≡ some u
      → ViewBalance key (v ∷ u ∷ []) (both ∷ gone ∷ []) → IsViewOf key both → IsViewOf key gone
      → Fit key shares ws (set (set views id both) other gone)
  join_step other u both gone there b i g =
      join_keeps key shares ws views id v fit at other u both gone there (balanced (v ∷ u ∷ []) (both ∷ gone ∷ []) b) i g
