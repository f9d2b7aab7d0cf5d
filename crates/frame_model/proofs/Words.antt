-- What each reader says after each write: of the place that was written what was put there, of every other what it said before.
use Rattle.std.proofs.Common.{◌≡◌, ◌≢◌, ◌⊎◌, inl, inr, ⊎_elim, ℕ, ◌+◌, ◌-◌, ◌*◌, ◌/◌, ◌%◌, ◌^◌, ◌<◌, ◌≤◌, max, List, length, get_or, take}
use Rattle.std.proofs.Common.{drop, set, refl, ap, sym, subst, ◌∙◌, arith, get_or-set_other, get_or-set_same, length-take, length-drop}
use Rattle.std.proofs.Common.{get_or-take, get_or-drop}
use Rattle.std.specs.List.{sum_by}
use Rattle.std.specs.Int.{bit_at}
use Rattle.std.specs.Int.Count.{ones}
use Rattle.std.proofs.lemmas.Bool.{cases_eq}
use Rattle.std.proofs.Math.ListN.{length-set}
use Rattle.std.proofs.Math.Seq.{take-set-lt}
use Rattle.std.proofs.lemmas.List.{drop-set-lt, drop-set-add, take-set-le}
use Rattle.std.proofs.lemmas.List.Sums.{sum_by-set}
use Rattle.frame_words.specs.Words.{free_in, flag_in, lane_in, lane_put, rest_in, local_word}
use Rattle.frame_model.specs.declared.key.Key.{Key}
use Rattle.frame_model.specs.Key.{tree_count, children_in, tree_of_child}
use Rattle.frame_model.specs.Words.{first_tree, first_local, first_bits, entry_place, tree_place, local_place, bits_place, word_count, entry_of, free_of}
use Rattle.frame_model.specs.Words.{huge_of, tree_word_of, tree_free_of, reserved_of, local_word_of, rest_of, bit_word_of, bit_of, set_of}
use Rattle.frame_model.specs.Words.{held_of, held_in_tree, count_on, is_on, resting_on, cores_on, with_entry, with_tree, with_local}
use Rattle.frame_model.specs.Words.{with_bits, IsRest, AreInRange}
use Rattle.frame_model.proofs.Sums.{range_same, range_but}
use Rattle.frame_words.proofs.LaneLemmas.{lane_in-lane_put, lane_in-lane_put_other, lane_put-lt}

-- The places of the kinds of words lie apart.

module _ (key : Key) where
  pub entry-lt-tree : (c t : ℕ) → c < 8 * tree_count key → entry_place c < tree_place key t
  unfolding entry_place tree_place
  entry-lt-tree c t h = omega arith

  pub entry-lt-local : (c k : ℕ) → c < 8 * tree_count key → entry_place c < local_place key k
  unfolding entry_place local_place
  entry-lt-local c k h = omega arith

  pub entry-lt-bits : (c w : ℕ) → c < 8 * tree_count key → entry_place c < bits_place key w
  unfolding entry_place bits_place
  entry-lt-bits c w h = omega arith

  pub tree-lt-local : (t k : ℕ) → t < tree_count key → tree_place key t < local_place key k
  unfolding tree_place local_place
  tree-lt-local t k h = omega arith

  pub tree-lt-bits : (t w : ℕ) → t < tree_count key → tree_place key t < bits_place key w
  unfolding tree_place bits_place
  tree-lt-bits t w h = omega arith

  pub local-lt-bits : (k w : ℕ) → k < key.cores → local_place key k < bits_place key w
  unfolding local_place bits_place
  local-lt-bits k w h = omega arith

  pub bits-lt-count : (w : ℕ) → w < 8 * key.children → bits_place key w < word_count key
  unfolding bits_place word_count
  bits-lt-count w h = omega arith

  pub child-has-lane : (c : ℕ) → c < key.children → c < 8 * tree_count key
  child-has-lane c h = omega arith

-- One number of a list was written.

module _ (ws : List ℕ) (p n : ℕ) where
  at_else : (i : ℕ) → i ≢ p → get_or (set ws p n) i 0 ≡ get_or ws i 0
  at_else i ne = get_or-set_other ws p i n 0 ne

  at_here : p < length ws → get_or (set ws p n) p 0 ≡ n
  at_here h = get_or-set_same ws p n 0 h

  at_below : (b : ℕ) → p < length ws → n < b → (i : ℕ) → get_or ws i 0 < b → get_or (set ws p n) i 0 < b
  at_below b h l i m = ⊎_elim (λ (e : i ≡ p). omega (arith, at_here h, ap (λ j. get_or (set ws p n) j 0) e))
      (λ ne. omega (arith, at_else i ne)) (cases_eq i p)

-- What the readers say of a list in which the words of a child, of a core, and so on, are those of another.

module _ (key : Key) (ws new : List ℕ) where
  free_same : (c : ℕ) → entry_of new c ≡ entry_of ws c → free_of new c ≡ free_of ws c
  unfolding free_of
  free_same c e = ap free_in e

  huge_same : (c : ℕ) → entry_of new c ≡ entry_of ws c → huge_of new c ≡ huge_of ws c
  unfolding huge_of
  huge_same c e = ap flag_in e

  tree_free_same : (t : ℕ) → tree_word_of key new t ≡ tree_word_of key ws t
      → tree_free_of key new t ≡ tree_free_of key ws t
  unfolding tree_free_of
  tree_free_same t e = ap free_in e

  reserved_same : (t : ℕ) → tree_word_of key new t ≡ tree_word_of key ws t
      → reserved_of key new t ≡ reserved_of key ws t
  unfolding reserved_of
  reserved_same t e = ap flag_in e

  rest_same : (k : ℕ) → local_word_of key new k ≡ local_word_of key ws k
      → rest_of key new k ≡ rest_of key ws k
  unfolding rest_of
  rest_same k e = ap rest_in e

  resting_same : ((k : ℕ) → k < key.cores → local_word_of key new k ≡ local_word_of key ws k) → (t : ℕ)
      → resting_on key new t ≡ resting_on key ws t
  unfolding resting_on
  resting_same all t = range_same (λ k. count_on t (rest_of key ws k)) (λ k. count_on t (rest_of key new k)) 0 key.cores
      (λ k l h. ap (count_on t) (rest_same k (all k (omega arith))))

  cores_same : ((k : ℕ) → k < key.cores → local_word_of key new k ≡ local_word_of key ws k) → (t : ℕ)
      → cores_on key new t ≡ cores_on key ws t
  unfolding cores_on
  cores_same all t = range_same (λ k. is_on t (rest_of key ws k)) (λ k. is_on t (rest_of key new k)) 0 key.cores
      (λ k l h. ap (is_on t) (rest_same k (all k (omega arith))))

  bit_same : (x : ℕ) → bit_word_of key new (x / 64) ≡ bit_word_of key ws (x / 64)
      → bit_of key new x ≡ bit_of key ws x
  unfolding bit_of
  bit_same x e = ap (λ n. bit_at n (x % 64)) e

pub held_is : (key : Key) (ws : List ℕ) (c : ℕ)
    → held_of key ws c ≡ max (set_of key ws c) (512 * huge_of ws c)
unfolding held_of
held_is key ws c = refl

-- What is held in a tree when it changes in one child.
module _ (key : Key) (ws new : List ℕ) (c : ℕ) (h : c < key.children)
    (others : (d : ℕ) → d < key.children → d ≢ c → held_of key new d ≡ held_of key ws d) where
  pub tree_else : (t : ℕ) → t ≢ tree_of_child c → held_in_tree key new t ≡ held_in_tree key ws t
  unfolding held_in_tree
  tree_else t ne = range_same (held_of key ws) (held_of key new) (8 * t) (children_in key t)
      (λ d l r. others d (omega arith) (λ e. ne (omega arith)))

  pub tree_here : held_in_tree key new (tree_of_child c) + held_of key ws c ≡ held_in_tree key ws (tree_of_child c) + held_of key new c
  unfolding held_in_tree
  tree_here = range_but (held_of key ws) (held_of key new) (8 * (c / 8)) (children_in key (c / 8)) c (omega arith) (omega arith)
      (λ d l r ne. others d (omega arith) ne)

pub tree_same : (key : Key) (ws new : List ℕ)
    → ((d : ℕ) → d < key.children → held_of key new d ≡ held_of key ws d) → (t : ℕ)
    → held_in_tree key new t ≡ held_in_tree key ws t
unfolding held_in_tree
tree_same key ws new all t = range_same (held_of key ws) (held_of key new) (8 * t) (children_in key t) (λ d l r. all d (omega arith))

-- What the words say once the entry of the child c is e.
pub record EntryWritten (key : Key) (ws : List ℕ) (c e : ℕ) (new : List ℕ) : Type 0 where
  pub free_here : free_of new c ≡ free_in e
  pub huge_here : huge_of new c ≡ flag_in e
  pub free_else : (d : ℕ) → d ≢ c → free_of new d ≡ free_of ws d
  pub huge_else : (d : ℕ) → d ≢ c → huge_of new d ≡ huge_of ws d
  pub bits : (x : ℕ) → bit_of key new x ≡ bit_of key ws x
  pub sets : (d : ℕ) → set_of key new d ≡ set_of key ws d
  pub tree_free : (t : ℕ) → tree_free_of key new t ≡ tree_free_of key ws t
  pub reserved : (t : ℕ) → reserved_of key new t ≡ reserved_of key ws t
  pub resting : (t : ℕ) → resting_on key new t ≡ resting_on key ws t
  pub cores : (t : ℕ) → cores_on key new t ≡ cores_on key ws t
  pub held_else : (d : ℕ) → d ≢ c → held_of key new d ≡ held_of key ws d
  pub held_here : held_of key new c ≡ max (set_of key ws c) (512 * flag_in e)
  pub in_range : free_in e ≤ 512 → flag_in e ≤ 1 → AreInRange key new

module _ (key : Key) (ws : List ℕ) (c e : ℕ) (r : AreInRange key ws) (h : c < key.children)
    (small : e < 65536) where
  e_lane : c < 8 * tree_count key
  e_lane = child-has-lane key c h

  e_room : entry_place c < length ws
  unfolding word_count entry_place
  e_room = omega (arith, r.count, e_lane)

  e_new : ℕ
  e_new = lane_put (get_or ws (entry_place c) 0) c e

  e_word : (i : ℕ) → i ≢ entry_place c → get_or (with_entry ws c e) i 0 ≡ get_or ws i 0
  unfolding with_entry
  e_word i ne = at_else ws (entry_place c) (lane_put (get_or ws (entry_place c) 0) c e) i ne

  e_there : get_or (with_entry ws c e) (entry_place c) 0 ≡ lane_put (get_or ws (entry_place c) 0) c e
  unfolding with_entry
  e_there = at_here ws (entry_place c) (lane_put (get_or ws (entry_place c) 0) c e) e_room

  entry_here : entry_of (with_entry ws c e) c ≡ e
  unfolding entry_of
  entry_here = ap (λ n. lane_in n c) e_there ∙ lane_in-lane_put (get_or ws (entry_place c) 0) c e small

  entry_beside : (d : ℕ) → d ≢ c → d / 4 ≡ c / 4 → entry_of (with_entry ws c e) d ≡ entry_of ws d
  unfolding entry_of entry_place
  entry_beside d ne s =
      let lanes : d % 4 ≢ c % 4 = (λ q. ne (omega arith)) in
      let p : entry_place d ≡ entry_place c = omega arith in
      ap (λ i. lane_in (get_or (with_entry ws c e) i 0) d) p ∙ ap (λ n. lane_in n d) e_there
      ∙ lane_in-lane_put_other (get_or ws (entry_place c) 0) c d e small lanes
      ∙ ap (λ i. lane_in (get_or ws i 0) d) (sym p)

  entry_far : (d : ℕ) → d / 4 ≢ c / 4 → entry_of (with_entry ws c e) d ≡ entry_of ws d
  unfolding entry_of entry_place
  entry_far d ne = ap (λ n. lane_in n d) (e_word (entry_place d) (λ q. ne (omega arith)))

  entry_else : (d : ℕ) → d ≢ c → entry_of (with_entry ws c e) d ≡ entry_of ws d
  entry_else d ne = ⊎_elim (λ s. entry_beside d ne s) (λ f. entry_far d f) (cases_eq (d / 4) (c / 4))

  e_tree : (t : ℕ) → tree_word_of key (with_entry ws c e) t ≡ tree_word_of key ws t
  unfolding tree_word_of
  e_tree t = e_word (tree_place key t) (λ q. omega (arith, entry-lt-tree key c t e_lane))

  e_local : (k : ℕ) → local_word_of key (with_entry ws c e) k ≡ local_word_of key ws k
  unfolding local_word_of
  e_local k = e_word (local_place key k) (λ q. omega (arith, entry-lt-local key c k e_lane))

  e_bits : (w : ℕ) → bit_word_of key (with_entry ws c e) w ≡ bit_word_of key ws w
  unfolding bit_word_of
  e_bits w = e_word (bits_place key w) (λ q. omega (arith, entry-lt-bits key c w e_lane))

  e_sets : (d : ℕ) → set_of key (with_entry ws c e) d ≡ set_of key ws d
  unfolding set_of with_entry
  e_sets d =
      ap (λ xs. sum_by ones (take 8 xs)) (drop-set-lt (bits_place key (8 * d)) ws (entry_place c)
      (lane_put (get_or ws (entry_place c) 0) c e) (entry-lt-bits key c (8 * d) e_lane))

  e_count : length (with_entry ws c e) ≡ length ws
  unfolding with_entry
  e_count = length-set ws (entry_place c) (lane_put (get_or ws (entry_place c) 0) c e)

  e_lanes : (d : ℕ) → d < 8 * tree_count key → get_or (with_entry ws c e) (entry_place d) 0 < 2 ^ 64
  unfolding with_entry
  e_lanes d q = at_below ws (entry_place c) (lane_put (get_or ws (entry_place c) 0) c e) (2 ^ 64) e_room
      (lane_put-lt (get_or ws (entry_place c) 0) c e (r.entry_words c e_lane) small) (entry_place d) (r.entry_words d q)

  e_anchor : (i : ℕ) → i < 8 → i ≢ entry_place c
  unfolding entry_place
  e_anchor i q s = omega arith

  e_behind : (t i : ℕ) → 1 < i → i < 8 → entry_place (8 * t) + i ≢ entry_place c
  unfolding entry_place
  e_behind t i l m s = omega arith

  e_between : (i : ℕ) → tree_place key (tree_count key) + i ≢ entry_place c
  e_between i s = omega (arith, entry-lt-tree key c (tree_count key) e_lane)

  e_beside : (k i : ℕ) → local_place key k + i ≢ entry_place c
  e_beside k i s = omega (arith, entry-lt-local key c k e_lane)

  e_free_here : free_of (with_entry ws c e) c ≡ free_in e
  unfolding free_of
  e_free_here = ap free_in entry_here

  e_huge_here : huge_of (with_entry ws c e) c ≡ flag_in e
  unfolding huge_of
  e_huge_here = ap flag_in entry_here

  pub entry_written : EntryWritten key ws c e (with_entry ws c e)
  entry_written =
      let new : List ℕ = with_entry ws c e in
      record {
        free_here = e_free_here;
        huge_here = e_huge_here;
        free_else = λ d n. free_same key ws new d (entry_else d n);
        huge_else = λ d n. huge_same key ws new d (entry_else d n);
        bits = λ x. bit_same key ws new x (e_bits (x / 64));
        sets = e_sets;
        tree_free = λ t. tree_free_same key ws new t (e_tree t);
        reserved = λ t. reserved_same key ws new t (e_tree t);
        resting = resting_same key ws new (λ k q. e_local k);
        cores = cores_same key ws new (λ k q. e_local k);
        held_else = λ d n. omega (
          arith,
          held_is key ws d,
          held_is key new d,
          e_sets d,
          huge_same key ws new d (entry_else d n),
        );
        held_here = omega (arith, held_is key new c, e_sets c, e_huge_here);
        in_range = λ f u. record {
          count = e_count ∙ r.count;
          anchor = λ i q. e_word i (e_anchor i q) ∙ r.anchor i q;
          entry_words = e_lanes;
          free = λ d q. ⊎_elim (λ s. omega (arith, e_free_here, ap (free_of new) s))
              (λ n. omega (arith, free_same key ws new d (entry_else d n), r.free d q)) (cases_eq d c);
          huge = λ d q. ⊎_elim (λ s. omega (arith, e_huge_here, ap (huge_of new) s))
              (λ n. omega (arith, huge_same key ws new d (entry_else d n), r.huge d q)) (cases_eq d c);
          absent = λ d low q. entry_else d (λ s. omega arith) ∙ r.absent d low q;
          behind = λ u i q l m. e_word (entry_place (8 * u) + i) (e_behind u i l m) ∙ r.behind u i q l m;
          tree_free = λ t q. omega (arith, tree_free_same key ws new t (e_tree t), r.tree_free t q);
          reserved = λ t q. omega (arith, reserved_same key ws new t (e_tree t), r.reserved t q);
          locals = λ k q. e_local k ∙ r.locals k q ∙ ap local_word (sym (rest_same key ws new k (e_local k)));
          rests = λ k q. subst (IsRest key) (sym (rest_same key ws new k (e_local k))) (r.rests k q);
          bits = λ w q. omega (arith, e_bits w, r.bits w q);
          between = λ i q. e_word (tree_place key (tree_count key) + i) (e_between i) ∙ r.between i q;
          beside = λ k i q l m. e_word (local_place key k + i) (e_beside k i) ∙ r.beside k i q l m;
        };
      }

-- What the words say once the word of the tree t is n.
pub record TreeWritten (key : Key) (ws : List ℕ) (t n : ℕ) (new : List ℕ) : Type 0 where
  pub free_here : tree_free_of key new t ≡ free_in n
  pub reserved_here : reserved_of key new t ≡ flag_in n
  pub free_else : (u : ℕ) → u ≢ t → tree_free_of key new u ≡ tree_free_of key ws u
  pub reserved_else : (u : ℕ) → u ≢ t → reserved_of key new u ≡ reserved_of key ws u
  pub free : (d : ℕ) → d < key.children → free_of new d ≡ free_of ws d
  pub huge : (d : ℕ) → d < key.children → huge_of new d ≡ huge_of ws d
  pub bits : (x : ℕ) → bit_of key new x ≡ bit_of key ws x
  pub sets : (d : ℕ) → set_of key new d ≡ set_of key ws d
  pub resting : (u : ℕ) → resting_on key new u ≡ resting_on key ws u
  pub cores : (u : ℕ) → cores_on key new u ≡ cores_on key ws u
  pub held : (d : ℕ) → d < key.children → held_of key new d ≡ held_of key ws d
  pub in_range : free_in n ≤ 4096 → flag_in n ≤ 1 → AreInRange key new

module _ (key : Key) (ws : List ℕ) (t n : ℕ) (r : AreInRange key ws) (h : t < tree_count key) where
  t_room : tree_place key t < length ws
  unfolding word_count tree_place
  t_room = omega (arith, r.count)

  t_word : (i : ℕ) → i ≢ tree_place key t → get_or (with_tree key ws t n) i 0 ≡ get_or ws i 0
  unfolding with_tree
  t_word i ne = at_else ws (tree_place key t) n i ne

  t_there : tree_word_of key (with_tree key ws t n) t ≡ n
  unfolding with_tree tree_word_of
  t_there = at_here ws (tree_place key t) n t_room

  t_else : (u : ℕ) → u ≢ t → tree_word_of key (with_tree key ws t n) u ≡ tree_word_of key ws u
  unfolding tree_word_of tree_place
  t_else u ne = t_word (first_tree key + u) (λ q. ne (omega arith))

  t_free_here : tree_free_of key (with_tree key ws t n) t ≡ free_in n
  unfolding tree_free_of
  t_free_here = ap free_in t_there

  t_reserved_here : reserved_of key (with_tree key ws t n) t ≡ flag_in n
  unfolding reserved_of
  t_reserved_here = ap flag_in t_there

  t_lanes : (d : ℕ) → d < 8 * tree_count key
      → get_or (with_tree key ws t n) (entry_place d) 0 ≡ get_or ws (entry_place d) 0
  t_lanes d q = t_word (entry_place d) (λ s. omega (arith, entry-lt-tree key d t q))

  t_entry : (d : ℕ) → d < 8 * tree_count key → entry_of (with_tree key ws t n) d ≡ entry_of ws d
  unfolding entry_of
  t_entry d q = ap (λ m. lane_in m d) (t_lanes d q)

  t_local : (k : ℕ) → local_word_of key (with_tree key ws t n) k ≡ local_word_of key ws k
  unfolding local_word_of
  t_local k = t_word (local_place key k) (λ q. omega (arith, tree-lt-local key t k h))

  t_bits : (w : ℕ) → bit_word_of key (with_tree key ws t n) w ≡ bit_word_of key ws w
  unfolding bit_word_of
  t_bits w = t_word (bits_place key w) (λ q. omega (arith, tree-lt-bits key t w h))

  t_sets : (d : ℕ) → set_of key (with_tree key ws t n) d ≡ set_of key ws d
  unfolding set_of with_tree
  t_sets d = ap (λ xs. sum_by ones (take 8 xs)) (drop-set-lt (bits_place key (8 * d)) ws (tree_place key t) n
      (tree-lt-bits key t (8 * d) h))

  t_count : length (with_tree key ws t n) ≡ length ws
  unfolding with_tree
  t_count = length-set ws (tree_place key t) n

  t_anchor : (i : ℕ) → i < 8 → i ≢ tree_place key t
  unfolding tree_place
  t_anchor i q s = omega arith

  t_behind : (u i : ℕ) → u < tree_count key → i < 8 → entry_place (8 * u) + i ≢ tree_place key t
  unfolding entry_place tree_place
  t_behind u i q m s = omega arith

  t_between : (i : ℕ) → tree_place key (tree_count key) + i ≢ tree_place key t
  unfolding tree_place
  t_between i s = omega (arith, h)

  t_beside : (k i : ℕ) → local_place key k + i ≢ tree_place key t
  t_beside k i s = omega (arith, tree-lt-local key t k h)

  t_free : (d : ℕ) → d < key.children → free_of (with_tree key ws t n) d ≡ free_of ws d
  t_free d q = free_same key ws (with_tree key ws t n) d (t_entry d (child-has-lane key d q))

  t_huge : (d : ℕ) → d < key.children → huge_of (with_tree key ws t n) d ≡ huge_of ws d
  t_huge d q = huge_same key ws (with_tree key ws t n) d (t_entry d (child-has-lane key d q))

  pub tree_written : TreeWritten key ws t n (with_tree key ws t n)
  tree_written =
      let new : List ℕ = with_tree key ws t n in
      record {
        free_here = t_free_here;
        reserved_here = t_reserved_here;
        free_else = λ u ne. tree_free_same key ws new u (t_else u ne);
        reserved_else = λ u ne. reserved_same key ws new u (t_else u ne);
        free = t_free;
        huge = t_huge;
        bits = λ x. bit_same key ws new x (t_bits (x / 64));
        sets = t_sets;
        resting = resting_same key ws new (λ k q. t_local k);
        cores = cores_same key ws new (λ k q. t_local k);
        held = λ d q. omega (arith, held_is key ws d, held_is key new d, t_sets d, t_huge d q);
        in_range = λ f u. record {
          count = t_count ∙ r.count;
          anchor = λ i q. t_word i (t_anchor i q) ∙ r.anchor i q;
          entry_words = λ d q. omega (arith, t_lanes d q, r.entry_words d q);
          free = λ d q. omega (arith, t_free d q, r.free d q);
          huge = λ d q. omega (arith, t_huge d q, r.huge d q);
          absent = λ d low q. t_entry d q ∙ r.absent d low q;
          behind = λ u i q l m. t_word (entry_place (8 * u) + i) (t_behind u i q m) ∙ r.behind u i q l m;
          tree_free = λ v q. ⊎_elim (λ s. omega (arith, t_free_here, ap (tree_free_of key new) s))
              (λ ne. omega (arith, tree_free_same key ws new v (t_else v ne), r.tree_free v q)) (cases_eq v t);
          reserved = λ v q. ⊎_elim (λ s. omega (arith, t_reserved_here, ap (reserved_of key new) s))
              (λ ne. omega (arith, reserved_same key ws new v (t_else v ne), r.reserved v q)) (cases_eq v t);
          locals = λ k q. t_local k ∙ r.locals k q ∙ ap local_word (sym (rest_same key ws new k (t_local k)));
          rests = λ k q. subst (IsRest key) (sym (rest_same key ws new k (t_local k))) (r.rests k q);
          bits = λ w q. omega (arith, t_bits w, r.bits w q);
          between = λ i q. t_word (tree_place key (tree_count key) + i) (t_between i) ∙ r.between i q;
          beside = λ k i q l m. t_word (local_place key k + i) (t_beside k i) ∙ r.beside k i q l m;
        };
      }

-- What the words say once the local word of the core k is n.
pub record LocalWritten (key : Key) (ws : List ℕ) (k n : ℕ) (new : List ℕ) : Type 0 where
  pub resting : (t : ℕ)
      → resting_on key new t + count_on t (rest_of key ws k) ≡ resting_on key ws t + count_on t (rest_in n)
  pub cores : (t : ℕ)
      → cores_on key new t + is_on t (rest_of key ws k) ≡ cores_on key ws t + is_on t (rest_in n)
  pub rest_here : rest_of key new k ≡ rest_in n
  pub rest_else : (j : ℕ) → j ≢ k → rest_of key new j ≡ rest_of key ws j
  pub free : (d : ℕ) → d < key.children → free_of new d ≡ free_of ws d
  pub huge : (d : ℕ) → d < key.children → huge_of new d ≡ huge_of ws d
  pub bits : (x : ℕ) → bit_of key new x ≡ bit_of key ws x
  pub sets : (d : ℕ) → set_of key new d ≡ set_of key ws d
  pub tree_free : (t : ℕ) → t < tree_count key → tree_free_of key new t ≡ tree_free_of key ws t
  pub reserved : (t : ℕ) → t < tree_count key → reserved_of key new t ≡ reserved_of key ws t
  pub held : (d : ℕ) → d < key.children → held_of key new d ≡ held_of key ws d
  pub in_range : n ≡ local_word (rest_in n) → IsRest key (rest_in n) → AreInRange key new

module _ (key : Key) (ws : List ℕ) (k n : ℕ) (r : AreInRange key ws) (h : k < key.cores) where
  l_room : local_place key k < length ws
  unfolding word_count local_place
  l_room = omega (arith, r.count)

  l_word : (i : ℕ) → i ≢ local_place key k → get_or (with_local key ws k n) i 0 ≡ get_or ws i 0
  unfolding with_local
  l_word i ne = at_else ws (local_place key k) n i ne

  l_there : local_word_of key (with_local key ws k n) k ≡ n
  unfolding with_local local_word_of
  l_there = at_here ws (local_place key k) n l_room

  l_rest : rest_of key (with_local key ws k n) k ≡ rest_in n
  unfolding rest_of
  l_rest = ap rest_in l_there

  l_else : (j : ℕ) → j ≢ k → local_word_of key (with_local key ws k n) j ≡ local_word_of key ws j
  unfolding local_word_of local_place
  l_else j ne = l_word (first_local key + 8 * j) (λ q. ne (omega arith))

  l_rest_else : (j : ℕ) → j ≢ k → rest_of key (with_local key ws k n) j ≡ rest_of key ws j
  l_rest_else j ne = rest_same key ws (with_local key ws k n) j (l_else j ne)

  l_resting : (t : ℕ)
      → resting_on key (with_local key ws k n) t + count_on t (rest_of key ws k)
      ≡ resting_on key ws t + count_on t (rest_in n)
  unfolding resting_on
  l_resting t =
      let new : List ℕ = with_local key ws k n in
      omega (
        arith,
        range_but (λ j. count_on t (rest_of key ws j)) (λ j. count_on t (rest_of key new j)) 0 key.cores k (omega arith)
            (omega arith) (λ j l q ne. ap (count_on t) (l_rest_else j ne)),
        ap (count_on t) l_rest,
      )

  l_cores : (t : ℕ)
      → cores_on key (with_local key ws k n) t + is_on t (rest_of key ws k) ≡ cores_on key ws t + is_on t (rest_in n)
  unfolding cores_on
  l_cores t =
      let new : List ℕ = with_local key ws k n in
      omega (
        arith,
        range_but (λ j. is_on t (rest_of key ws j)) (λ j. is_on t (rest_of key new j)) 0 key.cores k (omega arith)
            (omega arith) (λ j l q ne. ap (is_on t) (l_rest_else j ne)),
        ap (is_on t) l_rest,
      )

  l_lanes : (d : ℕ) → d < 8 * tree_count key
      → get_or (with_local key ws k n) (entry_place d) 0 ≡ get_or ws (entry_place d) 0
  l_lanes d q = l_word (entry_place d) (λ s. omega (arith, entry-lt-local key d k q))

  l_entry : (d : ℕ) → d < 8 * tree_count key → entry_of (with_local key ws k n) d ≡ entry_of ws d
  unfolding entry_of
  l_entry d q = ap (λ m. lane_in m d) (l_lanes d q)

  l_tree : (t : ℕ) → t < tree_count key → tree_word_of key (with_local key ws k n) t ≡ tree_word_of key ws t
  unfolding tree_word_of
  l_tree t q = l_word (tree_place key t) (λ s. omega (arith, tree-lt-local key t k q))

  l_bits : (w : ℕ) → bit_word_of key (with_local key ws k n) w ≡ bit_word_of key ws w
  unfolding bit_word_of
  l_bits w = l_word (bits_place key w) (λ q. omega (arith, local-lt-bits key k w h))

  l_sets : (d : ℕ) → set_of key (with_local key ws k n) d ≡ set_of key ws d
  unfolding set_of with_local
  l_sets d = ap (λ xs. sum_by ones (take 8 xs)) (drop-set-lt (bits_place key (8 * d)) ws (local_place key k) n
      (local-lt-bits key k (8 * d) h))

  l_count : length (with_local key ws k n) ≡ length ws
  unfolding with_local
  l_count = length-set ws (local_place key k) n

  l_anchor : (i : ℕ) → i < 8 → i ≢ local_place key k
  unfolding local_place
  l_anchor i q s = omega arith

  l_behind : (u i : ℕ) → u < tree_count key → i < 8 → entry_place (8 * u) + i ≢ local_place key k
  unfolding entry_place local_place
  l_behind u i q m s = omega arith

  l_between : (i : ℕ) → i < 7 → tree_place key (tree_count key) + i ≢ local_place key k
  unfolding tree_place local_place
  l_between i q s = omega arith

  l_beside : (j i : ℕ) → 0 < i → i < 8 → local_place key j + i ≢ local_place key k
  unfolding local_place
  l_beside j i l m s = omega arith

  l_free : (d : ℕ) → d < key.children → free_of (with_local key ws k n) d ≡ free_of ws d
  l_free d q = free_same key ws (with_local key ws k n) d (l_entry d (child-has-lane key d q))

  l_huge : (d : ℕ) → d < key.children → huge_of (with_local key ws k n) d ≡ huge_of ws d
  l_huge d q = huge_same key ws (with_local key ws k n) d (l_entry d (child-has-lane key d q))

  l_locals : n ≡ local_word (rest_in n) → (j : ℕ) → j < key.cores → (j ≡ k) ⊎ (j ≢ k)
      → local_word_of key (with_local key ws k n) j ≡ local_word (rest_of key (with_local key ws k n) j)
  l_locals e j q (inl s) = ap (local_word_of key (with_local key ws k n)) s ∙ l_there ∙ e ∙ ap local_word (sym l_rest)
      ∙ ap (λ i. local_word (rest_of key (with_local key ws k n) i)) (sym s)
  l_locals e j q (inr ne) = l_else j ne ∙ r.locals j q ∙ ap local_word (sym (l_rest_else j ne))

  l_rests : IsRest key (rest_in n) → (j : ℕ) → j < key.cores → (j ≡ k) ⊎ (j ≢ k)
      → IsRest key (rest_of key (with_local key ws k n) j)
  l_rests i j q (inl s) = subst (IsRest key) (sym (ap (rest_of key (with_local key ws k n)) s ∙ l_rest)) i
  l_rests i j q (inr ne) = subst (IsRest key) (sym (l_rest_else j ne)) (r.rests j q)

  pub local_written : LocalWritten key ws k n (with_local key ws k n)
  local_written =
      let new : List ℕ = with_local key ws k n in
      record {
        resting = l_resting;
        cores = l_cores;
        rest_here = l_rest;
        rest_else = l_rest_else;
        free = l_free;
        huge = l_huge;
        bits = λ x. bit_same key ws new x (l_bits (x / 64));
        sets = l_sets;
        tree_free = λ t q. tree_free_same key ws new t (l_tree t q);
        reserved = λ t q. reserved_same key ws new t (l_tree t q);
        held = λ d q. omega (arith, held_is key ws d, held_is key new d, l_sets d, l_huge d q);
        in_range = λ e i. record {
          count = l_count ∙ r.count;
          anchor = λ j q. l_word j (l_anchor j q) ∙ r.anchor j q;
          entry_words = λ d q. omega (arith, l_lanes d q, r.entry_words d q);
          free = λ d q. omega (arith, l_free d q, r.free d q);
          huge = λ d q. omega (arith, l_huge d q, r.huge d q);
          absent = λ d low q. l_entry d q ∙ r.absent d low q;
          behind = λ u i q l m. l_word (entry_place (8 * u) + i) (l_behind u i q m) ∙ r.behind u i q l m;
          tree_free = λ t q. omega (arith, tree_free_same key ws new t (l_tree t q), r.tree_free t q);
          reserved = λ t q. omega (arith, reserved_same key ws new t (l_tree t q), r.reserved t q);
          locals = λ j q. l_locals e j q (cases_eq j k);
          rests = λ j q. l_rests i j q (cases_eq j k);
          bits = λ w q. omega (arith, l_bits w, r.bits w q);
          between = λ j q. l_word (tree_place key (tree_count key) + j) (l_between j q) ∙ r.between j q;
          beside = λ j o q l m. l_word (local_place key j + o) (l_beside j o l m) ∙ r.beside j o q l m;
        };
      }

-- What the words say once the bit word w is n.
pub record BitsWritten (key : Key) (ws : List ℕ) (w n : ℕ) (new : List ℕ) : Type 0 where
  pub bits_here : (x : ℕ) → x / 64 ≡ w → bit_of key new x ≡ bit_at n (x % 64)
  pub bits_else : (x : ℕ) → x / 64 ≢ w → bit_of key new x ≡ bit_of key ws x
  pub sets_here : set_of key new (w / 8) + ones (bit_word_of key ws w) ≡ set_of key ws (w / 8) + ones n
  pub sets_else : (d : ℕ) → d ≢ w / 8 → set_of key new d ≡ set_of key ws d
  pub word_here : bit_word_of key new w ≡ n
  pub word_else : (v : ℕ) → v ≢ w → bit_word_of key new v ≡ bit_word_of key ws v
  pub free : (d : ℕ) → d < key.children → free_of new d ≡ free_of ws d
  pub huge : (d : ℕ) → d < key.children → huge_of new d ≡ huge_of ws d
  pub tree_free : (t : ℕ) → t < tree_count key → tree_free_of key new t ≡ tree_free_of key ws t
  pub reserved : (t : ℕ) → t < tree_count key → reserved_of key new t ≡ reserved_of key ws t
  pub resting : (t : ℕ) → resting_on key new t ≡ resting_on key ws t
  pub cores : (t : ℕ) → cores_on key new t ≡ cores_on key ws t
  pub held_else : (d : ℕ) → d < key.children → d ≢ w / 8 → held_of key new d ≡ held_of key ws d
  pub in_range : n < 2 ^ 64 → AreInRange key new

-- the sum of eight words from a place on, once one number of the list was written
module _ (ws : List ℕ) (p n from : ℕ) where
  eight_other : (p < from) ⊎ (from + 8 ≤ p)
      → sum_by ones (take 8 (drop from (set ws p n))) ≡ sum_by ones (take 8 (drop from ws))
  eight_other (inl h) = rw drop-set-lt refl
  eight_other (inr h) =
      let e : p ≡ from + (p - from) = omega arith in
      let far : 8 ≤ p - from = omega arith in
      ap (λ j. sum_by ones (take 8 (drop from (set ws j n)))) e ∙ rw (drop-set-add, take-set-le) refl

  eight_here : from ≤ p → p < from + 8 → from + 8 ≤ length ws
      → sum_by ones (take 8 (drop from (set ws p n))) + ones (get_or ws p 0)
      ≡ sum_by ones (take 8 (drop from ws)) + ones n
  eight_here l h room =
      let w : ℕ = p - from in
      let e : p ≡ from + w = omega arith in
      let below : w < 8 = omega arith in
      let eight : List ℕ = take 8 (drop from ws) in
      let a : take 8 (drop from (set ws p n)) ≡ set eight w n = ap (λ j. take 8 (drop from (set ws j n))) e
      ∙ rw (drop-set-add, take-set-lt) refl in
      let len : w < length eight = simp (length-take, length-drop) (omega arith) in
      let got : get_or eight w 0 ≡ get_or ws p 0 = rw (get_or-take, get_or-drop) (ap (λ j. get_or ws j 0) (sym e)) in
      omega (arith, ap (sum_by ones) a, sum_by-set ones eight w n 0 len, ap ones got)

module _ (key : Key) (ws : List ℕ) (w n : ℕ) (r : AreInRange key ws) (h : w < 8 * key.children) where
  b_room : bits_place key w < length ws
  b_room = omega (arith, r.count, bits-lt-count key w h)

  b_word : (i : ℕ) → i ≢ bits_place key w → get_or (with_bits key ws w n) i 0 ≡ get_or ws i 0
  unfolding with_bits
  b_word i ne = at_else ws (bits_place key w) n i ne

  b_there : bit_word_of key (with_bits key ws w n) w ≡ n
  unfolding with_bits bit_word_of
  b_there = at_here ws (bits_place key w) n b_room

  b_else : (v : ℕ) → v ≢ w → bit_word_of key (with_bits key ws w n) v ≡ bit_word_of key ws v
  unfolding bit_word_of bits_place
  b_else v ne = b_word (first_bits key + v) (λ q. ne (omega arith))

  b_bit : (x : ℕ) → x / 64 ≡ w → bit_of key (with_bits key ws w n) x ≡ bit_at n (x % 64)
  unfolding bit_of
  b_bit x e = ap (λ j. bit_at (bit_word_of key (with_bits key ws w n) j) (x % 64)) e ∙ ap (λ m. bit_at m (x % 64)) b_there

  b_sets_here : set_of key (with_bits key ws w n) (w / 8) + ones (bit_word_of key ws w) ≡ set_of key ws (w / 8) + ones n
  unfolding set_of with_bits bit_word_of bits_place word_count
  b_sets_here =
      eight_here ws (first_bits key + w) n
      (first_bits key + 8 * (w / 8))
      (omega arith) (omega arith) (omega (arith, r.count))

  b_sets_else : (d : ℕ) → d ≢ w / 8 → set_of key (with_bits key ws w n) d ≡ set_of key ws d
  unfolding set_of with_bits bits_place
  b_sets_else d ne =
      eight_other ws (first_bits key + w) n
      (first_bits key + 8 * d) (grind arith)

  b_lanes : (d : ℕ) → d < 8 * tree_count key
      → get_or (with_bits key ws w n) (entry_place d) 0 ≡ get_or ws (entry_place d) 0
  b_lanes d q = b_word (entry_place d) (λ s. omega (arith, entry-lt-bits key d w q))

  b_entry : (d : ℕ) → d < 8 * tree_count key → entry_of (with_bits key ws w n) d ≡ entry_of ws d
  unfolding entry_of
  b_entry d q = ap (λ m. lane_in m d) (b_lanes d q)

  b_tree : (t : ℕ) → t < tree_count key → tree_word_of key (with_bits key ws w n) t ≡ tree_word_of key ws t
  unfolding tree_word_of
  b_tree t q = b_word (tree_place key t) (λ s. omega (arith, tree-lt-bits key t w q))

  b_local : (k : ℕ) → k < key.cores → local_word_of key (with_bits key ws w n) k ≡ local_word_of key ws k
  unfolding local_word_of
  b_local k q = b_word (local_place key k) (λ s. omega (arith, local-lt-bits key k w q))

  b_count : length (with_bits key ws w n) ≡ length ws
  unfolding with_bits
  b_count = length-set ws (bits_place key w) n

  b_anchor : (i : ℕ) → i < 8 → i ≢ bits_place key w
  unfolding bits_place
  b_anchor i q s = omega arith

  b_behind : (u i : ℕ) → u < tree_count key → i < 8 → entry_place (8 * u) + i ≢ bits_place key w
  unfolding entry_place bits_place
  b_behind u i q m s = omega arith

  b_between : (i : ℕ) → i < 7 → tree_place key (tree_count key) + i ≢ bits_place key w
  unfolding tree_place bits_place
  b_between i q s = omega arith

  b_beside : (k i : ℕ) → k < key.cores → i < 8 → local_place key k + i ≢ bits_place key w
  unfolding local_place bits_place
  b_beside k i q m s = omega arith

  b_free : (d : ℕ) → d < key.children → free_of (with_bits key ws w n) d ≡ free_of ws d
  b_free d q = free_same key ws (with_bits key ws w n) d (b_entry d (child-has-lane key d q))

  b_huge : (d : ℕ) → d < key.children → huge_of (with_bits key ws w n) d ≡ huge_of ws d
  b_huge d q = huge_same key ws (with_bits key ws w n) d (b_entry d (child-has-lane key d q))

  b_below : n < 2 ^ 64 → (v : ℕ) → v < 8 * key.children → (v ≡ w) ⊎ (v ≢ w)
      → bit_word_of key (with_bits key ws w n) v < 2 ^ 64
  b_below f v q (inl s) = omega (arith, b_there, ap (bit_word_of key (with_bits key ws w n)) s)
  b_below f v q (inr ne) = omega (arith, b_else v ne, r.bits v q)

  pub bits_written : BitsWritten key ws w n (with_bits key ws w n)
  bits_written =
      let new : List ℕ = with_bits key ws w n in
      record {
        bits_here = b_bit;
        bits_else = λ x ne. bit_same key ws new x (b_else (x / 64) ne);
        sets_here = b_sets_here;
        sets_else = b_sets_else;
        word_here = b_there;
        word_else = b_else;
        free = b_free;
        huge = b_huge;
        tree_free = λ t q. tree_free_same key ws new t (b_tree t q);
        reserved = λ t q. reserved_same key ws new t (b_tree t q);
        resting = resting_same key ws new b_local;
        cores = cores_same key ws new b_local;
        held_else = λ d q ne. omega (arith, held_is key ws d, held_is key new d, b_sets_else d ne, b_huge d q);
        in_range = λ f. record {
          count = b_count ∙ r.count;
          anchor = λ i q. b_word i (b_anchor i q) ∙ r.anchor i q;
          entry_words = λ d q. omega (arith, b_lanes d q, r.entry_words d q);
          free = λ d q. omega (arith, b_free d q, r.free d q);
          huge = λ d q. omega (arith, b_huge d q, r.huge d q);
          absent = λ d low q. b_entry d q ∙ r.absent d low q;
          behind = λ u i q l m. b_word (entry_place (8 * u) + i) (b_behind u i q m) ∙ r.behind u i q l m;
          tree_free = λ t q. omega (arith, tree_free_same key ws new t (b_tree t q), r.tree_free t q);
          reserved = λ t q. omega (arith, reserved_same key ws new t (b_tree t q), r.reserved t q);
          locals = λ k q. b_local k q ∙ r.locals k q ∙ ap local_word (sym (rest_same key ws new k (b_local k q)));
          rests = λ k q. subst (IsRest key) (sym (rest_same key ws new k (b_local k q))) (r.rests k q);
          bits = λ v q. b_below f v q (cases_eq v w);
          between = λ i q. b_word (tree_place key (tree_count key) + i) (b_between i q) ∙ r.between i q;
          beside = λ k i q l m. b_word (local_place key k + i) (b_beside k i q m) ∙ r.beside k i q l m;
        };
      }
