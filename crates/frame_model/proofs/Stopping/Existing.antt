-- Rebuilt words exist: they are made word by word, each from the words before.
use Rattle.std.proofs.Common.{◌≡◌, ⊎_elim, ℕ, zero, suc, ◌*◌, ◌/◌, ◌^◌, ◌<◌, ◌≤◌, List, None, refl, ap, subst, sym, ◌∙◌, arith}
use Rattle.std.proofs.lemmas.Bool.{cases_eq}
use Rattle.frame_words.specs.Words.{entry_word, free_in, flag_in, rest_in, local_word}
use Rattle.frame_words.proofs.WordLemmas.{free_in-entry_word, flag_in-entry_word, entry_word-lt, rest_in-zero}
use Rattle.frame_model.specs.declared.key.Key.{Key}
use Rattle.frame_model.specs.Key.{tree_count, children_in}
use Rattle.frame_model.specs.Words.{free_of, huge_of, tree_free_of, reserved_of, rest_of, bit_word_of, with_entry, with_tree, with_local}
use Rattle.frame_model.specs.Words.{with_bits, IsRest, AreInRange}
use Rattle.frame_model.specs.Rebuilt.{rebuilt_free, rebuilt_in_tree, rebuilt_bits, IsRebuilt}
use Rattle.frame_model.specs.Stops.{unsealed, EveryRebuildingExists, EveryMomentCanStop}
use Rattle.frame_model.proofs.OtherWords.{bit_word_of-with_entry, bit_word_of-with_tree, bit_word_of-with_local}
use Rattle.frame_model.proofs.Opening.{range_all}
use Rattle.frame_model.proofs.RebuiltLemmas.{rebuilt_free-set, rebuilt_free-huge, rebuilt_bits-set, rebuilt_bits-huge}
use Rattle.frame_model.proofs.ReportLemmas.{range_le}
use Rattle.frame_model.proofs.Stopping.Known.{Carries}
use Rattle.frame_model.proofs.HeldBack.{in_range_unsealed}
use Rattle.frame_model.proofs.Stopping.Survival.{fresh, opened_carries}
use Rattle.frame_model.proofs.Words.{entry_written, tree_written, local_written, bits_written}
use Rattle.frame_model.proofs.Zeros.{local_word-none}

-- the bit words below one, the children below one, and so on, are rebuilt
record RebuiltBelow (key : Key) (old : List ℕ) (word child tree core : ℕ) (new : List ℕ) : Type 0 where
  in_range : AreInRange key new
  huge : (c : ℕ) → c < key.children → huge_of new c ≡ huge_of old c
  bits : (w : ℕ) → w < word → bit_word_of key new w ≡ rebuilt_bits key old w
  free : (c : ℕ) → c < child → free_of new c ≡ rebuilt_free key old c
  trees : (t : ℕ) → t < tree → tree_free_of key new t ≡ rebuilt_in_tree key old t
  unreserved : (t : ℕ) → t < tree → reserved_of key new t ≡ 0
  resting : (k : ℕ) → k < core → rest_of key new k ≡ None

module _ (key : Key) (old : List ℕ) (was : AreInRange key old) where
  few_free : (c : ℕ) → rebuilt_free key old c ≤ 512
  few_free c =
      ⊎_elim
      (λ e. omega (arith, rebuilt_free-set key old c e))
      (λ ne. omega (arith, rebuilt_free-huge key old c ne))
      (cases_eq (huge_of old c) 0)

  few_in_tree : (t : ℕ) → rebuilt_in_tree key old t ≤ 4096
  unfolding rebuilt_in_tree
  few_in_tree t = omega (
    arith,
    range_le (rebuilt_free key old) (λ _. 512) (8 * t) (children_in key t) (λ c l h. few_free c),
    range_all (λ _. 512) 512 (8 * t) (children_in key t) (λ c l h. refl),
  )

  small_bits : (w : ℕ) → w < 8 * key.children → rebuilt_bits key old w < 2 ^ 64
  small_bits w h =
      ⊎_elim
      (λ e. omega (arith, rebuilt_bits-set key old w e, was.bits w h))
      (λ ne. omega (arith, rebuilt_bits-huge key old w ne))
      (cases_eq (huge_of old (w / 8)) 0)

  words : (n : ℕ) → n ≤ 8 * key.children → (new : List ℕ) × RebuiltBelow key old n 0 0 0 new
  words zero h = (
    old,
    record {
      in_range = was;
      huge = λ c q. refl;
      bits = λ w q. absurd (omega arith);
      free = λ c q. absurd (omega arith);
      trees = λ t q. absurd (omega arith);
      unreserved = λ t q. absurd (omega arith);
      resting = λ k q. absurd (omega arith);
    },
  )
  words (suc n) h =
      let mid = words n (omega arith) in
      let ws : List ℕ = mid.0 in
      let r : RebuiltBelow key old n 0 0 0 ws = mid.1 in
      let b = bits_written key ws n (rebuilt_bits key old n) r.in_range (omega arith) in (
        with_bits key ws n (rebuilt_bits key old n),
        record {
          in_range = b.in_range (small_bits n (omega arith));
          huge = λ c q. b.huge c q ∙ r.huge c q;
          bits = λ w q. ⊎_elim
              (λ e. ap (bit_word_of key (with_bits key ws n (rebuilt_bits key old n))) e ∙ b.word_here ∙ ap (rebuilt_bits key old) (sym e))
              (λ ne. b.word_else w ne ∙ r.bits w (omega arith))
              (cases_eq w n);
          free = λ c q. absurd (omega arith);
          trees = λ t q. absurd (omega arith);
          unreserved = λ t q. absurd (omega arith);
          resting = λ k q. absurd (omega arith);
        },
      )

  entries : (n : ℕ) → n ≤ key.children → (new : List ℕ) × RebuiltBelow key old (8 * key.children) n 0 0 new
  entries zero h = words (8 * key.children) (omega arith)
  entries (suc n) h =
      let mid = entries n (omega arith) in
      let ws : List ℕ = mid.0 in
      let r : RebuiltBelow key old (8 * key.children) n 0 0 ws = mid.1 in
      let here : n < key.children = omega arith in
      let up : huge_of old n ≤ 1 = was.huge n here in
      let e : ℕ = entry_word (rebuilt_free key old n) (huge_of old n) in
      let few : rebuilt_free key old n < 2 ^ 15 = omega (arith, few_free n) in
      let new : List ℕ = with_entry ws n e in
      let free : free_in e ≡ rebuilt_free key old n = free_in-entry_word (rebuilt_free key old n) (huge_of old n) few in
      let flag : flag_in e ≡ huge_of old n = flag_in-entry_word (rebuilt_free key old n) (huge_of old n) few in
      let w = entry_written key ws n e r.in_range here (entry_word-lt (rebuilt_free key old n) (huge_of old n) few up) in (
        new,
        record {
          in_range = w.in_range (omega (arith, free, few_free n)) (omega (arith, flag, up));
          huge = λ c q. ⊎_elim
              (λ s. ap (huge_of new) s ∙ w.huge_here ∙ flag ∙ ap (huge_of old) (sym s))
              (λ ne. w.huge_else c ne ∙ r.huge c q)
              (cases_eq c n);
          bits = λ v q. bit_word_of-with_entry key ws n e v here ∙ r.bits v q;
          free = λ c q. ⊎_elim
              (λ s. ap (free_of new) s ∙ w.free_here ∙ free ∙ ap (rebuilt_free key old) (sym s))
              (λ ne. w.free_else c ne ∙ r.free c (omega arith))
              (cases_eq c n);
          trees = λ t q. absurd (omega arith);
          unreserved = λ t q. absurd (omega arith);
          resting = λ k q. absurd (omega arith);
        },
      )

  all_trees : (n : ℕ) → n ≤ tree_count key
      → (new : List ℕ) × RebuiltBelow key old (8 * key.children) key.children n 0 new
  all_trees zero h = entries key.children (omega arith)
  all_trees (suc n) h =
      let mid = all_trees n (omega arith) in
      let ws : List ℕ = mid.0 in
      let r : RebuiltBelow key old (8 * key.children) key.children n 0 ws = mid.1 in
      let here : n < tree_count key = omega arith in
      let e : ℕ = entry_word (rebuilt_in_tree key old n) 0 in
      let few : rebuilt_in_tree key old n < 2 ^ 15 = omega (arith, few_in_tree n) in
      let new : List ℕ = with_tree key ws n e in
      let free : free_in e ≡ rebuilt_in_tree key old n = free_in-entry_word (rebuilt_in_tree key old n) 0 few in
      let flag : flag_in e ≡ 0 = flag_in-entry_word (rebuilt_in_tree key old n) 0 few in
      let w = tree_written key ws n e r.in_range here in (
        new,
        record {
          in_range = w.in_range (omega (arith, free, few_in_tree n)) (omega (arith, flag));
          huge = λ c q. w.huge c q ∙ r.huge c q;
          bits = λ v q. bit_word_of-with_tree key ws n e v here ∙ r.bits v q;
          free = λ c q. w.free c q ∙ r.free c q;
          trees = λ t q. ⊎_elim
              (λ s. ap (tree_free_of key new) s ∙ w.free_here ∙ free ∙ ap (rebuilt_in_tree key old) (sym s))
              (λ ne. w.free_else t ne ∙ r.trees t (omega arith))
              (cases_eq t n);
          unreserved = λ t q. ⊎_elim
              (λ s. ap (reserved_of key new) s ∙ w.reserved_here ∙ flag)
              (λ ne. w.reserved_else t ne ∙ r.unreserved t (omega arith))
              (cases_eq t n);
          resting = λ k q. absurd (omega arith);
        },
      )

  nothing : 0 ≡ local_word (rest_in 0)
  nothing = sym (ap local_word rest_in-zero ∙ local_word-none)

  locals : (n : ℕ) → n ≤ key.cores
      → (new : List ℕ) × RebuiltBelow key old (8 * key.children) key.children (tree_count key) n new
  locals zero h = all_trees (tree_count key) (omega arith)
  locals (suc n) h =
      let mid = locals n (omega arith) in
      let ws : List ℕ = mid.0 in
      let r : RebuiltBelow key old (8 * key.children) key.children (tree_count key) n ws = mid.1 in
      let here : n < key.cores = omega arith in
      let new : List ℕ = with_local key ws n 0 in
      let w = local_written key ws n 0 r.in_range here in (
        new,
        record {
          in_range = w.in_range nothing (subst (IsRest key) (sym rest_in-zero) tt);
          huge = λ c q. w.huge c q ∙ r.huge c q;
          bits = λ v q. bit_word_of-with_local key ws n 0 v here ∙ r.bits v q;
          free = λ c q. w.free c q ∙ r.free c q;
          trees = λ t q. w.tree_free t q ∙ r.trees t q;
          unreserved = λ t q. w.reserved t q ∙ r.unreserved t q;
          resting = λ k q. ⊎_elim
              (λ s. ap (rest_of key new) s ∙ w.rest_here ∙ rest_in-zero)
              (λ ne. w.rest_else k ne ∙ r.resting k (omega arith))
              (cases_eq k n);
        },
      )

  pub rebuilding : (new : List ℕ) × IsRebuilt key old new
  rebuilding =
      let all = locals key.cores (omega arith) in
      let r : RebuiltBelow key old (8 * key.children) key.children (tree_count key) key.cores all.0 = all.1 in (
        all.0,
        record {
          in_range = r.in_range;
          huge = r.huge;
          free = r.free;
          bits = r.bits;
          trees = r.trees;
          unreserved = r.unreserved;
          resting = r.resting;
        },
      )

pub every_rebuilding_exists : EveryRebuildingExists
every_rebuilding_exists key old was = rebuilding key old was

pub every_moment_can_stop : EveryMomentCanStop
every_moment_can_stop key words shares m k some o p =
    let c : Carries (fresh shares) m = opened_carries key words shares k some o m p in
    rebuilding (unsealed m.key) m.state.words (in_range_unsealed m.key m.state.words c.fits.words_in_range)
