-- Chains over lists: after one begins elsewhere, after one more place, and after a place has died.
use Rattle.std.proofs.Common.{ℕ, ◌+◌, ◌≡◌, ◌<◌, inl, inr, min, true, false, List, [], ◌∷◌, ◌++◌}
use Rattle.std.proofs.Common.{length, get_or, set, Option, Some, None, sym, ap, ◌∙◌, arith}
use Rattle.std.specs.Option.{is_some}
use Rattle.std.specs.Ordering.{nat_cmp}
use Rattle.std.specs.BTreeMap.{get}
use Rattle.std.proofs.lemmas.Bool.{cases_eq, cases_lt, false≢true}
use Rattle.std.proofs.lemmas.List.{get_or_default, get_or_append_left, get_or_push}
use Rattle.std.proofs.lemmas.List.{get_or-set_same, get_or-set_other, length-set, length_push}
use Rattle.std.proofs.lemmas.List.{set_past}
use Rattle.held_blocks.specs.declared.label_chains.LabelChains.{LabelChains}
use Rattle.held_blocks.specs.LabelChains.{no_place, WalksOn, Chained, IsBlank, IsSame, SetsEnds}
use Rattle.held_blocks.specs.LabelChains.{first_of, last_of, first_at, last_at, is_live}
use Rattle.held_blocks.proofs.ChainSteps.{serves_from, serves_less, serves_push, serves_same}

pub dead_at : {T : Type 0} (slots : List (Option T)) (at : ℕ) (read : Option T)
    → at < length slots → read ≡ get_or slots at read
    → is_some read ≡ false → is_live slots at ≡ false
dead_at slots at read within is dead = ap is_some (get_or_default slots at None read within ∙ sym is) ∙ dead

-- the same chains with more room
pub chained_same : {T : Type 0} (old new : LabelChains) (slots : List (Option T))
    → Chained old slots → IsSame old new → Chained new slots
chained_same old new slots r s =
    let serves = serves_same r.serves (first_at new) (last_at new) s.first s.last in
    record {
      key_len = ap length s.keys ∙ r.key_len;
      next_len = ap length s.next ∙ r.next_len;
      serves = simp (s.keys, s.next) serves;
    }

-- the chain of a key begins where a walk has come to
pub chained_begin : {T : Type 0} (old new : LabelChains) (slots : List (Option T)) (key at : ℕ)
    → Chained old slots → SetsEnds key at (last_at old key) old new → WalksOn old slots key at
    → Chained new slots
chained_begin old new slots key at r ends walk =
    let lasts : (q : ℕ) → last_at new q ≡ last_at old q =
    λ q. elim (cases_eq q key) [
      | inl same ↦ ap (last_at new) same ∙ ends.last ∙ sym (ap (last_at old) same)
      | inr ne ↦ ap last_of (ends.other q ne)
    ] in
    let serves =
    serves_from r.serves key at walk (first_at new) (last_at new) ends.first (λ q ne. ap first_of (ends.other q ne)) lasts in
    record {
      key_len = ap (λ v. length v.items) ends.keys ∙ r.key_len;
      next_len = ap (λ v. length v.items) ends.next ∙ r.next_len;
      serves = rw (ends.keys, ends.next) serves;
    }

-- one more place, to which the chain of its key leads
pub chained_push : {T : Type 0} (old new : LabelChains) (slots : List (Option T)) (x : T) (key : ℕ) → Chained old slots
    → length slots < no_place → new.keys.items ≡ old.keys.items ++ key ∷ []
    → new.next.items ≡ set old.next.items (last_at old key) (length slots) ++ no_place ∷ []
    → first_at new key ≡ min (first_at old key) (length slots) → last_at new key ≡ length slots
    → ((q : ℕ) → (q ≡ key → ⊥) → get nat_cmp new.ends q ≡ get nat_cmp old.ends q)
    → Chained new (slots ++ Some x ∷ [])
chained_push old new slots x key r small keys next first last other =
    let tail : ℕ = last_at old key in
    let mid : List ℕ = set old.next.items tail (length slots) in
    let mid_len : length mid ≡ length slots = length-set old.next.items tail (length slots) ∙ r.next_len in
    let size : length (slots ++ Some x ∷ []) ≡ length slots + 1 = length_push slots (Some x) in
    let serves =
    serves_push r.serves {key' = λ i. get_or new.keys.items i 0} {next' = λ i. get_or new.next.items i 0}
    {live' = is_live (slots ++ Some x ∷ [])}
    {first' = first_at new} {last' = last_at new} key small
    (λ i b. ap (λ l. get_or l i 0) keys ∙ get_or_append_left old.keys.items (key ∷ []) 0 i (omega (arith, r.key_len)))
    (ap (λ l. get_or l (length slots) 0) keys ∙ get_or_push old.keys.items key 0 (length slots) r.key_len)
    (λ i b. ap is_some (get_or_append_left slots (Some x ∷ []) None i b))
    (λ i b ne. ap (λ l. get_or l i 0) next ∙ get_or_append_left mid (no_place ∷ []) 0 i (omega (arith, mid_len))
    ∙ get_or-set_other old.next.items tail i (length slots) 0 ne)
    (λ b. ap (λ l. get_or l tail 0) next ∙ get_or_append_left mid (no_place ∷ []) 0 tail (omega (arith, mid_len))
    ∙ get_or-set_same old.next.items tail (length slots) 0 (omega (arith, r.next_len)))
    (ap (λ l. get_or l (length slots) 0) next ∙ get_or_push mid no_place 0 (length slots) mid_len)
    first
    (λ q ne. ap first_of (other q ne))
    last
    (λ q ne. ap last_of (other q ne)) in
    record {
      key_len = ap length keys ∙ length_push old.keys.items key ∙ ap (λ m. m + 1) r.key_len ∙ sym size;
      next_len = ap length next ∙ length_push mid no_place ∙ ap (λ m. m + 1) mid_len ∙ sym size;
      serves = rw size serves;
    }

lives : {T : Type 0} (slots : List (Option T)) (i j : ℕ) → is_live (set slots i None) j ≡ true
    → is_live slots j ≡ true
lives slots i j alive =
    elim (cases_eq j i) [
      | inl e ↦
          elim (cases_lt i (length slots)) [
            | inl b ↦
                let none = ap (λ k. get_or (set slots i None) k None) e ∙ get_or-set_same slots i None None b in
                absurd (false≢true (sym (ap is_some none) ∙ alive))
            | inr b ↦ sym (ap (λ l. is_live l j) (set_past slots i None b)) ∙ alive
          ]
      | inr ne ↦ sym (ap is_some (get_or-set_other slots i j None None ne)) ∙ alive
    ]

-- a place dies
pub chained_less : {T : Type 0} (chains : LabelChains) (slots : List (Option T)) (i : ℕ)
    → Chained chains slots → Chained chains (set slots i None)
chained_less chains slots i r =
    let size = length-set slots i None in
    record {
      key_len = r.key_len ∙ sym size;
      next_len = r.next_len ∙ sym size;
      serves = rw size (serves_less r.serves (is_live (set slots i None)) (lives slots i));
    }

-- blank chains stay blank
pub blank_same : {old new : LabelChains} → IsSame old new → IsBlank old → IsBlank new
blank_same s b = record {
  keys = s.keys ∙ b.keys;
  next = s.next ∙ b.next;
  first = λ k. s.first k ∙ b.first k;
  last = λ k. s.last k ∙ b.last k;
}
