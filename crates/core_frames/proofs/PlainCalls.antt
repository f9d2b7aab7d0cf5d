-- What takes, gives, keeps and splits leave of an allocator for one thread.
use Rattle.std.proofs.Common.{◌≡◌, ◌≢◌, ◌⊎◌, ⊎_elim, inl, inr, ℕ, zero, suc, ◌+◌, ◌-◌, ◌*◌, ◌^◌, ◌<◌, ◌≤◌, List, [], ◌∷◌, ◌++◌, length}
use Rattle.std.proofs.Common.{get_or, set, Bool, true, false, Option, Some, Err, refl, ap, sym, subst, ◌∙◌, arith}
use Rattle.std.specs.Prelude.{ℤ, pos, ◌+ℤ◌, ◌-ℤ◌, min, if◌then◌else◌}
use Rattle.std.specs.List.{All, sum_by, Contains}
use Rattle.std.specs.List.Sorted.{IsPermutation}
use Rattle.std.proofs.Math.ListN.{length-set}
use Rattle.std.proofs.Math.Logic.{∥∥₁_elim}
use Rattle.std.proofs.Math.Nat.{ℕ_set, pow-suc}
use Rattle.std.proofs.Math.Bridge.{le_prop}
use Rattle.std.proofs.lemmas.Bool.{cases_eq, cases_lt}
use Rattle.std.proofs.lemmas.Nat.{pow_pos}
use Rattle.std.proofs.lemmas.List.Sums.{sum_by-append, sum_by-cons}
use Rattle.std.proofs.lemmas.List.Sorted.{IsPermutation-sym, IsPermutation-trans, IsPermutation-cons, IsPermutation-reverse}
use Rattle.std.proofs.lemmas.List.Sorted.{IsPermutation-append_left, IsPermutation-append_right, IsPermutation-middle, Contains-permutation}
use Rattle.std.proofs.lemmas.List.Elements.{All-head, All-tail, Contains-append_cases, Contains-append_left, Contains-append_right}
use mathlib.Core.HLevel.{is_prop→PathP}
use Rattle.frame_words.specs.Geometry.{child_frames, most_children, most_cores}
use Rattle.frame_words.specs.declared.fault.TakeFault.{TakeFault}
use Rattle.frame_words.specs.declared.fault.TakeFault.TheVariants.{BadOrder, NoBlock, Contended}
use Rattle.frame_words.specs.declared.geometry.Geometry.{Geometry}
use Rattle.frame_model.specs.declared.block.FrameBlock.{FrameBlock}
use Rattle.frame_model.specs.declared.key.Key.{Key}
use Rattle.frame_model.specs.declared.view.View.{View}
use Rattle.frame_model.specs.Key.{sealed_key, frame_count, child_of, is_boot_frame}
use Rattle.frame_model.specs.Block.{block, IsBlock, covers}
use Rattle.frame_model.specs.Holding.{holders, IsHolding}
use Rattle.frame_core.specs.Mover.{Mover, Keeps, KeepsOthers}
use Rattle.frame_model.specs.QuietTake.{TakesBlock, FindsNone, QuietTake}
use Rattle.frame_model.specs.Stops.{unsealed}
use Rattle.frame_model.specs.View.{boot_blocks, fixed_ground, ground_with, spent, IsIdle}
use Rattle.frame_model.specs.Openings.{IsSealedOpening}
use Rattle.frame_model.specs.Laws.{AddsUp}
use Rattle.frame_model.proofs.Closing.{adds_up}
use Rattle.frame_model.proofs.Keeps.{total_is}
use Rattle.frame_model.proofs.Opening.{boot_smalls, boot_wholes}
use Rattle.frame_model.proofs.Safe.{holders_are, boot_are_blocks, none_outside}
use Rattle.plain_moves.specs.declared.plain.party.Company.{Company}
use Rattle.plain_moves.specs.Plain.{plain_key, HasNoShare, Begins, AreOf, Agrees}
use Rattle.plain_moves.proofs.PlainOuts.{set_here}
use Rattle.low_frames.specs.Alone.{HoldsMore, Turns}
use Rattle.core_frames.specs.Searches.{GivesBy}
use Rattle.low_frames.specs.Outcomes.{TakesOut}
use Rattle.low_frames.specs.Takes.{IsAsBefore}
use Rattle.core_frames.specs.declared.search.habit.Habit.{Habit}
use Rattle.core_frames.specs.Alone.{SameFrames, IsDrained, HasNoneOf, FindsNoBlock}
use Rattle.core_frames.specs.PlainAgree.{named_by, held_with, AreOfCores, AgreeWith}
use Rattle.core_frames.specs.PlainBytes.{out_of, kept_of, first_out, first_kept}
use Rattle.core_frames.specs.PlainState.{PlainState, HoldsExactly}
use Rattle.core_frames.specs.Search.{HasLentOne, HasTakenOne, IsBlockOf}
use Rattle.core_frames.specs.Searches.{Brings, Refuses}
use Rattle.core_frames.specs.Splits.{HoldsHalves, HandsOutHalves}
use Rattle.core_frames.proofs.KeptFrames.{same_frames}
use Rattle.core_frames.proofs.PlainBytes.{out_byte, kept_byte, out_taken, kept_taken, out_given, kept_given, out_kept, kept_kept, out_none}
use Rattle.core_frames.proofs.PlainBytes.{kept_none}
use Rattle.core_frames.proofs.PlainHeld.{holders_cons, holders_same, by_form, halves_are, was_free, lawful_as, exact_as, lawful_more}
use Rattle.core_frames.proofs.PlainHeld.{exact_more, takes_block, none_more, lawful_less, exact_less, exact_still, none_still}
use Rattle.core_frames.proofs.PlainHeld.{lawful_halves, exact_halves, none_halves, none_above, none_at_all, finds_none}
use Rattle.core_frames.proofs.PlainKeys.{order_over, more_over, frames_over, none_over, halves_over}
use Rattle.core_frames.proofs.PlainSums.{covers_in, covers_above}

-- Keys and geometries.

pub same_geometry : (g h : Geometry) (s t : Bool) → plain_key g s ≡ plain_key h t → g ≡ h
same_geometry g h s t e i = record {
  children = (e i).children;
  cores = (e i).cores;
  frames = (e i).frames;
  some_children = is_prop→PathP (λ j. 1 ≤ (e j).children) (λ j. le_prop) g.some_children h.some_children i;
  few_children = is_prop→PathP (λ j. (e j).children ≤ most_children) (λ j. le_prop) g.few_children h.few_children i;
  some_cores = is_prop→PathP (λ j. 1 ≤ (e j).cores) (λ j. le_prop) g.some_cores h.some_cores i;
  few_cores = is_prop→PathP (λ j. (e j).cores ≤ most_cores) (λ j. le_prop) g.few_cores h.few_cores i;
  last_child_begun = is_prop→PathP (λ j. child_frames * ((e j).children - 1) < (e j).frames) (λ j. le_prop)
      g.last_child_begun h.last_child_begun i;
  frames_in_children = is_prop→PathP (λ j. (e j).frames ≤ child_frames * (e j).children) (λ j. le_prop)
      g.frames_in_children h.frames_in_children i;
}

-- Lists.

holders_left : (x : ℕ) (bs cs : List FrameBlock) → holders x (bs ++ cs) ≡ 0 → holders x bs ≡ 0
unfolding holders
holders_left x bs cs h = omega (arith, sum_by-append (λ (b : FrameBlock). covers b x) bs cs)

holders_right : (x : ℕ) (bs cs : List FrameBlock) → holders x (bs ++ cs) ≡ 0 → holders x cs ≡ 0
unfolding holders
holders_right x bs cs h = omega (arith, sum_by-append (λ (b : FrameBlock). covers b x) bs cs)

-- a record is written that is of the same core
cores_set : (n : ℕ) (habits : List Habit) (core : ℕ) (new : Habit) → AreOfCores n habits → core < n → new.core ≡ core
    → AreOfCores n (set habits core new)
cores_set n habits core new are inside e =
    (length-set habits core new ∙ are.0, (λ k d h. by k d h))
  where
    there : (hs : List Habit) (i j : ℕ) (d : Habit) → j ≢ i → get_or (set hs i new) j d ≡ get_or hs j d
    there [] i j d ne = refl
    there (x ∷ xs) zero zero d ne = absurd (ne refl)
    there (x ∷ xs) zero (suc j) d ne = refl
    there (x ∷ xs) (suc i) zero d ne = refl
    there (x ∷ xs) (suc i) (suc j) d ne = there xs i j d (λ q. ne (ap suc q))

    here : (hs : List Habit) (i : ℕ) (d : Habit) → i < length hs → get_or (set hs i new) i d ≡ new
    here [] i d h = absurd (omega arith)
    here (x ∷ xs) zero d h = refl
    here (x ∷ xs) (suc i) d h = here xs i d (omega arith)

    by : (k : ℕ) (d : Habit) → k < n → (get_or (set habits core new) k d).core ≡ k
    by k d h =
        ⊎_elim
        (λ (q : k ≡ core). ap (λ j. (get_or (set habits core new) j d).core) q
        ∙ ap (λ (x : Habit). x.core) (here habits core d (omega (arith, are.0, inside))) ∙ e ∙ sym q)
        (λ (ne : k ≢ core). ap (λ (x : Habit). x.core) (there habits core k d ne) ∙ are.1 k d h)
        (cases_eq k core)

-- a block that is out leaves the list
pub without_it : (bytes : List ℕ) (b : FrameBlock) → Contains (out_of bytes) b
    → IsPermutation (b ∷ named_by (set bytes b.frame 0)) (named_by bytes)
without_it bytes b has =
    let now : List ℕ = set bytes b.frame 0 in
    subst (λ (ks : List FrameBlock). IsPermutation (b ∷ (out_of now ++ ks)) (out_of bytes ++ kept_of bytes))
    (sym (kept_given bytes b has))
    (IsPermutation-append_left (kept_of bytes) (b ∷ out_of now) (out_of bytes) (out_given bytes b has))

-- the blocks that stay are others
pub differs : (bytes : List ℕ) (b : FrameBlock) → Contains (out_of bytes) b → (d : FrameBlock)
    → Contains (named_by (set bytes b.frame 0)) d → d ≢ b
differs bytes b has d in_list e =
    let now : List ℕ = set bytes b.frame 0 in
    let zero_here = set_here bytes b.frame 0 (out_byte bytes b has).0 in
    let place : get_or now d.frame 0 ≡ get_or now b.frame 0 = ap (λ (x : FrameBlock). get_or now x.frame 0) e in
    ⊎_elim
    (λ (l : Contains (out_of now) d). omega (arith, out_byte now d l, zero_here, place))
    (λ (r : Contains (kept_of now) d). omega (arith, kept_byte now d r, zero_here, place))
    (Contains-append_cases (out_of now) (kept_of now) d in_list)

pub was_named : (bytes : List ℕ) (b : FrameBlock) → Contains (out_of bytes) b → (d : FrameBlock)
    → Contains (named_by (set bytes b.frame 0)) d → Contains (named_by bytes) d
was_named bytes b has d in_list =
    Contains-permutation (b ∷ named_by (set bytes b.frame 0)) (named_by bytes) d (without_it bytes b has)
    (suc in_list.0, omega (arith, in_list.1), in_list.2)

-- Halves.

set_twice : (bytes : List ℕ) (i m n : ℕ) → set (set bytes i m) i n ≡ set bytes i n
set_twice [] i m n = refl
set_twice (x ∷ xs) zero m n = refl
set_twice (x ∷ xs) (suc i) m n = ap (λ (ys : List ℕ). x ∷ ys) (set_twice xs i m n)

holders_both : (x : ℕ) (bs cs : List FrameBlock) → holders x (bs ++ cs) ≡ holders x bs + holders x cs
unfolding holders
holders_both x bs cs = sum_by-append (λ (c : FrameBlock). covers c x) bs cs

-- the bytes with those of the halves in place of the block's
abbrev pub halved : List ℕ → ℕ → ℕ → List ℕ
halved bytes f o = set (set bytes f (first_out + o)) (f + 2 ^ o) (first_out + o)

module _ (bytes : List ℕ) (b : FrameBlock) (o : ℕ) (has : Contains (out_of bytes) b) (order : b.order ≡ suc o)
    (once : (x : ℕ) → holders x (named_by bytes) ≤ 1) (room : b.frame + 2 ^ o < length bytes) where
  low : o ≤ 9
  low = omega (arith, order, out_byte bytes b has)

  double : 2 ^ b.order ≡ 2 ^ o * 2
  double = ap (λ n. 2 ^ n) order ∙ pow-suc 2 o

  no_other : (x : ℕ) → b.frame ≤ x → x < b.frame + 2 ^ b.order → holders x (named_by (set bytes b.frame 0)) ≡ 0
  no_other x l h =
      let now : List ℕ = set bytes b.frame 0 in
      omega (
        arith,
        once x,
        holders_same x (b ∷ named_by now) (named_by bytes) (without_it bytes b has),
        holders_cons x b (named_by now),
        covers_in b x l h,
      )

  none_out : (x : ℕ) → b.frame ≤ x → x < b.frame + 2 ^ b.order → holders x (out_of (set bytes b.frame 0)) ≡ 0
  none_out x l h = holders_left x (out_of (set bytes b.frame 0)) (kept_of (set bytes b.frame 0)) (no_other x l h)

  none_kept : (x : ℕ) → b.frame ≤ x → x < b.frame + 2 ^ b.order → holders x (kept_of (set bytes b.frame 0)) ≡ 0
  none_kept x l h = holders_right x (out_of (set bytes b.frame 0)) (kept_of (set bytes b.frame 0)) (no_other x l h)

  half_inside : b.frame + 2 ^ o < b.frame + 2 ^ b.order
  half_inside = omega (arith, double, pow_pos o)

  first_inside : b.frame < b.frame + 2 ^ b.order
  first_inside = omega (arith, pow_pos b.order)

  lower_out : IsPermutation (block b.frame o ∷ out_of (set bytes b.frame 0)) (out_of (set bytes b.frame (first_out + o)))
  lower_out =
      subst (λ (l : List ℕ). IsPermutation (block b.frame o ∷ out_of (set bytes b.frame 0)) (out_of l))
      (set_twice bytes b.frame 0 (first_out + o))
      (out_taken (set bytes b.frame 0) b.frame o low (omega (arith, length-set bytes b.frame 0, out_byte bytes b has))
      (none_out b.frame (omega arith) first_inside))

  lower_kept : kept_of (set bytes b.frame (first_out + o)) ≡ kept_of (set bytes b.frame 0)
  lower_kept =
      ap kept_of (sym (set_twice bytes b.frame 0 (first_out + o)))
      ∙ kept_taken (set bytes b.frame 0) b.frame o low (omega (arith, length-set bytes b.frame 0, out_byte bytes b has))
      (none_kept b.frame (omega arith) first_inside)

  above : holders (b.frame + 2 ^ o) (out_of (set bytes b.frame (first_out + o))) ≡ 0
  above =
      let x : ℕ = b.frame + 2 ^ o in
      let now : List ℕ = set bytes b.frame 0 in
      holders_same x (block b.frame o ∷ out_of now) (out_of (set bytes b.frame (first_out + o))) lower_out
      ∙ holders_cons x (block b.frame o) (out_of now)
      ∙ omega (arith, covers_above (block b.frame o) x (omega arith), none_out x (omega arith) half_inside)

  room_still : b.frame + 2 ^ o < length (set bytes b.frame (first_out + o))
  room_still = omega (arith, length-set bytes b.frame (first_out + o), room)

  upper_out : IsPermutation (block (b.frame + 2 ^ o) o ∷ out_of (set bytes b.frame (first_out + o))) (out_of (halved bytes b.frame o))
  upper_out = out_taken (set bytes b.frame (first_out + o)) (b.frame + 2 ^ o) o low room_still above

  upper_kept : kept_of (halved bytes b.frame o) ≡ kept_of (set bytes b.frame (first_out + o))
  upper_kept = kept_taken (set bytes b.frame (first_out + o)) (b.frame + 2 ^ o) o low room_still
      (ap (holders (b.frame + 2 ^ o)) lower_kept ∙ none_kept (b.frame + 2 ^ o) (omega arith) half_inside)

  rest_kept : kept_of (halved bytes b.frame o) ≡ kept_of (set bytes b.frame 0)
  rest_kept = upper_kept ∙ lower_kept

  pub kept_halved : kept_of (halved bytes b.frame o) ≡ kept_of bytes
  kept_halved = rest_kept ∙ kept_given bytes b has

  outs_are : IsPermutation (out_of (halved bytes b.frame o))
      (block (b.frame + 2 ^ o) o ∷ block b.frame o ∷ out_of (set bytes b.frame 0))
  outs_are =
      let u : FrameBlock = block (b.frame + 2 ^ o) o in
      let l : FrameBlock = block b.frame o in
      let one : List FrameBlock = out_of (set bytes b.frame (first_out + o)) in
      let rest : List FrameBlock = out_of (set bytes b.frame 0) in
      IsPermutation-trans (out_of (halved bytes b.frame o)) (u ∷ one) (u ∷ l ∷ rest)
      (IsPermutation-sym (u ∷ one) (out_of (halved bytes b.frame o)) upper_out)
      (IsPermutation-cons u one (l ∷ rest) (IsPermutation-sym (l ∷ rest) one lower_out))

  -- with the block, the blocks that are out are those before with the halves
  pub out_halved : IsPermutation (b ∷ out_of (halved bytes b.frame o)) (block b.frame o ∷ block (b.frame + 2 ^ o) o ∷ out_of bytes)
  out_halved =
      let u : FrameBlock = block (b.frame + 2 ^ o) o in
      let l : FrameBlock = block b.frame o in
      let rest : List FrameBlock = out_of (set bytes b.frame 0) in
      IsPermutation-trans (b ∷ out_of (halved bytes b.frame o)) (b ∷ u ∷ l ∷ rest) (l ∷ u ∷ out_of bytes)
      (IsPermutation-cons b (out_of (halved bytes b.frame o)) (u ∷ l ∷ rest) outs_are)
      (IsPermutation-trans (b ∷ u ∷ l ∷ rest) (l ∷ u ∷ b ∷ rest) (l ∷ u ∷ out_of bytes)
      (IsPermutation-append_left rest (b ∷ u ∷ l ∷ []) (l ∷ u ∷ b ∷ []) (IsPermutation-reverse (b ∷ u ∷ l ∷ [])))
      (IsPermutation-cons l (u ∷ b ∷ rest) (u ∷ out_of bytes)
      (IsPermutation-cons u (b ∷ rest) (out_of bytes) (out_given bytes b has))))

  -- the halves stand among what is named, in place of the block
  pub named_halves : IsPermutation (block b.frame o ∷ block (b.frame + 2 ^ o) o ∷ named_by (set bytes b.frame 0))
      (named_by (halved bytes b.frame o))
  named_halves =
      let u : FrameBlock = block (b.frame + 2 ^ o) o in
      let l : FrameBlock = block b.frame o in
      let now : List ℕ = halved bytes b.frame o in
      let rest : List ℕ = set bytes b.frame 0 in
      let outs : IsPermutation (u ∷ l ∷ out_of rest) (out_of now) = IsPermutation-sym (out_of now) (u ∷ l ∷ out_of rest) outs_are in
      let both : IsPermutation (u ∷ l ∷ (out_of rest ++ kept_of rest)) (out_of now ++ kept_of now) =
      subst (λ (ks : List FrameBlock). IsPermutation (u ∷ l ∷ (out_of rest ++ kept_of rest)) (out_of now ++ ks)) (sym rest_kept)
      (IsPermutation-append_left (kept_of rest) (u ∷ l ∷ out_of rest) (out_of now) outs) in
      IsPermutation-trans (l ∷ u ∷ named_by rest) (u ∷ l ∷ named_by rest) (named_by now)
      (IsPermutation-append_left (named_by rest) (l ∷ u ∷ []) (u ∷ l ∷ []) (IsPermutation-reverse (l ∷ u ∷ []))) both

  -- what is named now is a half, or was named and is another
  pub named_halved : (P : FrameBlock → Type 0) → P (block b.frame o) → P (block (b.frame + 2 ^ o) o)
      → ((d : FrameBlock) → d ≢ b → Contains (named_by bytes) d → P d)
      → (d : FrameBlock) → Contains (named_by (halved bytes b.frame o)) d → P d
  named_halved P lower upper stays d in_list =
      ⊎_elim
      (λ (l : Contains (out_of (halved bytes b.frame o)) d).
      by (Contains-permutation (out_of (halved bytes b.frame o))
      (block (b.frame + 2 ^ o) o ∷ block b.frame o ∷ out_of (set bytes b.frame 0)) d outs_are l))
      (λ (r : Contains (kept_of (halved bytes b.frame o)) d).
      other (Contains-append_right (out_of (set bytes b.frame 0)) (kept_of (set bytes b.frame 0)) d
      (subst (λ (ks : List FrameBlock). Contains ks d) rest_kept r)))
      (Contains-append_cases (out_of (halved bytes b.frame o)) (kept_of (halved bytes b.frame o)) d in_list)
    where
      other : Contains (named_by (set bytes b.frame 0)) d → P d
      other rest = stays d (differs bytes b has d rest) (was_named bytes b has d rest)

      by : Contains (block (b.frame + 2 ^ o) o ∷ block b.frame o ∷ out_of (set bytes b.frame 0)) d → P d
      by (zero, h, e) = subst P e upper
      by (suc zero, h, e) = subst P e lower
      by (suc (suc k), h, e) = other
          (Contains-append_left (out_of (set bytes b.frame 0)) (kept_of (set bytes b.frame 0)) d (k, omega arith, e))

-- The same allocator under other names.

-- under equal bytes
pub renamed : {key : Key} {m : Mover Company FrameBlock} {ws : List ℕ} {habits : List Habit} {least : ℕ} (bytes now : List ℕ)
    → bytes ≡ now → AgreeWith key m ws bytes habits least → AgreeWith key m ws now habits least
renamed {key} {m} {ws} {habits} {least} bytes now e agree = subst (λ (l : List ℕ). AgreeWith key m ws l habits least) e agree

-- under an equal geometry
pub moved : {m : Mover Company FrameBlock} {ws bytes : List ℕ} {habits : List Habit} {least : ℕ} (g h : Geometry) (rs : List (ℕ × ℕ))
    → g ≡ h → AgreeWith (sealed_key g rs) m ws bytes habits least → AgreeWith (sealed_key h rs) m ws bytes habits least
moved {m} {ws} {bytes} {habits} {least} g h rs e agree =
    subst (λ (x : Geometry). AgreeWith (sealed_key x rs) m ws bytes habits least) e agree

-- under equal ranges
pub ranged : {m : Mover Company FrameBlock} {ws bytes : List ℕ} {habits : List Habit} {least : ℕ} (g : Geometry) (rs ss : List (ℕ × ℕ))
    → rs ≡ ss → AgreeWith (sealed_key g rs) m ws bytes habits least → AgreeWith (sealed_key g ss) m ws bytes habits least
ranged {m} {ws} {bytes} {habits} {least} g rs ss e agree =
    subst (λ (x : List (ℕ × ℕ)). AgreeWith (sealed_key g x) m ws bytes habits least) e agree

-- the state that the bytes name
abbrev pub state_of : Geometry → List (ℕ × ℕ) → List ℕ → PlainState
state_of g rs bytes = record { geometry = g; ranges = rs; out = out_of bytes; kept = kept_of bytes }

pub same_state : (g h : Geometry) (rs : List (ℕ × ℕ)) (bytes : List ℕ) → g ≡ h → state_of g rs bytes ≡ state_of h rs bytes
same_state g h rs bytes e = ap (λ (x : Geometry). state_of x rs bytes) e

-- Words that were known and are known.

pub both_known : (R : List ℕ → List ℕ → Type 0) (old new : Option (List ℕ)) (ws us : List ℕ) → old ≡ Some ws → new ≡ Some us
    → Turns R old new → R ws us
both_known R old new ws us e f turn =
    let at : (xs : List ℕ) × ((new ≡ Some xs) × R ws xs) = subst (λ (o : Option (List ℕ)). Turns R o new) e turn in
    let same : ◌≡◌ {A = Option (List ℕ)} (Some at.0) (Some us) = sym at.1.0 ∙ f in
    let xs : at.0 ≡ us = cc in
    subst (λ (l : List ℕ). R ws l) xs at.1.1

idle_as : (v w : View) (l : ℤ) → IsIdle v → w ≡ record v { lent = l; moves = w.moves; lost = w.lost } → IsIdle w
idle_as v w l idle e = record {
  share = omega (arith, ap (λ (x : View). x.share) e, idle.share);
  paid = ap (λ (x : View). x.paid) e ∙ idle.paid;
  charged = ap (λ (x : View). x.charged) e ∙ idle.charged;
  reserving = ap (λ (x : View). x.reserving) e ∙ idle.reserving;
  own = ap (λ (x : View). x.own) e ∙ idle.own;
}

-- One call, from one mover to the next.

module _ (key : Key) (m n : Mover Company FrameBlock) (ws us bytes : List ℕ) (habits : List Habit) (least : ℕ)
    (agree : AgreeWith key m ws bytes habits least) (known : n.words ≡ Some us) where
  -- Refusals.

  module _ (keeps : Keeps m n) (before : IsAsBefore m.view n.view) (same : SameFrames key ws us) where
    -- orders that were remembered, and the one that was refused now, are remembered
    pub refused : (now : ℕ) → ((k : ℕ) → now ≤ k → HasNoneOf key k us) → AgreeWith key n us bytes habits now
    refused now none = record {
      by_itself = ap (λ (x : Company). x.parties.items) keeps.same_tie ∙ agree.by_itself;
      same_key = keeps.same_key ∙ agree.same_key;
      idle = idle_as m.view n.view m.view.lent agree.idle before;
      shares = ap (λ (x : View). x.share) before ∙ agree.shares;
      alone = keeps.stays_alone agree.alone;
      known = known;
      count = agree.count;
      are_out = λ b has. keeps.stay_out b (agree.are_out b has);
      exact = exact_still key ws us same (held_with key bytes) agree.exact;
      lawful = agree.lawful;
      none = none;
      cores = agree.cores;
    }

    pub still_none : (k : ℕ) → least ≤ k → HasNoneOf key k us
    still_none k h = none_still key ws us same k (agree.none k h)

    -- an order that was refused since no block of it is free, and those above, or one that has no blocks
    pub least_none : (order now : ℕ) → now ≡ min least order → HasNoneOf key order us → (k : ℕ) → now ≤ k → HasNoneOf key k us
    least_none order now e none k h =
        ⊎_elim (λ (l : least ≤ k). still_none k l)
        (λ (o : order ≤ k). none_above key us order k o none) (either least order k (omega (arith, h, e)))
      where
        either : (a b c : ℕ) → min a b ≤ c → (a ≤ c) ⊎ (b ≤ c)
        either a b c q = ⊎_elim (λ (y : c < a). inr (omega (arith, q, y))) (λ z. inl z) (cases_lt c a)

  same_words : us ≡ ws → SameFrames key ws us
  same_words e = subst (SameFrames key ws) (sym e) (same_frames key ws)

  still_words : n.words ≡ m.words → us ≡ ws
  still_words e = let same : ◌≡◌ {A = Option (List ℕ)} (Some us) (Some ws) = sym known ∙ e ∙ agree.known in cc

  found : (order : ℕ) → Turns (FindsNoBlock m.key order) m.words n.words → SameFrames key ws us × HasNoneOf key order us
  found order turn =
      let at = subst (λ (k : Key). FindsNoBlock k order ws us) agree.same_key
      (both_known (FindsNoBlock m.key order) m.words n.words ws us agree.known known turn) in
      (frames_over key ws us at.frames, none_over key order us at.none)

  -- a drain finds nothing, and the frames stay
  pub drained : (exact : ℕ → Type 0) (most : ℕ) → Brings exact most IsAsBefore (IsDrained m.key) m n → AgreeWith key n us bytes habits least
  drained exact most brings =
      let same : SameFrames key ws us = frames_over key ws us (subst (λ (k : Key). SameFrames k ws us) agree.same_key
      (both_known (IsDrained m.key) m.words n.words ws us agree.known known (brings.alone agree.alone)).frames) in
      refused brings.keeps brings.view same least (still_none brings.keeps brings.view same)

  -- a take that was refused
  pub refused_by : (exact : ℕ → Type 0) (order now : ℕ) (fault : TakeFault) → now ≡ min least order → n.missed ≡ false → Keeps m n
      → Refuses exact order fault m n → AgreeWith key n us bytes habits now
  refused_by exact order now BadOrder e calm keeps why =
      let same : SameFrames key ws us = same_words (still_words why.1.words) in
      let before : IsAsBefore m.view n.view = subst (λ (w : View). IsAsBefore m.view w) (sym why.1.view) refl in
      refused keeps before same now (least_none keeps before same order now e (none_at_all key us order why.0))
  refused_by exact order now NoBlock e calm keeps why =
      let there = found order (why.misses.alone agree.alone) in
      refused keeps why.misses.view there.0 now (least_none keeps why.misses.view there.0 order now e there.1)
  refused_by exact order now Contended e calm keeps why = let no : true ≡ false = sym why.missed ∙ calm in absurd (cc)

  pub quiet_refused : (exact : ℕ → Type 0) (order : ℕ) (fault : TakeFault) → n.missed ≡ false → Refuses exact order fault m n
      → QuietTake key (held_with key bytes) (held_with key bytes) order (Err fault)
  quiet_refused exact order BadOrder calm why = record { above = why.0; unchanged = refl }
  quiet_refused exact order NoBlock calm why =
      let there = found order (why.misses.alone agree.alone) in
      finds_none key us (held_with key bytes) order (exact_still key ws us there.0 (held_with key bytes) agree.exact) why.order there.1
  quiet_refused exact order Contended calm why = let no : true ≡ false = sym why.missed ∙ calm in absurd (cc)

  -- A take.

  module _ (keeps : Keeps m n) (b : FrameBlock) (order : ℕ)
      (took : TakesOut (λ (x : FrameBlock). x) (IsBlockOf m.key order) HasLentOne b m n) where
    is : IsBlockOf key order b
    is = order_over key order b (subst (λ (k : Key). IsBlockOf k order b) agree.same_key took.is_one)

    more : HoldsMore key ws us b
    more = more_over key ws us b (subst (λ (k : Key). HoldsMore k ws us b) agree.same_key
        (both_known (λ xs ys. HoldsMore m.key xs ys b) m.words n.words ws us agree.known known (took.alone agree.alone)))

    abbrev taken_bytes : List ℕ
    taken_bytes = set bytes b.frame (first_out + b.order)

    inside : b.frame < length bytes
    inside = omega (arith, agree.count, is.is_block.inside, pow_pos b.order)

    not_named : holders b.frame (named_by bytes) ≡ 0
    not_named = holders_left b.frame (named_by bytes) (boot_blocks key)
        (was_free key ws us (held_with key bytes) b agree.lawful agree.exact is.is_block more b.frame
        (covers_in b b.frame (omega arith) (omega (arith, pow_pos b.order))))

    pub out_more : IsPermutation (b ∷ out_of bytes) (out_of (set bytes b.frame (first_out + b.order)))
    out_more = out_taken bytes b.frame b.order is.is_block.order inside
        (holders_left b.frame (out_of bytes) (kept_of bytes) not_named)

    pub kept_same : kept_of (set bytes b.frame (first_out + b.order)) ≡ kept_of bytes
    kept_same = kept_taken bytes b.frame b.order is.is_block.order inside
        (holders_right b.frame (out_of bytes) (kept_of bytes) not_named)

    named_more : IsPermutation (b ∷ named_by bytes) (named_by taken_bytes)
    named_more =
        subst (λ (ks : List FrameBlock). IsPermutation (b ∷ (out_of bytes ++ kept_of bytes)) (out_of taken_bytes ++ ks)) (sym kept_same)
        (IsPermutation-append_left (kept_of bytes) (b ∷ out_of bytes) (out_of taken_bytes) out_more)

    held_more : IsPermutation (b ∷ held_with key bytes) (held_with key taken_bytes)
    held_more = IsPermutation-append_left (boot_blocks key) (b ∷ named_by bytes) (named_by taken_bytes) named_more

    are_out : (d : FrameBlock) → Contains (named_by taken_bytes) d → n.is_out d
    are_out d has =
        by (Contains-permutation (named_by taken_bytes) (b ∷ named_by bytes) d
        (IsPermutation-sym (b ∷ named_by bytes) (named_by taken_bytes) named_more) has)
      where
        by : Contains (b ∷ named_by bytes) d → n.is_out d
        by (zero, h, e) = subst n.is_out e took.is_out
        by (suc k, h, e) = keeps.stay_out d (agree.are_out d (k, omega arith, e))

    pub taken : AgreeWith key n us (set bytes b.frame (first_out + b.order)) habits least
    taken = record {
      by_itself = ap (λ (x : Company). x.parties.items) keeps.same_tie ∙ agree.by_itself;
      same_key = keeps.same_key ∙ agree.same_key;
      idle = idle_as m.view n.view (m.view.lent +ℤ pos 1) agree.idle took.view;
      shares = ap (λ (x : View). x.share) took.view ∙ agree.shares;
      alone = keeps.stays_alone agree.alone;
      known = known;
      count = length-set bytes b.frame (first_out + b.order) ∙ agree.count;
      are_out = are_out;
      exact = exact_as key us (b ∷ held_with key bytes) (held_with key taken_bytes) held_more
          (exact_more key ws us (held_with key bytes) b agree.lawful agree.exact is.is_block more);
      lawful = lawful_as key (b ∷ held_with key bytes) (held_with key taken_bytes) held_more
          (lawful_more key ws us (held_with key bytes) b agree.lawful agree.exact is.is_block more);
      none = λ k h. none_more key ws us b k more (agree.none k h);
      cores = agree.cores;
    }

    pub quiet_take : TakesBlock key (held_with key bytes) (held_with key (set bytes b.frame (first_out + b.order))) order b
    quiet_take = takes_block key ws us (held_with key bytes) b agree.lawful agree.exact is.is_block more order (held_with key taken_bytes)
        is.has_order held_more

  -- A give.

  module _ (b : FrameBlock) (has : Contains (out_of bytes) b) (exact : ℕ → Type 0) (most : ℕ)
      (gave : GivesBy (λ (x : FrameBlock). x) exact most HasTakenOne b m n) where
    abbrev given_bytes : List ℕ
    given_bytes = set bytes b.frame 0

    less : HoldsMore key us ws b
    less = more_over key us ws b (subst (λ (k : Key). HoldsMore k us ws b) agree.same_key
        (both_known (λ xs ys. HoldsMore m.key ys xs b) m.words n.words ws us agree.known known (gave.alone_given agree.alone)))

    held_less : IsPermutation (held_with key bytes) (b ∷ held_with key given_bytes)
    held_less = IsPermutation-sym (b ∷ held_with key given_bytes) (held_with key bytes)
        (IsPermutation-append_left (boot_blocks key) (b ∷ named_by given_bytes) (named_by bytes) (without_it bytes b has))

    lawful_first : IsHolding key (b ∷ held_with key given_bytes)
    lawful_first = lawful_as key (held_with key bytes) (b ∷ held_with key given_bytes) held_less agree.lawful

    exact_first : HoldsExactly key ws (b ∷ held_with key given_bytes)
    exact_first = exact_as key ws (held_with key bytes) (b ∷ held_with key given_bytes) held_less agree.exact

    pub given : AgreeWith key n us (set bytes b.frame 0) habits 10
    given = record {
      by_itself = ap (λ (x : Company). x.parties.items) gave.keeps.same_tie ∙ agree.by_itself;
      same_key = gave.keeps.same_key ∙ agree.same_key;
      idle = idle_as m.view n.view (m.view.lent -ℤ pos 1) agree.idle gave.back;
      shares = ap (λ (x : View). x.share) gave.back ∙ agree.shares;
      alone = gave.keeps.stays_alone agree.alone;
      known = known;
      count = length-set bytes b.frame 0 ∙ agree.count;
      are_out = λ d in_list. gave.keeps.others_out d (differs bytes b has d in_list) (agree.are_out d (was_named bytes b has d in_list));
      exact = exact_less key ws us (held_with key given_bytes) b lawful_first exact_first less;
      lawful = lawful_less key ws us (held_with key given_bytes) b lawful_first exact_first less;
      none = λ k h. none_at_all key us k (omega (arith, h));
      cores = agree.cores;
    }

  -- A split.

  module _ (b first second : FrameBlock) (has : Contains (out_of bytes) b) (keeps : KeepsOthers (λ (x : FrameBlock). x) b m n)
      (out : HandsOutHalves (λ (x : FrameBlock). x) b first second m n) where
    next : b.order ≡ suc (b.order - 1)
    next = omega (arith, out.are_halves.some)

    held_one : IsPermutation (held_with key bytes) (b ∷ held_with key (set bytes b.frame 0))
    held_one = IsPermutation-sym (b ∷ held_with key (set bytes b.frame 0)) (held_with key bytes)
        (IsPermutation-append_left (boot_blocks key) (b ∷ named_by (set bytes b.frame 0)) (named_by bytes) (without_it bytes b has))

    lawful_one : IsHolding key (b ∷ held_with key (set bytes b.frame 0))
    lawful_one = lawful_as key (held_with key bytes) (b ∷ held_with key (set bytes b.frame 0)) held_one agree.lawful

    block_here : IsBlock key b
    block_here = All-head (IsBlock key) b (held_with key (set bytes b.frame 0)) lawful_one.blocks

    once : (x : ℕ) → holders x (named_by bytes) ≤ 1
    once x = omega (arith, holders_both x (named_by bytes) (boot_blocks key), agree.lawful.disjoint x)

    pub room : b.frame + 2 ^ (b.order - 1) < length bytes
    room = omega (arith, block_here.inside, agree.count, ap (λ n. 2 ^ n) next ∙ pow-suc 2 (b.order - 1), pow_pos (b.order - 1))

    pub halves_out : IsPermutation (b ∷ out_of (halved bytes b.frame (b.order - 1)))
        (block b.frame (b.order - 1) ∷ block (b.frame + 2 ^ (b.order - 1)) (b.order - 1) ∷ out_of bytes)
    halves_out = out_halved bytes b (b.order - 1) has next once room

    pub halves_kept : kept_of (halved bytes b.frame (b.order - 1)) ≡ kept_of bytes
    halves_kept = kept_halved bytes b (b.order - 1) has next once room

    halves : HoldsHalves key b first second ws us
    halves = halves_over key b first second ws us (subst (λ (k : Key). HoldsHalves k b first second ws us) agree.same_key
        (both_known (HoldsHalves m.key b first second) m.words n.words ws us agree.known known (out.alone agree.alone (us, known))))

    two : IsBlock key first × IsBlock key second
    two = halves_are key b first second block_here out.are_halves

    held_halves : IsPermutation (first ∷ second ∷ held_with key (set bytes b.frame 0)) (held_with key (halved bytes b.frame (b.order - 1)))
    held_halves =
        let now : List ℕ = halved bytes b.frame (b.order - 1) in
        let named : IsPermutation (first ∷ second ∷ named_by (set bytes b.frame 0)) (named_by now) =
        subst (λ (bs : List FrameBlock). IsPermutation bs (named_by now))
        (λ i. sym out.are_halves.lower i ∷ sym out.are_halves.upper i ∷ named_by (set bytes b.frame 0))
        (named_halves bytes b (b.order - 1) has next once room) in
        IsPermutation-append_left (boot_blocks key) (first ∷ second ∷ named_by (set bytes b.frame 0)) (named_by now) named

    pub divided : AgreeWith key n us (halved bytes b.frame (b.order - 1)) habits least
    divided =
        let now : List ℕ = halved bytes b.frame (b.order - 1) in
        let rest : List FrameBlock = held_with key (set bytes b.frame 0) in
        let exact_one : HoldsExactly key ws (b ∷ rest) = exact_as key ws (held_with key bytes) (b ∷ rest) held_one agree.exact in
        record {
          by_itself = ap (λ (x : Company). x.parties.items) keeps.same_tie ∙ agree.by_itself;
          same_key = keeps.same_key ∙ agree.same_key;
          idle = idle_as m.view n.view (m.view.lent +ℤ pos 1) agree.idle out.view;
          shares = ap (λ (x : View). x.share) out.view ∙ agree.shares;
          alone = keeps.stays_alone agree.alone;
          known = known;
          count = length-set (set bytes b.frame (first_out + (b.order - 1))) (b.frame + 2 ^ (b.order - 1)) (first_out + (b.order - 1))
              ∙ length-set bytes b.frame (first_out + (b.order - 1)) ∙ agree.count;
          are_out = named_halved bytes b (b.order - 1) has next once room n.is_out
              (subst n.is_out out.are_halves.lower out.first_out) (subst n.is_out out.are_halves.upper out.second_out)
              (λ d ne was. keeps.others_out d ne (agree.are_out d was));
          exact = exact_as key us (first ∷ second ∷ rest) (held_with key now) held_halves
              (exact_halves key ws us rest b first second lawful_one exact_one out.are_halves two.0 two.1 halves);
          lawful = lawful_as key (first ∷ second ∷ rest) (held_with key now) held_halves
              (lawful_halves key ws us rest b first second lawful_one exact_one out.are_halves two.0 two.1 halves);
          none = λ k h. none_halves key ws us rest b first second lawful_one exact_one out.are_halves two.0 two.1 halves k (agree.none k h);
          cores = agree.cores;
        }

-- a refusal that was remembered
pub remembered : (key : Key) (m : Mover Company FrameBlock) (ws bytes : List ℕ) (habits : List Habit) (least order : ℕ)
    → AgreeWith key m ws bytes habits least → least ≤ order → order ≤ 9 → FindsNone key (held_with key bytes) (held_with key bytes) order
remembered key m ws bytes habits least order agree h low =
    finds_none key ws (held_with key bytes) order agree.exact low (agree.none order h)

-- Of one mover.

module _ (key : Key) (m : Mover Company FrameBlock) (ws bytes : List ℕ) (habits : List Habit) (least : ℕ)
    (agree : AgreeWith key m ws bytes habits least) where
  -- the record of a core is written
  pub with_core : (core : ℕ) (new : Habit) → core < key.cores → new.core ≡ core → AgreeWith key m ws bytes (set habits core new) least
  with_core core new inside e = record {
    by_itself = agree.by_itself;
    same_key = agree.same_key;
    idle = agree.idle;
    shares = agree.shares;
    alone = agree.alone;
    known = agree.known;
    count = agree.count;
    are_out = agree.are_out;
    exact = agree.exact;
    lawful = agree.lawful;
    none = agree.none;
    cores = cores_set key.cores habits core new agree.cores inside e;
  }

  -- A block that is kept.

  module _ (b : FrameBlock) (has : Contains (out_of bytes) b) where
    pub held_same : IsPermutation (named_by bytes) (named_by (set bytes b.frame (first_kept + b.order)))
    held_same =
        let now : List ℕ = set bytes b.frame (first_kept + b.order) in
        let one : IsPermutation (out_of bytes ++ kept_of bytes) (b ∷ (out_of now ++ kept_of bytes)) =
        IsPermutation-sym (b ∷ (out_of now ++ kept_of bytes)) (out_of bytes ++ kept_of bytes)
        (IsPermutation-append_left (kept_of bytes) (b ∷ out_of now) (out_of bytes) (out_kept bytes b has)) in
        let two : IsPermutation (b ∷ (out_of now ++ kept_of bytes)) (out_of now ++ b ∷ kept_of bytes) =
        IsPermutation-sym (out_of now ++ b ∷ kept_of bytes) (b ∷ (out_of now ++ kept_of bytes))
        (IsPermutation-middle (out_of now) b (kept_of bytes)) in
        let three : IsPermutation (out_of now ++ b ∷ kept_of bytes) (out_of now ++ kept_of now) =
        IsPermutation-append_right (out_of now) (b ∷ kept_of bytes) (kept_of now) (kept_kept bytes b has) in
        IsPermutation-trans (out_of bytes ++ kept_of bytes) (b ∷ (out_of now ++ kept_of bytes)) (out_of now ++ kept_of now) one
        (IsPermutation-trans (b ∷ (out_of now ++ kept_of bytes)) (out_of now ++ b ∷ kept_of bytes) (out_of now ++ kept_of now) two three)

    pub keeps : AgreeWith key m ws (set bytes b.frame (first_kept + b.order)) habits least
    keeps =
        let now : List ℕ = set bytes b.frame (first_kept + b.order) in
        let all : IsPermutation (held_with key bytes) (held_with key now) =
        IsPermutation-append_left (boot_blocks key) (named_by bytes) (named_by now) held_same in
        record {
          by_itself = agree.by_itself;
          same_key = agree.same_key;
          idle = agree.idle;
          shares = agree.shares;
          alone = agree.alone;
          known = agree.known;
          count = length-set bytes b.frame (first_kept + b.order) ∙ agree.count;
          are_out = λ d in_list. agree.are_out d
              (Contains-permutation (named_by now) (named_by bytes) d
              (IsPermutation-sym (named_by bytes) (named_by now) held_same) in_list);
          exact = exact_as key ws (held_with key bytes) (held_with key now) all agree.exact;
          lawful = lawful_as key (held_with key bytes) (held_with key now) all agree.lawful;
          none = agree.none;
          cores = agree.cores;
        }

    -- the block is out
    pub is_out : m.is_out b
    is_out = agree.are_out b (Contains-append_left (out_of bytes) (kept_of bytes) b has)

-- An opening: nothing is out, and the words hold what nobody is given.

module _ (key : Key) (ws : List ℕ) (o : IsSealedOpening key ws) where
  boot_once : (x : ℕ) → holders x (boot_blocks key) ≤ 1
  boot_once x =
      ⊎_elim
      (λ h. omega (
        arith,
        holders_are key x (boot_blocks key) (boot_are_blocks key),
        boot_smalls key x h,
        boot_wholes key (child_of x),
        at_most (is_boot_frame key x),
      ))
      (λ past. omega (arith, none_outside key x (boot_blocks key) (boot_are_blocks key) past)) (cases_lt x (frame_count key))
    where
      at_most : (b : Bool) → (if b then 1 else 0) ≤ 1
      at_most true = omega arith
      at_most false = omega arith

  lawful_boot : IsHolding key (boot_blocks key)
  lawful_boot = record { blocks = boot_are_blocks key; disjoint = boot_once }

  exact_boot : HoldsExactly key ws (boot_blocks key)
  exact_boot =
      by_form key ws (boot_blocks key) lawful_boot (λ x h. o.boot_frames x h ∙ sym (boot_smalls key x h))
      (λ c h. o.unflagged c h ∙ sym (boot_wholes key c))

  pub opened : (m : Mover Company FrameBlock) (bytes : List ℕ) (habits : List Habit) (least : ℕ) → m.tie.parties.items ≡ []
      → Begins (unsealed key) ws m → 0 < key.cores → length bytes ≡ frame_count key
      → ((i : ℕ) → i < length bytes → get_or bytes i 0 ≡ 0) → 9 < least → AreOfCores key.cores habits
      → AgreeWith key m ws bytes habits least
  opened m bytes habits least itself begins some count zeros above cores =
      let none : named_by bytes ≡ [] = (λ i. out_none bytes zeros i ++ kept_none bytes zeros i) in
      record {
        by_itself = itself;
        same_key = begins.key;
        idle = record {
          share = omega (arith, ap (λ (x : View). x.share) begins.view, some);
          paid = ap (λ (x : View). x.paid) begins.view;
          charged = ap (λ (x : View). x.charged) begins.view;
          reserving = ap (λ (x : View). x.reserving) begins.view;
          own = ap (λ (x : View). x.own) begins.view;
        };
        shares = ap (λ (x : View). x.share) begins.view;
        alone = begins.alone;
        known = begins.words;
        count = count;
        are_out = λ b has. absurd (nothing b (subst (λ (bs : List FrameBlock). Contains bs b) none has));
        exact = subst (λ (bs : List FrameBlock). HoldsExactly key ws (bs ++ boot_blocks key)) (sym none) exact_boot;
        lawful = subst (λ (bs : List FrameBlock). IsHolding key (bs ++ boot_blocks key)) (sym none) lawful_boot;
        none = λ k h. none_at_all key ws k (omega (arith, h, above));
        cores = cores;
      }
    where
      nothing : (b : FrameBlock) → Contains [] b → ⊥
      nothing b (i, h, e) = omega arith

-- A closing.

none_shared : (us : List View) → All HasNoShare us → sum_by (λ u. u.share) us ≡ 0
none_shared [] all = refl
none_shared (u ∷ us) all = omega (
  arith,
  sum_by-cons (λ (w : View). w.share) u us,
  All-head HasNoShare u us all,
  none_shared us (All-tail HasNoShare u us all),
)

alone_of : (key : Key) (us : List View) → AreOf key [] us → All HasNoShare us
unfolding AreOf
alone_of key us are = are

fixed_share : (key : Key) → (fixed_ground key).share ≡ 0
unfolding fixed_ground
fixed_share key = by key.sealed
  where
    by : (b : Bool) → (if b then ground_with key (boot_blocks key) else spent).share ≡ 0
    by true = refl
    by false = refl

-- where nobody waits, the own view has all shares
all_shares : (key : Key) (them : Company) (ws outs : List ℕ) (v : View) → them.parties.items ≡ [] → (a : Agrees key them ws outs v)
    → v.share ≡ a.shares
all_shares key them ws outs v none a =
    let no_others = none_shared a.others (alone_of key a.others (subst (λ ps. AreOf key ps a.others) none a.parties)) in
    omega (
      arith,
      a.fit.shares_add_up,
      total_is key (λ (u : View). u.share) (v ∷ a.others),
      sum_by-cons (λ (u : View). u.share) v a.others,
      fixed_share key,
      no_others,
    )

-- nothing is in flight and nobody waits, so the counters add up
pub counters : (key : Key) (them : Company) (ws outs : List ℕ) (v : View) → them.parties.items ≡ [] → IsIdle v
    → ∥ Agrees key them ws outs v ∥₁ → AddsUp key ws
counters key them ws outs v none idle agrees = record {
  entries = λ c h. ∥∥₁_elim agrees (ℕ_set _ _) (λ (a : Agrees key them ws outs v). (adds a).entries c h);
  trees = λ t h. ∥∥₁_elim agrees (ℕ_set _ _) (λ (a : Agrees key them ws outs v). (adds a).trees t h);
  reserved = λ t h. ∥∥₁_elim agrees (ℕ_set _ _) (λ (a : Agrees key them ws outs v). (adds a).reserved t h);
  same_entries = λ new r c h. ∥∥₁_elim agrees (ℕ_set _ _) (λ (a : Agrees key them ws outs v). (adds a).same_entries new r c h);
  same_trees = λ new r t h. ∥∥₁_elim agrees (ℕ_set _ _) (λ (a : Agrees key them ws outs v). (adds a).same_trees new r t h);
}
  where
    adds : (a : Agrees key them ws outs v) → AddsUp key ws
    adds a = adds_up key a.shares ws (v ∷ a.others) 0 v a.fit refl idle (all_shares key them ws outs v none a)
