-- Memories of zones that are opened at an image: what their cores share and keep, by the zones that were asked for.
use Rattle.std.proofs.Common.{◌≡◌, ℕ, zero, suc, ◌+◌, ◌*◌, ◌<◌, ◌≤◌, List, [], ◌∷◌, Some, Option, length, map, take, drop, refl, ap, sym, subst, ◌∙◌, arith}
use Rattle.std.specs.Prelude.{reverse, slice_index_or}
use Rattle.std.specs.List.{All}
use Rattle.std.specs.declared.alloc.Global.{Global}
use Rattle.std.specs.declared.boxed.Box.{Box}
use Rattle.std.specs.declared.vec.Vec.{Vec}
use Rattle.std.proofs.lemmas.List.{get_or-map, length-map, length-reverse, reverse-append}
use Rattle.std.proofs.lemmas.List.Sorted.{All-permutation, IsPermutation-reverse}
use Rattle.std.proofs.lemmas.List.Sums.{sum_by_more}
use Rattle.frame_model.specs.declared.block.FrameBlock.{FrameBlock}
use Rattle.frame_model.specs.declared.key.Key.{Key}
use Rattle.core_frames.specs.Cores.{memory_of}
use Rattle.core_frames.specs.declared.shared.allocator.Allocator.{Allocator}
use Rattle.core_frames.specs.declared.shared.allocator.Core.{Core}
use Rattle.frame_slots.specs.Numbers.{child_count_of}
use Rattle.frame_slots.specs.Reopenings.{KeepsHeldBeside}
use Rattle.frame_zones.specs.Openings.{HaveHomes}
use Rattle.frame_zones.specs.Spans.{Place, place_of_span}
use Rattle.frame_zones.specs.Zones.{zone_count, zone_at, core_at}
use Rattle.frame_zones.specs.declared.spans.Span.{Span}
use Rattle.frame_zones.proofs.Parted.{some_of}
use Rattle.zone_slots.specs.Cuts.{MayBeHeldBack}
use Rattle.zone_slots.specs.ImageParts.{image_numbers_of, numbers_before, numbers_from}
use Rattle.zone_slots.specs.Layouts.{Stretch, stretch_at}
use Rattle.zone_slots.specs.Openings.{Shares, IsUnusedState, parts_from_last}
use Rattle.zone_slots.specs.Reopenings.{AreReopened, claims_in}
use Rattle.zone_slots.specs.ZoneClaims.{blocks_within}
use Rattle.zone_slots.specs.ZoneSpans.{AreSpansOf, MayBeUsed}
use Rattle.zone_slots.specs.declared.core_state.CoreState.{CoreState}
use Rattle.zone_slots.specs.declared.memory.Memory.{Memory}
use Rattle.zone_slots.proofs.Reopened.{before_more}
use Rattle.zone_slots.proofs.Spanning.{children_of}
use Rattle.llfree_c.proofs.BoxedCores.{unmapped, in_order}
use Rattle.llfree_c.specs.OpenCores.{AreHandedTo, BoxShares, HasZones, IsCoreBehind, core_behind, states_in}
use Rattle.llfree_c.specs.ZoneClaims.{numbers_of_zone}
use Rattle.llfree_c.specs.ZoneReopenings.{HasKeeperAmong, HasKeeperBehind, ReopensIn, ShareReopened}
use Rattle.llfree_c.specs.declared.core_handle.CoreHandle.{CoreHandle}

-- the last core is behind the first handle
pub keeper_behind : {Z : Type 0} (zones : List Stretch) (numbers : List ℕ) (blocks : List FrameBlock)
    (cores : List (Box CoreState Z)) (handles : List CoreHandle) → AreHandedTo cores handles
    → HasKeeperAmong zones numbers blocks (states_in cores) → HasKeeperBehind zones numbers blocks handles
keeper_behind zones numbers blocks cores handles handed has = record {
  keeper = has.keeper;
  others = reverse has.others;
  behind = handed ∙ ap (λ (ss : List CoreState). map Some (reverse ss)) has.are
      ∙ ap (λ (ss : List CoreState). map Some ss) (reverse-append has.others (has.keeper ∷ []));
  unused = All-permutation IsUnusedState has.others (reverse has.others) (IsPermutation-reverse has.others) has.unused;
  keeps = has.keeps;
}

-- any zones may hold no range back
pub no_ranges : (zones : List Stretch) → MayBeHeldBack zones []
no_ranges zones = record {
  few = omega arith;
  apart = record { some = λ k less. absurd (omega (arith, less)); ascend = λ j k before less. absurd (omega (arith, less)) };
  inside = λ x lies. absurd (omega (arith, lies.1));
}

module _ (cores : ℕ) (zones ranges : List Stretch) (m : Memory) (has : HasZones cores zones ranges m) where
  -- there are as many zones as were asked for
  pub count_is : zone_count m.zones ≡ length zones
  count_is = has.lie.count ∙ (length-map has.spans place_of_span ∙ has.are_spans.count)

  key_is : (z : ℕ) (s : Span) (a : Allocator) → z < length zones
      → memory_of (zone_at m.zones z a) ≡ (place_of_span (slice_index_or has.spans z s)).key
  key_is z s a within =
      (has.lie.are_at z (place_of_span s) a (omega (arith, within, count_is))).memory
      ∙ ap (λ (p : Place). p.key) (get_or-map place_of_span has.spans z s (place_of_span s) (omega (arith, within, has.are_spans.count)))

  -- a zone has as many frames as were asked for
  pub frames_are : (z : ℕ) (a : Allocator) → z < length zones
      → (memory_of (zone_at m.zones z a)).frames ≡ (stretch_at zones z).1
  frames_are z a within =
      let s : Span = some_of has.spans (omega (arith, within, has.are_spans.count)) in
      ap (λ (k : Key). k.frames) (key_is z s a within) ∙ (has.are_spans.each z s within).frames

  -- and as many children as these frames have
  pub children_are : (z : ℕ) (a : Allocator) → z < length zones
      → (memory_of (zone_at m.zones z a)).children ≡ child_count_of (stretch_at zones z).1
  children_are z a within =
      let s : Span = some_of has.spans (omega (arith, within, has.are_spans.count)) in
      let at : Span = slice_index_or has.spans z s in
      omega (
        arith,
        ap (λ (k : Key). k.children) (key_is z s a within),
        children_of at.geometry,
        ap child_count_of (has.are_spans.each z s within).frames,
      )

  -- as many numbers are before those of a zone
  pub before_are : (z : ℕ) → z ≤ length zones → numbers_before m.zones z ≡ image_numbers_of (take z zones)
  before_are zero few = omega arith
  before_are (suc z) few =
      let next : suc z ≡ z + 1 = omega arith in
      let within : z < length zones = omega (arith, few) in
      let inside : z < zone_count m.zones = omega (arith, within, count_is) in
      let a : Allocator = some_of m.zones.zones.items (omega (arith, inside)) in
      ap (numbers_before m.zones) next
      ∙ (omega (
        arith,
        before_more m.zones z a inside,
        sum_by_more (λ (zone : Stretch). 9 * child_count_of zone.1) zones z (0, 0) within,
        children_are z a within,
        before_are z (omega (arith, few)),
      ) ∙ ap (λ n. image_numbers_of (take n zones)) (sym next))

  pub numbers_are : (numbers : List ℕ) (z : ℕ) → z < length zones → numbers_from m.zones numbers z ≡ numbers_of_zone zones numbers z
  numbers_are numbers z within = ap (λ n. drop n numbers) (before_are z (omega (arith, within)))

-- cores that were opened again share the zones that were asked for
pub share_reopened : (cores : ℕ) (zones : List Stretch) (numbers : List ℕ) (blocks : List FrameBlock) (spans : List Span)
    (lists : List (Vec FrameBlock Global)) (states : List CoreState) → MayBeUsed cores zones → AreSpansOf cores zones [] spans
    → length lists ≡ length zones
    → ((z : ℕ) (v : Vec FrameBlock Global) → z < length zones
    → (slice_index_or lists z v).items ≡ blocks_within (stretch_at zones z) blocks)
    → AreReopened cores (map place_of_span spans) numbers lists states → ShareReopened cores zones numbers blocks states
share_reopened cores zones numbers blocks spans lists states used are count each at =
    let m : Memory = at.memory in
    let has : HasZones cores zones [] m = record {
      used = used;
      held_back = no_ranges zones;
      spans = spans;
      are_spans = are;
      lie = at.zones;
    } in
    let inside : (z : ℕ) → z < length zones → z < zone_count m.zones = λ z within. omega (arith, within, count_is cores zones [] m has) in
    record {
      count = at.count;
      memory = m;
      are_zones = has;
      slots = at.slots;
      homes = subst (λ n. HaveHomes cores n (parts_from_last states)) (length-map spans place_of_span ∙ are.count) at.homes;
      laid = λ z r within.
          let v : Vec FrameBlock Global = some_of lists (omega (arith, within, count)) in
          at.laid z (inside z within) v r ∙ each z v within;
      share = at.share;
      keeper = record {
        others = at.keeper.others;
        keeper = at.keeper.keeper;
        are = at.keeper.are;
        unused = at.keeper.unused;
        keeps = λ z x within.
            let v : Vec FrameBlock Global = some_of lists (omega (arith, within, count)) in
            let a : Allocator = some_of m.zones.zones.items (omega (arith, inside z within)) in
            let part : Core = core_at at.keeper.keeper.core z x in
            let own : List FrameBlock = blocks_within (stretch_at zones z) blocks in
            let kept : KeepsHeldBeside (memory_of (zone_at m.zones z a)).frames (numbers_from m.zones numbers z) (claims_in lists z v) part =
            at.keeper.keeps z (inside z within) a x v in
            subst (λ (n : ℕ). KeepsHeldBeside n (numbers_of_zone zones numbers z) own part) (frames_are cores zones [] m has z a within)
            (subst (λ (l : List ℕ). KeepsHeldBeside (memory_of (zone_at m.zones z a)).frames l own part) (numbers_are cores zones [] m has numbers z within)
            (subst (λ (bs : List FrameBlock). KeepsHeldBeside (memory_of (zone_at m.zones z a)).frames (numbers_from m.zones numbers z) bs part) (each z v within) kept));
      };
    }

-- the same of the handles that they were handed to
pub reopens : {Z : Type 0} (as_many : ℕ) (zones : List Stretch) (numbers : List ℕ) (blocks : List FrameBlock)
    (boxes : List (Box CoreState Z)) (handles : List CoreHandle) → AreHandedTo boxes handles
    → ((m : Memory) → All (BoxShares m) boxes → All (IsCoreBehind m) handles)
    → ShareReopened as_many zones numbers blocks (states_in boxes) → ReopensIn zones numbers blocks handles
reopens as_many zones numbers blocks boxes handles handed shares are =
    let count : as_many ≡ length handles =
    sym are.count
    ∙ (sym (length-reverse (states_in boxes))
    ∙ (sym (length-map (reverse (states_in boxes)) Some)
    ∙ (sym (ap (λ (os : List (Option CoreState)). length os) handed) ∙ length-map handles core_behind))) in
    record {
      memory = are.memory;
      are_zones = subst (λ (n : ℕ). HasZones n zones [] are.memory) count are.are_zones;
      slots = are.slots;
      in_order = in_order as_many (length zones) (states_in boxes) handles count handed are.homes;
      laid = are.laid;
      share = shares are.memory (unmapped (Shares are.memory) (λ b. b.value) boxes (states_in boxes) refl are.share);
      keeper = keeper_behind zones numbers blocks boxes handles handed are.keeper;
    }
