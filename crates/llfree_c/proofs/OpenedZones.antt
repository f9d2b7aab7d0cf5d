-- Zones and ranges, as C passes them and as an opening reads them.
use Rattle.std.proofs.Common.{◌≡◌, inl, inr, ℕ, ◌<◌, ◌≤◌, List, Some, Bool, length, map, ap, sym, subst, ◌∙◌, arith}
use Rattle.std.specs.Prelude.{reverse}
use Rattle.std.specs.List.{All}
use Rattle.std.specs.declared.boxed.Box.{Box}
use Rattle.std.proofs.lemmas.List.{ext_get_or, length-map, length-reverse}
use Rattle.frame_zones.specs.Openings.{HaveHomes}
use Rattle.frame_zones.specs.Spans.{place_of_span}
use Rattle.frame_zones.specs.declared.spans.Span.{Span}
use Rattle.zone_slots.specs.Cuts.{MayBeHeldBack}
use Rattle.zone_slots.specs.Layouts.{Stretch, stretch_at, AreEven, MayBeLaidOut}
use Rattle.zone_slots.specs.Openings.{Shares, IsUnusedState, AreAllCoresOf, parts_from_last}
use Rattle.zone_slots.specs.ZoneSpans.{AreSpansOf, MayBeUsed}
use Rattle.zone_slots.specs.declared.core_state.CoreState.{CoreState}
use Rattle.zone_slots.specs.declared.memory.Memory.{Memory}
use Rattle.llfree_c.proofs.BoxedCores.{unmapped, in_order}
use Rattle.llfree_c.specs.OpenCores.{HasZones, ShareOne, OpensIn, HasNoCores, AreHandedTo, BoxShares, IsBoxUnused, IsCoreBehind, IsUnusedBehind, core_behind, states_in}
use Rattle.frame_words.specs.Geometry.{most_cores}
use Rattle.frame_zones.specs.Spans.{most_zones}
use Rattle.llfree_c.specs.Openings.{pair_of, pairs_of, AreFewEnough, AreZoneSizes, HasNoPairs, IsUnopenedEven, IsUnopenedIn, IsUnopenedOnceRead}
use Rattle.llfree_c.specs.declared.core_handle.CoreHandle.{CoreHandle}
use Rattle.llfree_c.specs.declared.ranges.FrameRange.{FrameRange}

-- so many frames have one list of zones without a hole
module _ (frames : ℕ) (one other : List Stretch) (even : AreEven frames one) (too : AreEven frames other) where
  as_many_zones : length one ≡ length other
  as_many_zones = omega (arith, even.last, even.all, too.last, too.all)

  same_zone : (z : ℕ) → z < length one → stretch_at one z ≡ stretch_at other z
  same_zone z less =
      let also : z < length other = subst (λ (n : ℕ). z < n) as_many_zones less in
      let firsts = even.firsts z less ∙ sym (too.firsts z also) in
      let sizes = even.sizes z less ∙ sym (too.sizes z also) in
      λ i. (firsts i, sizes i)

  pub even_alone : one ≡ other
  even_alone = ext_get_or (0, 0) one other as_many_zones same_zone

-- why they were not opened, said of all such zones
pub unopened_even : (frames cores : ℕ) (zones ranges : List Stretch) (status : ℕ) → MayBeLaidOut zones
    → AreEven frames zones → AreZoneSizes frames cores → IsUnopenedOnceRead cores zones ranges status
    → IsUnopenedEven frames cores ranges status
unopened_even frames cores zones ranges status laid even sizes (inl never) =
    inl (
      never.0,
      λ (other : AreZoneSizes frames cores).
          never.1 (record { some_cores = other.some_cores; few_cores = other.few_cores; laid_out = laid }),
    )
unopened_even frames cores zones ranges status laid even sizes (inr (inl never)) =
    inr (inl (
      never.0,
      λ others too may.
          never.1 (subst (λ (zs : List Stretch). MayBeHeldBack zs ranges) (even_alone frames others zones too even) may),
    ))
unopened_even frames cores zones ranges status laid even sizes (inr (inr none)) = inr (inr (none.0, sizes))

-- why zones that C passed were not opened once they were read, said of them as they were passed
pub unopened_in : (cores : ℕ) (zones ranges : List Stretch) (status : ℕ) → IsUnopenedOnceRead cores zones ranges status
    → IsUnopenedIn cores zones ranges status
unopened_in cores zones ranges status (inl never) = inl never
unopened_in cores zones ranges status (inr (inl never)) = inr (inl never)
unopened_in cores zones ranges status (inr (inr none)) =
    let used = none.1 in
    inr (inr (
      none.0,
      record { some_cores = used.some_cores; few_cores = used.few_cores; few_zones = used.laid_out.few },
    ))

-- why ranges were not read, said of the zones that were to hold them back
pub unread_even : (frames cores : ℕ) (given : List FrameRange) (status : ℕ) → AreZoneSizes frames cores
    → HasNoPairs given status → IsUnopenedEven frames cores (pairs_of given) status
unread_even frames cores given status sizes (inl many) =
    inr (inl (many.0, λ zones even may. omega (arith, many.1, may.few, length-map given pair_of)))
unread_even frames cores given status sizes (inr none) = inr (inr (none, sizes))

pub few_enough : (cores : ℕ) (zones : List FrameRange) → 1 ≤ cores → cores ≤ most_cores → length zones ≤ most_zones
    → AreFewEnough cores (pairs_of zones)
few_enough cores zones some few short = record {
  some_cores = some;
  few_cores = few;
  few_zones = omega (arith, short, length-map zones pair_of);
}

pub unread_in : (cores : ℕ) (zones given : List FrameRange) (status : ℕ) → AreFewEnough cores (pairs_of zones)
    → HasNoPairs given status → IsUnopenedIn cores (pairs_of zones) (pairs_of given) status
unread_in cores zones given status enough (inl many) =
    inr (inl (many.0, λ may. omega (arith, many.1, may.few, length-map given pair_of)))
unread_in cores zones given status enough (inr none) = inr (inr (none, enough))

-- the same of zones and cores as they were read
pub refused_even : (frames cores : ℕ) (read zones ranges : List Stretch) (given : List FrameRange)
    (handles : List CoreHandle) (status : ℕ) → cores ≡ length handles → read ≡ zones → ranges ≡ pairs_of given
    → MayBeLaidOut zones → AreEven frames zones → AreZoneSizes frames cores → IsUnopenedOnceRead cores read ranges status
    → HasNoCores frames given handles status
refused_even frames cores read zones ranges given handles status count same pairs laid even sizes never =
    inr (subst (λ (n : ℕ). IsUnopenedEven frames n (pairs_of given) status) count
    (subst (λ (rs : List Stretch). IsUnopenedEven frames cores rs status) pairs
    (unopened_even frames cores zones ranges status laid even sizes
    (subst (λ (zs : List Stretch). IsUnopenedOnceRead cores zs ranges status) same never))))

module _ {Z : Type 0} where
  -- the cores of an opening, in boxes
  pub boxed_share : (has_slots : Bool) (cores : ℕ) (zones ranges : List Stretch) (spans : List Span)
      (states : List CoreState) (boxes : List (Box CoreState Z)) → AreSpansOf cores zones ranges spans
      → MayBeUsed cores zones → MayBeHeldBack zones ranges → states_in boxes ≡ states
      → AreAllCoresOf has_slots cores (map place_of_span spans) states → ShareOne has_slots cores zones ranges boxes
  boxed_share has_slots cores zones ranges spans states boxes are used held e all = record {
    count = sym (length-map boxes (λ b. b.value)) ∙ ap (λ (ss : List CoreState). length ss) e ∙ all.count;
    memory = all.one.0;
    zones_are = record { used = used; held_back = held; spans = spans; are_spans = are; lie = all.one.1 };
    slots = all.one.2;
    share = unmapped (Shares all.one.0) (λ b. b.value) boxes states e all.one.3;
    homes = subst (λ n. HaveHomes cores n (parts_from_last (states_in boxes))) (length-map spans place_of_span ∙ are.count)
        (subst (λ (ss : List CoreState). HaveHomes cores (length (map place_of_span spans)) (parts_from_last ss)) (sym e) all.homes);
    unused = unmapped IsUnusedState (λ b. b.value) boxes states e all.unused;
  }

  -- as many handles as cores
  handed_count : (boxes : List (Box CoreState Z)) (handles : List CoreHandle) → AreHandedTo boxes handles
      → length handles ≡ length boxes
  handed_count boxes handles handed =
      sym (length-map handles core_behind)
      ∙ ap (λ os. length os) handed
      ∙ length-map (reverse (states_in boxes)) Some
      ∙ length-reverse (states_in boxes)
      ∙ length-map boxes (λ b. b.value)

  -- the same cores behind handles
  pub opens_in : (has_slots : Bool) (as_many : ℕ) (zones ranges : List Stretch) (boxes : List (Box CoreState Z))
      (handles : List CoreHandle) → ShareOne has_slots as_many zones ranges boxes → AreHandedTo boxes handles
      → ((m : Memory) → All (BoxShares m) boxes → All (IsCoreBehind m) handles)
      → (All IsBoxUnused boxes → All IsUnusedBehind handles) → OpensIn has_slots zones ranges handles
  opens_in has_slots as_many zones ranges boxes handles one handed shares unused =
      let count : as_many ≡ length handles = sym one.count ∙ sym (handed_count boxes handles handed) in (
        one.memory,
        subst (λ (n : ℕ). HasZones n zones ranges one.memory) count one.zones_are,
        one.slots,
        shares one.memory one.share,
        in_order as_many (length zones) (states_in boxes) handles count handed one.homes,
        unused one.unused,
      )
