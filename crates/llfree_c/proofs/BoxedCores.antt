-- Cores in boxes share what they share.
use Rattle.std.proofs.Common.{◌≡◌, ℕ, ◌+◌, ◌<◌, ◌≤◌, List, [], ◌∷◌, ◌++◌, Option, Some, None, length, map, set, take, slice_index_or, ap, sym, subst, ◌∙◌, arith}
use Rattle.std.proofs.Common.{append_assoc}
use Rattle.std.specs.Prelude.{reverse}
use Rattle.std.specs.List.{All}
use Rattle.std.specs.declared.boxed.Box.{Box}
use Rattle.std.proofs.lemmas.List.{append-nil, get_or-map, length-map, map-append, reverse-append, take_more_set, take_all}
use Rattle.frame_zones.specs.Openings.{HaveHomes, home_for}
use Rattle.frame_zones.specs.declared.zones.ZoneCore.{ZoneCore}
use Rattle.zone_slots.specs.Openings.{parts_from_last}
use Rattle.zone_slots.specs.declared.core_state.CoreState.{CoreState}
use Rattle.llfree_c.specs.OpenCores.{AreCoresInOrder, AreHandedTo, IsTakenFor, core_behind, states_in}
use Rattle.llfree_c.specs.SeenCores.{OnCore}
use Rattle.llfree_c.specs.declared.core_handle.CoreHandle.{CoreHandle}

module _ {X Y : Type 0} (P : Y → Type 0) (f : X → Y) where
  pub unmapped : (xs : List X) (ys : List Y) → map f xs ≡ ys → All P ys → All (λ x. P (f x)) xs
  unmapped xs ys e all k d less =
      subst P (get_or-map f xs k d (f d) less)
      (subst (λ (zs : List Y). All P zs) (sym e) all k (f d) (subst (λ (n : ℕ). k < n) (sym (length-map xs f)) less))

module _ {Z : Type 0} where
  -- one handle more has its core
  pub handed_more : (handles : List CoreHandle) (i : ℕ) (h : CoreHandle) (old new all : List (Box CoreState Z))
      → i < length handles → IsTakenFor h old new
      → map core_behind (take i handles) ++ map Some (reverse (states_in old)) ≡ map Some (reverse (states_in all))
      → map core_behind (take (i + 1) (set handles i h)) ++ map Some (reverse (states_in new))
      ≡ map Some (reverse (states_in all))
  handed_more handles i h old new all inside taken so =
      let rest : List (Option CoreState) = map Some (reverse (states_in new)) in
      let done : List (Option CoreState) = map core_behind (take i handles) in
      let more : map core_behind (take (i + 1) (set handles i h)) ≡ done ++ core_behind h ∷ [] =
      ap (λ (hs : List CoreHandle). map core_behind hs) (take_more_set handles i h inside)
      ∙ map-append core_behind (take i handles) (h ∷ []) in
      let before : map Some (reverse (states_in old)) ≡ Some taken.core ∷ rest =
      ap (λ (ss : List CoreState). map Some (reverse ss)) taken.boxes
      ∙ ap (λ (ss : List CoreState). map Some ss) (reverse-append (states_in new) (taken.core ∷ [])) in
      ap (λ (hs : List (Option CoreState)). hs ++ rest) more
      ∙ append_assoc done (core_behind h ∷ []) rest
      ∙ ap (λ (o : Option CoreState). done ++ o ∷ rest) taken.behind
      ∙ sym (ap (λ (ss : List (Option CoreState)). done ++ ss) before)
      ∙ so

  -- all of them have theirs
  pub handed_all : (handles : List CoreHandle) (i : ℕ) (left all : List (Box CoreState Z)) → length handles ≤ i
      → length left ≡ 0
      → map core_behind (take i handles) ++ map Some (reverse (states_in left)) ≡ map Some (reverse (states_in all))
      → AreHandedTo all handles
  handed_all handles i [] all done none so =
      sym (append-nil (map core_behind handles))
      ∙ sym (ap (λ (hs : List CoreHandle). map core_behind hs ++ []) (take_all i handles done))
      ∙ so
  handed_all handles i (b ∷ left) all done none so = absurd (omega (arith, none))

item_of : {X : Type 0} (xs : List X) → 0 < length xs → X
item_of [] within = absurd (omega (arith, within))
item_of (x ∷ xs) within = x

-- the cores behind handles are in the order of their homes
pub in_order : (as_many zones : ℕ) (states : List CoreState) (handles : List CoreHandle) → as_many ≡ length handles
    → map core_behind handles ≡ map Some (reverse states) → HaveHomes as_many zones (parts_from_last states)
    → AreCoresInOrder zones handles
in_order as_many zones states handles count handed homes k h within =
    let back : List CoreState = reverse states in
    let same : length back ≡ length handles =
    sym (length-map back Some) ∙ sym (ap (λ (os : List (Option CoreState)). length os) handed) ∙ length-map handles core_behind in
    let inside : k < length back = omega (arith, within, same) in
    let s : CoreState = item_of back (omega (arith, inside)) in
    let at : core_behind (slice_index_or handles k h) ≡ Some (slice_index_or back k s) =
    sym (get_or-map core_behind handles k h None within)
    ∙ ap (λ (os : List (Option CoreState)). slice_index_or os k None) handed
    ∙ get_or-map Some back k s None inside in
    let home : (slice_index_or back k s).core.home ≡ home_for k as_many zones =
    sym (ap (λ (c : ZoneCore). c.home) (get_or-map (λ t. t.core) back k s s.core inside))
    ∙ homes k s.core (subst (λ n. k < n) (sym (length-map back (λ t. t.core))) inside) in
    subst (λ (o : Option CoreState). OnCore (λ t. t.core.home ≡ home_for k (length handles) zones) o) (sym at)
    (home ∙ ap (λ n. home_for k n zones) count)
