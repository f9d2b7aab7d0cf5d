-- Blocks that begin in a zone.
use Rattle.std.proofs.Common.{◌≡◌, ℕ, zero, suc, ◌+◌, ◌<◌, ◌≤◌, List, [], ◌∷◌, ◌++◌, length, get_or, take, drop, map, arith, ap, subst, sym, refl, ◌∙◌}
use Rattle.std.specs.Prelude.{Bool, false, filter}
use Rattle.std.proofs.lemmas.Bool.Decides.{nat_tests}
use Rattle.std.proofs.lemmas.List.{get_or-take, get_or-drop, get_or_default, length-take, length-drop, take-append-drop, append-nil}
use Rattle.std.proofs.lemmas.List.Elements.{filter-append}
use Rattle.frame_model.specs.Block.{block}
use Rattle.frame_model.specs.declared.block.FrameBlock.{FrameBlock}
use Rattle.zone_slots.specs.Layouts.{Stretch, end_of}
use Rattle.zone_slots.specs.ZoneClaims.{begins_in, block_within, blocks_within, first_frame_at, BeginBelow}
use Rattle.frame_slots.specs.Claims.{Ascend}

-- where none passes, none is left
none_pass : {X : Type 0} (p : X → Bool) (xs : List X)
    → ((k : ℕ) (d : X) → k < length xs → p (get_or xs k d) ≡ false) → filter p xs ≡ []
none_pass p [] none = refl
none_pass p (x ∷ xs) none = rw (none zero x (omega arith)) (none_pass p xs (λ k d within. none (suc k) d (omega arith)))

begins_before : (zone : Stretch) (b : FrameBlock) → b.frame < zone.0 → begins_in zone b ≡ false
begins_before zone b before = grind (arith, nat_tests)

begins_behind : (zone : Stretch) (b : FrameBlock) → end_of zone ≤ b.frame → begins_in zone b ≡ false
begins_behind zone b behind = grind (arith, nat_tests)

-- none of those in front of the zone is in it
pub none_within : (zone : Stretch) (blocks own : List FrameBlock) (n : ℕ) → BeginBelow zone.0 blocks n → own ≡ []
    → own ≡ blocks_within zone (take n blocks)
none_within zone blocks own n cut none =
    let empty : filter (begins_in zone) (take n blocks) ≡ [] =
    none_pass (begins_in zone) (take n blocks) (λ k d within.
    let before : k < n = omega (arith, within, length-take n blocks) in
    begins_before zone (get_or (take n blocks) k d)
    (subst (λ (b : FrameBlock). b.frame < zone.0)
    (get_or_default blocks k (block 0 0) d (omega (arith, within, length-take n blocks)) ∙ sym (get_or-take n blocks k d before))
    (cut.below k before))) in
    none ∙ sym (ap (map (block_within zone)) empty)

-- none of those behind one that begins behind the zone is in it
pub all_within : (zone : Stretch) (blocks own : List FrameBlock) (i : ℕ) → Ascend blocks → i < length blocks
    → end_of zone ≤ first_frame_at blocks i → own ≡ blocks_within zone (take i blocks) → own ≡ blocks_within zone blocks
all_within zone blocks own i up within behind is =
    let p = begins_in zone in
    let none : filter p (drop i blocks) ≡ [] =
    none_pass p (drop i blocks) (λ k d h.
    let inside : i + k < length blocks = omega (arith, h, length-drop i blocks) in
    begins_behind zone (get_or (drop i blocks) k d)
    (subst (λ (b : FrameBlock). end_of zone ≤ b.frame)
    (get_or_default blocks (i + k) (block 0 0) d inside ∙ sym (get_or-drop i blocks k d))
    (omega (arith, behind, up i (i + k) (block 0 0) (omega arith) inside)))) in
    let whole : filter p blocks ≡ filter p (take i blocks) =
    ap (filter p) (sym (take-append-drop i blocks)) ∙ filter-append p (take i blocks) (drop i blocks)
    ∙ ap (λ rest. filter p (take i blocks) ++ rest) none ∙ append-nil (filter p (take i blocks)) in
    is ∙ sym (ap (map (block_within zone)) whole)
