-- Zones are brought into the state of an image, one after another.
use Rattle.std.proofs.Common.{◌≡◌, ℕ, ◌+◌, ◌*◌, ◌/◌, ◌<◌, ◌≤◌, List, [], ◌∷◌, ◌++◌, length, map, slice_index_or, slice_set, sym, ◌∙◌, subst, arith, inl, inr}
use Rattle.std.specs.declared.alloc.Global.{Global}
use Rattle.std.specs.declared.vec.Vec.{Vec}
use Rattle.std.proofs.lemmas.Bool.{cases_lt}
use Rattle.std.proofs.lemmas.List.{get_or_append_left, get_or_push}
use Rattle.std.proofs.lemmas.List.Sums.{sum_by_more}
use Rattle.std.specs.List.{All, remove}
use Rattle.std.proofs.lemmas.List.Elements.{All-drop}
use Rattle.frame_model.specs.declared.block.FrameBlock.{FrameBlock}
use Rattle.frame_table.specs.Ties.{table_sizes}
use Rattle.core_frames.specs.declared.shared.allocator.Allocator.{Allocator}
use Rattle.core_frames.specs.declared.shared.allocator.Core.{Core}
use Rattle.core_frames.specs.Cores.{memory_of}
use Rattle.frame_slots.specs.Reopenings.{KeepsHeldBeside}
use Rattle.frame_slots.specs.Slots.{IsUnused, laid_down}
use Rattle.frame_slots.specs.declared.receipt.Receipt.{Receipt}
use Rattle.frame_zones.specs.Uses.{OthersStay}
use Rattle.frame_zones.specs.Zones.{zone_count, zone_at, core_at, AreCoresOf}
use Rattle.frame_zones.specs.declared.zones.Zones.{Zones}
use Rattle.frame_zones.specs.declared.zones.ZoneCore.{ZoneCore}
use Rattle.frame_zones.proofs.Placing.{at_any_zone}
use Rattle.zone_slots.specs.ImageParts.{numbers_before, numbers_from}
use Rattle.zone_slots.specs.Reopenings.{claims_in, KeepsRestIn, HasLaidIn}

-- a list without its first item
pub All-remove_first : {X : Type 0} (P : X → Type 0) (xs ys : List X) (x : X) → ys ≡ remove xs 0
    → x ≡ slice_index_or xs 0 x → 0 < length xs → All P xs → All P ys × P x
All-remove_first {X} P xs ys x is at some all =
    (subst (λ (l : List X). All P l) (sym is) (All-drop P 1 xs all), subst P (sym at) (all 0 x some))

-- what the written core keeps, at each default
pub rest_here : (zs : Zones) (c d : ZoneCore) (z : ℕ) (b : Allocator) (w y : Core) (numbers : List ℕ) (blocks : List FrameBlock)
    → AreCoresOf zs c → z < zone_count zs → b ≡ zone_at zs z b → w ≡ core_at c z w → d.cores.items ≡ slice_set c.cores.items z y
    → KeepsHeldBeside (memory_of b).frames numbers blocks y
    → (a : Allocator) (x : Core) → KeepsHeldBeside (memory_of (zone_at zs z a)).frames numbers blocks (core_at d z x)
rest_here zs c d z b w y numbers blocks are within b-is w-is is keeps a x =
    at_any_zone (λ e _ v. KeepsHeldBeside (memory_of e).frames numbers blocks v) zs c d z b a w y x within are.parts.count b-is w-is is keeps

-- one zone more has what the image holds there
pub rest_more : (numbers : List ℕ) (claimed : List (Vec FrameBlock Global)) (zs : Zones) (c d : ZoneCore) (i : ℕ)
    → i < zone_count zs → ((z : ℕ) → z < i → KeepsRestIn numbers claimed zs c z) → OthersStay zs i c d
    → KeepsRestIn numbers claimed zs d i → (z : ℕ) → z < i + 1 → KeepsRestIn numbers claimed zs d z
rest_more numbers claimed zs c d i within before others here z below a x v =
    elim (cases_lt z i) as (λ _. KeepsHeldBeside (memory_of (zone_at zs z a)).frames (numbers_from zs numbers z) (claims_in claimed z v) (core_at d z x)) [
      | inl less ↦
          subst (λ (y : Core). KeepsHeldBeside (memory_of (zone_at zs z a)).frames (numbers_from zs numbers z) (claims_in claimed z v) y)
          (sym (others z x (omega (arith, less, within)) (λ same. omega (arith, same, less)))) (before z less a x v)
      | inr past ↦
          let at : i ≡ z = omega (arith, past, below) in
          subst (λ n. KeepsRestIn numbers claimed zs d n) at here a x v
    ]

pub unused_more : (zs : Zones) (c d : ZoneCore) (i : ℕ) → OthersStay zs i c d
    → ((k : ℕ) (x : Core) → i ≤ k → k < zone_count zs → IsUnused (core_at c k x))
    → (k : ℕ) (x : Core) → i + 1 ≤ k → k < zone_count zs → IsUnused (core_at d k x)
unused_more zs c d i others before k x past within =
    subst IsUnused (sym (others k x within (λ same. omega (arith, same, past)))) (before k x (omega (arith, past)) within)

pub laid_more : (claimed : List (Vec FrameBlock Global)) (rows : List (Vec Receipt Global)) (i : ℕ) (row : Vec Receipt Global)
    → length rows ≡ i → ((z : ℕ) → z < i → HasLaidIn claimed rows z)
    → ((v : Vec FrameBlock Global) → map laid_down row.items ≡ claims_in claimed i v)
    → (z : ℕ) → z < i + 1 → HasLaidIn claimed (rows ++ row ∷ []) z
laid_more claimed rows i row count before here z below v r =
    elim (cases_lt z i) as (λ _. map laid_down (slice_index_or (rows ++ row ∷ []) z r).items ≡ claims_in claimed z v) [
      | inl less ↦ subst (λ (w : Vec Receipt Global). map laid_down w.items ≡ claims_in claimed z v)
          (sym (get_or_append_left rows (row ∷ []) r z (subst (λ n. z < n) (sym count) less))) (before z less v r)
      | inr past ↦
          let at : i ≡ z = omega (arith, past, below) in
          subst (λ (w : Vec Receipt Global). map laid_down w.items ≡ claims_in claimed z v) (sym (get_or_push rows row r z (count ∙ at)))
          (subst (λ n. map laid_down row.items ≡ claims_in claimed n v) at (here v))
    ]

-- the children of a zone, by its frames
pub children_of : (a : Allocator) (n : ℕ) → n ≡ (memory_of a).frames → (n + 511) / 512 ≡ (memory_of a).children
children_of a n is =
    omega (
      arith,
      is,
      (table_sizes a.table).some_children,
      (table_sizes a.table).last_child,
      (table_sizes a.table).inside,
    )

-- the numbers of one zone more
pub before_more : (zs : Zones) (z : ℕ) (a : Allocator) → z < zone_count zs
    → numbers_before zs (z + 1) ≡ numbers_before zs z + 9 * (memory_of (zone_at zs z a)).children
before_more zs z a within = omega (arith, sum_by_more (λ (b : Allocator). (memory_of b).children) zs.zones.items z a within)
