-- Pairs of cores of all zones: one for small blocks, one for huge frames.
use Rattle.std.specs.Prelude.{◌≡◌, ℕ, ◌+◌, ◌<◌, ◌++◌, List, length, map, nat_eq, slice_index_or, if◌then◌else◌}
use Rattle.frame_words.specs.Geometry.{huge_order}
use Rattle.frame_table.specs.Seats.{block_in}
use Rattle.frame_zones.specs.Homes.{MovesHome}
use Rattle.frame_zones.specs.Openings.{home_for}
use Rattle.frame_zones.specs.Zones.{AreCoresOf, StayCoresOf}
use Rattle.frame_zones.specs.declared.block.ZoneBlock.{ZoneBlock}
use Rattle.frame_zones.specs.declared.pairs.PairCore.{PairCore}
use Rattle.frame_zones.specs.declared.zones.Zones.{Zones}
use Rattle.frame_zones.specs.declared.zones.ZoneCore.{ZoneCore}

-- the core of a pair that blocks of this order go through
abbrev pub core_for : ℕ → PairCore → ZoneCore
core_for n p = if nat_eq n huge_order then p.huge else p.small

-- the one that this block goes through
abbrev pub core_for_block : ZoneBlock → PairCore → ZoneCore
core_for_block b p = core_for (block_in b.block).order p

-- the one that blocks of this order do not go through
abbrev pub core_beside : ℕ → PairCore → ZoneCore
core_beside n p = if nat_eq n huge_order then p.small else p.huge

-- both are cores of these zones, and share a home
pub record ArePairOf (zs : Zones) (p : PairCore) : Type 0 where
  pub small : AreCoresOf zs p.small
  pub huge : AreCoresOf zs p.huge
  pub same_home : p.huge.home ≡ p.small.home

-- they still are; the one for blocks of this order is the same one of its zone's cores, the other is as before
pub record StayPairFor (zs : Zones) (n : ℕ) (p q : PairCore) : Type 0 where
  pub are_pair : ArePairOf zs q
  pub through : StayCoresOf zs (core_for n p) (core_for n q)
  pub beside : core_beside n q ≡ core_beside n p

-- the pair is of these two cores, whose home is now this zone
pub record IsPairFrom (z : ℕ) (small huge : ZoneCore) (p : PairCore) : Type 0 where
  pub for_small : MovesHome z small p.small
  pub for_huge : MovesHome z huge p.huge

-- so many pairs are of the cores of two lists, in order, and their homes lie evenly among so many zones
pub record ArePairsOf (zones n : ℕ) (small huge : List ZoneCore) (pairs : List PairCore) : Type 0 where
  pub count : length pairs ≡ n
  pub each : (k : ℕ) (c d : ZoneCore) (p : PairCore) → k < n → IsPairFrom (home_for k n zones)
      (slice_index_or small k c) (slice_index_or huge k d) (slice_index_or pairs k p)

-- each core of the first half is paired with the one of the second half that has its place there, and the homes
-- of the pairs lie evenly among so many zones
pub record ArePaired (zones : ℕ) (cores : List ZoneCore) (pairs : List PairCore) : Type 0 where
  pub count : length cores ≡ length pairs + length pairs
  pub each : (k : ℕ) (c d : ZoneCore) (p : PairCore) → k < length pairs
      → IsPairFrom (home_for k (length pairs) zones) (slice_index_or cores k c)
      (slice_index_or cores (length pairs + k) d) (slice_index_or pairs k p)

-- the cores of pairs: those for small blocks, in order, and then those for huge frames
abbrev pub cores_of_pairs : List PairCore → List ZoneCore
cores_of_pairs pairs = map (λ p. p.small) pairs ++ map (λ p. p.huge) pairs
