-- Why takes and splits of several threads were refused, by the status that each answered.
use Rattle.std.specs.Prelude.{◌≡◌, ◌⊎◌, ℕ, ◌<◌, true, false}
use Rattle.zone_slots.specs.Calls.{zones_of, LosesFor, IsContendedFor, CountsNone, CountsOne, KeepsCore, KeepsAllInEach}
use Rattle.zone_slots.specs.Parts.{HasPartsOf, count_of_parts, LeavesPartsOut}
use Rattle.zone_slots.specs.Uses.{FindsNothingAnywhere}
use Rattle.zone_slots.specs.declared.core_state.CoreState.{CoreState}
use Rattle.llfree_c.specs.Status.{no_block, bad_order, not_held, not_closed, contended}
use Rattle.llfree_c.specs.declared.block_handle.BlockHandle.{BlockHandle}

-- the core found no block of the order in any zone, and lost no exchange
pub record HasSearchedAll (order : ℕ) (s t : CoreState) : Type 0 where
  pub in_each : FindsNothingAnywhere (zones_of s) order s.core t.core

-- why a take of the order by numbers was refused: there are no blocks of that order; or none was found and
-- no exchange was lost; or one was, or the block that was taken found no slot, which alone is counted
abbrev pub RefusesTakeAs : (order status : ℕ) → CoreState → CoreState → Type 0
RefusesTakeAs order status s t =
    ((status ≡ bad_order) × (9 < order) × KeepsCore s t × CountsNone s t)
    ⊎ ((status ≡ no_block) × HasSearchedAll order s t × CountsNone s t)
    ⊎ ((status ≡ contended) × IsContendedFor order s t)

-- why a take of a block of the order into the struct was refused: that carries one; there are no blocks of
-- that order; or none was found and no exchange was lost; or one was
abbrev pub RefusesBlockAs : (order : ℕ) → (held : BlockHandle) → (status : ℕ) → CoreState → CoreState → Type 0
RefusesBlockAs order held status s t =
    ((status ≡ not_closed) × (held.live ≡ true) × KeepsCore s t)
    ⊎ ((status ≡ bad_order) × (9 < order) × KeepsCore s t)
    ⊎ ((status ≡ no_block) × HasSearchedAll order s t)
    ⊎ ((status ≡ contended) × LosesFor order s t)

-- why a split of this block by numbers was refused: it has no halves; or it is not held; or a half found no slot,
-- which alone is counted: then at most one half is lent, and what the core keeps is as before
abbrev pub RefusesSplitAs : (order frame status : ℕ) → CoreState → CoreState → Type 0
RefusesSplitAs order frame status s t =
    ((status ≡ bad_order) × (order ≡ 0) × KeepsCore s t × CountsNone s t)
    ⊎ ((status ≡ not_held) × (0 < order) × KeepsCore s t × CountsNone s t)
    ⊎ ((status ≡ contended) × (0 < order) × CountsOne s t
    × LeavesPartsOut (zones_of s) order 2 frame s.core t.core × KeepsAllInEach s t)

-- why a split of this block into blocks of an order by numbers was refused: it has no such parts; or it is not held;
-- or a part found no slot, which alone is counted: then fewer blocks are lent than it has parts, and what the core
-- keeps is as before
abbrev pub RefusesSplitToAs : (order to frame status : ℕ) → CoreState → CoreState → Type 0
RefusesSplitToAs order to frame status s t =
    ((status ≡ bad_order) × (¬ HasPartsOf order to) × KeepsCore s t × CountsNone s t)
    ⊎ ((status ≡ not_held) × HasPartsOf order to × KeepsCore s t × CountsNone s t)
    ⊎ ((status ≡ contended) × HasPartsOf order to × CountsOne s t
    × LeavesPartsOut (zones_of s) order (count_of_parts order to) frame s.core t.core × KeepsAllInEach s t)

-- why what a struct carries was not split into it and the other one: it has no halves; or none is carried; or
-- the other one carries one
abbrev pub RefusesHalvesAs : (held upper : BlockHandle) → (status : ℕ) → CoreState → CoreState → Type 0
RefusesHalvesAs held upper status s t = KeepsCore s t
    × (((status ≡ bad_order) × (held.order ≡ 0))
    ⊎ ((status ≡ not_held) × (held.live ≡ false))
    ⊎ ((status ≡ not_closed) × (upper.live ≡ true)))
