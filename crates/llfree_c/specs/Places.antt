-- Takes of just one block: what they leave in a struct, and why they were refused, by the status that each answered.
use Rattle.std.specs.Prelude.{◌≡◌, ◌⊎◌, ℕ, true}
use Rattle.frame_words.specs.declared.fault.TakeFault.TheVariants.{BadOrder, NoBlock, Contended}
use Rattle.frame_zones.specs.Places.{MovesForPlace}
use Rattle.frame_zones.specs.Uses.{OthersStay}
use Rattle.zone_slots.specs.Calls.{zones_of, KeepsCore}
use Rattle.zone_slots.specs.Places.{RefusesTakeAt, RefusesBlockAt}
use Rattle.zone_slots.specs.declared.core_state.CoreState.{CoreState}
use Rattle.llfree_c.specs.Blocks.{TakesHeld}
use Rattle.llfree_c.specs.Status.{no_block, bad_order, not_closed, contended}
use Rattle.llfree_c.specs.declared.block_handle.BlockHandle.{BlockHandle}

-- just this block was taken through the core by the moves of such a take, and is carried; in every other zone all is as
-- before
pub record TakesHeldAt (order place : ℕ) (h : BlockHandle) (s t : CoreState) : Type 0 where
  pub takes : TakesHeld order h s t
  pub begins : h.frame ≡ place
  pub others : OthersStay (zones_of s) takes.taken.zone s.core t.core
  pub moves : MovesForPlace (zones_of s) place s.core t.core

-- why a take of just this block by numbers was refused: there are no blocks of that order; or the memory does not have
-- it, or it was looked at and no exchange was lost; or one was, or the block that was taken found no slot
abbrev pub RefusesTakeAtAs : (order frame status : ℕ) → CoreState → CoreState → Type 0
RefusesTakeAtAs order frame status s t =
    ((status ≡ bad_order) × RefusesTakeAt order frame s t BadOrder)
    ⊎ ((status ≡ no_block) × RefusesTakeAt order frame s t NoBlock)
    ⊎ ((status ≡ contended) × RefusesTakeAt order frame s t Contended)

-- why a take of just this block into the struct was refused: that carries one; there are no blocks of that order; or
-- the memory does not have it, or it was looked at and no exchange was lost; or one was
abbrev pub RefusesBlockAtAs : (order frame : ℕ) → (held : BlockHandle) → (status : ℕ) → CoreState → CoreState → Type 0
RefusesBlockAtAs order frame held status s t =
    ((status ≡ not_closed) × (held.live ≡ true) × KeepsCore s t)
    ⊎ ((status ≡ bad_order) × RefusesBlockAt order frame s t BadOrder)
    ⊎ ((status ≡ no_block) × RefusesBlockAt order frame s t NoBlock)
    ⊎ ((status ≡ contended) × RefusesBlockAt order frame s t Contended)
