-- What was given can be taken.
use Rattle.std.proofs.Common.{◌≡◌, ℕ, ◌<◌, List, sym, arith}
use Rattle.std.specs.Prelude.{Result, Ok, Err, IfErr}
use Rattle.std.proofs.lemmas.Bool.Decides.{nat_tests}
use Rattle.frame_words.specs.declared.fault.TakeFault.{TakeFault}
use Rattle.frame_words.specs.declared.fault.TakeFault.TheVariants.{BadOrder, NoBlock, Contended}
use Rattle.frame_model.specs.declared.block.FrameBlock.{FrameBlock}
use Rattle.frame_model.specs.declared.key.Key.{Key}
use Rattle.frame_model.specs.Block.{IsBlock, covers}
use Rattle.frame_model.specs.Key.{frame_count, child_of}
use Rattle.frame_model.specs.Report.{held_at}
use Rattle.frame_table.specs.Seats.{block_in}
use Rattle.frame_table.specs.declared.block.Block.{Block}
use Rattle.low_frames.specs.Alone.{IsFreeIn}
use Rattle.core_frames.specs.Alone.{SameFrames}
use Rattle.core_frames.specs.Cores.{memory_of, lent_by, IsSureOf, IsOutOf}
use Rattle.core_frames.specs.Uses.{GivesAlone, IsRefusedFor}
use Rattle.core_frames.specs.declared.shared.allocator.Allocator.{Allocator}
use Rattle.core_frames.specs.declared.shared.allocator.Core.{Core}

-- a frame of a block lies in memory
in_memory : (key : Key) (b : FrameBlock) (x : ℕ) → IsBlock key b → covers b x ≡ 1 → x < frame_count key
unfolding covers
in_memory key b x is inside = grind (arith, nat_tests)

-- a free block is free still
still_free : (key : Key) (ws us : List ℕ) (b : FrameBlock) → IsBlock key b → SameFrames key ws us → IsFreeIn key ws b
    → IsFreeIn key us b
unfolding held_at
still_free key ws us b is same free x inside =
    let within : x < frame_count key = in_memory key b x is inside in
    omega (arith, free x inside, same.bits x within, same.flags (child_of x) (omega arith))

-- the core was sure, gave the block and is sure: no take of its order is refused
pub never_refused : (a : Allocator) (b : Block) (c d e : Core) (n : ℕ) (answer : Result Block TakeFault) → IsOutOf a b
    → IsSureOf a c → GivesAlone a (block_in b) c d → IsSureOf a d → n ≡ b.order
    → IfErr answer (λ fault. IsRefusedFor a n d e fault × (lent_by e ≡ lent_by d)) → IfErr answer (λ _. ⊥)
never_refused a b c d e n (Ok taken) out was given sure order refused = tt
never_refused a b c d e n (Err BadOrder) out was given sure order refused =
    absurd (omega (arith, refused.0.0, order, out.is_block.order))
never_refused a b c d e n (Err Contended) out was given sure order refused = absurd (refused.0.2 sure)
never_refused a b c d e n (Err NoBlock) out was given sure order refused =
    let more = rw was.1.1 at (given was.0) in
    let none = rw more.1.0 at (refused.0.2 sure.0) in
    absurd (none.1.1.none (block_in b) (record { is_block = out.is_block; has_order = sym order })
    (still_free (memory_of a) more.0 none.0 (block_in b) out.is_block none.1.1.frames more.1.1.was_free))
