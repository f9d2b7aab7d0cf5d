-- What words say does not depend on what the key names as held back, nor on who has it.
use Rattle.std.proofs.Common.{◌≡◌, ℕ, List, refl, sym, ◌∙◌, arith}
use Rattle.frame_model.specs.declared.block.FrameBlock.{FrameBlock}
use Rattle.frame_model.specs.declared.key.Key.{Key}
use Rattle.frame_model.specs.Block.{IsBlock}
use Rattle.frame_model.specs.Laws.{AddsUp}
use Rattle.frame_model.specs.Rebuilt.{rebuilt_free, rebuilt_in_tree, rebuilt_bits, IsRebuilt}
use Rattle.frame_model.specs.Report.{held_at}
use Rattle.frame_model.specs.Stops.{unsealed}
use Rattle.frame_model.specs.Words.{word_count, tree_place, local_place, bits_place, tree_word_of, tree_free_of, reserved_of, local_word_of}
use Rattle.frame_model.specs.Words.{rest_of, bit_word_of, bit_of, set_of, held_of, held_in_tree, resting_on, cores_on}
use Rattle.frame_model.proofs.HeldBack.{in_range_unsealed}
use Rattle.low_frames.specs.Alone.{HoldsMore}
use Rattle.core_frames.specs.Search.{IsBlockOf}
use Rattle.core_frames.specs.Alone.{SameFrames, HasNoneOf}
use Rattle.core_frames.specs.Splits.{HoldsHalves}

bit_same : (key : Key) (ws : List ℕ) (x : ℕ) → bit_of (unsealed key) ws x ≡ bit_of key ws x
unfolding bit_of bit_word_of bits_place
bit_same key ws x = refl

pub held_same : (key : Key) (ws : List ℕ) (x : ℕ) → held_at (unsealed key) ws x ≡ held_at key ws x
unfolding held_at bit_of bit_word_of bits_place
held_same key ws x = refl

pub block_under : (key : Key) (b : FrameBlock) → IsBlock key b → IsBlock (unsealed key) b
block_under key b is = record { order = is.order; aligned = is.aligned; inside = is.inside }

pub block_over : (key : Key) (b : FrameBlock) → IsBlock (unsealed key) b → IsBlock key b
block_over key b is = record { order = is.order; aligned = is.aligned; inside = is.inside }

pub order_over : (key : Key) (order : ℕ) (b : FrameBlock) → IsBlockOf (unsealed key) order b → IsBlockOf key order b
order_over key order b is = record { is_block = block_over key b is.is_block; has_order = is.has_order }

pub more_over : (key : Key) (ws us : List ℕ) (b : FrameBlock) → HoldsMore (unsealed key) ws us b → HoldsMore key ws us b
more_over key ws us b more = record {
  was_free = λ x e. sym (held_same key ws x) ∙ more.was_free x e;
  bits = λ x h. omega (arith, more.bits x h, bit_same key ws x, bit_same key us x);
  flags = more.flags;
}

pub frames_over : (key : Key) (ws us : List ℕ) → SameFrames (unsealed key) ws us → SameFrames key ws us
frames_over key ws us same = record {
  bits = λ x h. omega (arith, same.bits x h, bit_same key ws x, bit_same key us x);
  flags = same.flags;
}

pub none_over : (key : Key) (n : ℕ) (ws : List ℕ) → HasNoneOf (unsealed key) n ws → HasNoneOf key n ws
none_over key n ws none b is free =
    none b (record { is_block = block_under key b is.is_block; has_order = is.has_order }) (λ x e. held_same key ws x ∙ free x e)

pub halves_over : (key : Key) (b first second : FrameBlock) (ws us : List ℕ) → HoldsHalves (unsealed key) b first second ws us
    → HoldsHalves key b first second ws us
halves_over key b first second ws us halves = record {
  frames = λ x h. sym (held_same key us x) ∙ halves.frames x h ∙ held_same key ws x;
  bits = λ x h. omega (arith, halves.bits x h, bit_same key ws x, bit_same key us x);
  flags = halves.flags;
}

pub rebuilt_under : (key : Key) (old new : List ℕ) → IsRebuilt key old new → IsRebuilt (unsealed key) old new
unfolding word_count tree_place local_place bits_place tree_word_of tree_free_of reserved_of local_word_of rest_of
    bit_word_of set_of rebuilt_free rebuilt_in_tree rebuilt_bits
rebuilt_under key old new r = record {
  in_range = in_range_unsealed key new r.in_range;
  huge = r.huge;
  free = r.free;
  bits = r.bits;
  trees = r.trees;
  unreserved = r.unreserved;
  resting = r.resting;
}

pub adds_over : (key : Key) (ws : List ℕ) → AddsUp (unsealed key) ws → AddsUp key ws
unfolding tree_place local_place bits_place tree_word_of tree_free_of reserved_of local_word_of rest_of set_of held_of
    held_in_tree resting_on cores_on
adds_over key ws adds = record {
  entries = adds.entries;
  trees = adds.trees;
  reserved = adds.reserved;
  same_entries = λ new r c h. adds.same_entries new (rebuilt_under key ws new r) c h;
  same_trees = λ new r t h. adds.same_trees new (rebuilt_under key ws new r) t h;
}
