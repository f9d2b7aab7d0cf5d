-- What an adoption leaves of what was held before an opening: all that is apart from the block.
use Rattle.std.proofs.Common.{◌≡◌, ℕ, ◌+◌, ◌<◌, ◌≤◌, List, ◌∷◌, length, get_or, arith}
use Rattle.std.specs.List.{All}
use Rattle.std.proofs.lemmas.List.Elements.{All-tail}
use Rattle.std.proofs.lemmas.List.Sums.{sum_by-cons, get_or-le-sum_by}
use Rattle.frame_model.specs.declared.block.FrameBlock.{FrameBlock}
use Rattle.frame_model.specs.declared.key.Key.{Key}
use Rattle.frame_model.specs.Key.{child_of}
use Rattle.frame_model.specs.Block.{IsBlock, covers}
use Rattle.frame_model.specs.Holding.{holders}
use Rattle.frame_model.specs.Steps.Amounts.{Leaves}
use Rattle.frame_model.specs.Without.{without}
use Rattle.frame_model.proofs.Safe.{covers_is}
use Rattle.frame_model.proofs.Without.{without_leaves, whole_child, first_of_child}
use Rattle.frame_table.specs.Openings.{IsLeft}
use Rattle.core_frames.specs.Left.{StayLeft}

holders-cons : (x : ℕ) (b : FrameBlock) (others : List FrameBlock) → holders x (b ∷ others) ≡ covers b x + holders x others
unfolding holders
holders-cons x b others = sum_by-cons (λ d. covers d x) b others

holders_at : (x : ℕ) (bs : List FrameBlock) (k : ℕ) (d : FrameBlock) → k < length bs → covers (get_or bs k d) x ≤ holders x bs
unfolding holders
holders_at x bs k d h = get_or-le-sum_by (λ b. covers b x) bs k d h

pub stay_left : (key : Key) (b : FrameBlock) (left : List FrameBlock) → All (IsBlock key) left → IsLeft key left b
    → StayLeft key b left (without b left)
stay_left key b left are was others apart all = (
  record {
    blocks = All-tail (IsBlock key) b others apart.blocks;
    disjoint = λ x. omega (arith, apart.disjoint x, holders-cons x b others);
  },
  λ k e h.
      let d : FrameBlock = get_or others k e in
      let is : IsLeft key left d = all k e h in
      let l : Leaves key left b (without b left) = without_leaves key b left was.is_block are was.held in
      let beside : (x : ℕ) → covers b x + covers d x ≤ 1 = (λ x. omega (
        arith,
        apart.disjoint x,
        holders-cons x b others,
        holders_at x others k e h,
      )) in
      record {
        is_block = is.is_block;
        exists = is.exists;
        held = record {
          smalls = λ low x c. omega (arith, is.held.smalls low x c, l.smalls x, beside x, c, covers_is key x b was.is_block);
          wholes = λ top. omega (
            arith,
            is.held.wholes top,
            l.wholes (child_of d.frame),
            beside d.frame,
            covers_is key d.frame b was.is_block,
            covers_is key d.frame d is.is_block,
            whole_child d top (first_of_child d is.is_block.aligned top),
          );
        };
      },
)
