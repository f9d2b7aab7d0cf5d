use Rattle.std.proofs.Common.{◌^◌, ℕ, ap, sym, arith}
use Rattle.frame_model.specs.declared.block.FrameBlock.{FrameBlock}
use Rattle.core_frames.proofs.laws.wrong_halves_and_counts_are_not_told.Goals as goal

abbrev frame_of : FrameBlock → ℕ
frame_of b = b.frame

abbrev order_of : FrameBlock → ℕ
order_of b = b.order

pub returns : goal.returns
returns c = record {
  split = λ a b first second c d. (
    λ other is. other (ap frame_of is.are_halves.lower),
    λ other is. other (omega (arith, ap frame_of is.are_halves.upper, ap (λ (z : FrameBlock). 2 ^ z.order) is.are_halves.lower)),
    λ other is. other (omega (arith, is.are_halves.some, ap order_of is.are_halves.lower)),
    λ other is. other (omega (arith, is.are_halves.some, ap order_of is.are_halves.upper)),
    λ in_hand is. in_hand is.first_out,
    λ in_hand is. in_hand is.second_out,
    λ other is. other is.lent,
  );
  join = λ a lower upper b c d. (
    λ other is. other (sym (ap frame_of is.are_halves.lower)),
    λ other is. other (omega (arith, is.are_halves.some, ap order_of is.are_halves.lower)),
    λ other is. other is.are_buddies.beside,
    λ none is. none is.are_buddies,
    λ in_hand is. in_hand is.is_out,
    λ other is. other is.lent,
  );
  counts = λ a counts c. (
    λ more is. absurd (omega (arith, more, is.frames)),
    λ more is. absurd (omega (arith, more, is.frames)),
    λ less few is. absurd (omega (arith, less, few, is.frames)),
    λ more is. absurd (omega (arith, more, is.huge)),
    λ more is. absurd (omega (arith, more, is.huge)),
    λ less few is. absurd (omega (arith, less, few, is.huge)),
  );
  desk = λ most c d other is. other is.lent;
  habit = λ c d other is. other is;
}
