use Rattle.std.proofs.Common.{◌≡◌, length, arith}
use Rattle.llfree_trace.proofs.Commands.{of_one, of_three, of_four, of_others}
use Rattle.llfree_trace.proofs.command.command_of.Goals as goal

pub returns-in-1 : goal.returns-in-1
returns-in-1 c =
    let one : length c.args.words.now ≡ 1 = omega arith in
    rw (c.command_in.ensures, c.as_str.ensures.value) (of_one _ c.args.words.now c.index-words-0.result one c.index-words-0.is)

pub returns-in-3 : goal.returns-in-3
returns-in-3 c =
    let three : length c.args.words.now ≡ 3 = omega arith in
    rw (c.run_in.ensures, c.sizes_in.ensures, c.as_str-in-3.ensures.value, c.as_str-in-3-2.ensures.value, c.as_str-in-3-3.ensures.value)
    (of_three _ c.args.words.now c.index-words-0-in-3.result c.index-words-1.result c.index-words-2.result three c.index-words-0-in-3.is
    c.index-words-1.is c.index-words-2.is)

pub returns-in-4 : goal.returns-in-4
returns-in-4 c =
    let four : length c.args.words.now ≡ 4 = omega arith in
    rw (
      c.run_in-in-4.ensures,
      c.cut_sizes_in.ensures,
      c.sizes_in-sizes.ensures,
      c.as_str-in-4.ensures.value,
      c.as_str-in-4-2.ensures.value,
      c.as_str-in-4-3.ensures.value,
      c.as_str-in-4-4.ensures.value,
    )
    (of_four _ c.args.words.now c.index-words-0-in-4.result c.index-words-1-in-4.result c.index-words-2-in-4.result c.index-words-3.result
    four c.index-words-0-in-4.is c.index-words-1-in-4.is c.index-words-2-in-4.is c.index-words-3.is)

pub returns-in_default : goal.returns-in_default
returns-in_default c =
    of_others _ c.args.words.now (λ e. absurd (omega arith)) (λ e. absurd (omega arith)) (λ e. absurd (omega arith))
