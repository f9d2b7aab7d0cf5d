use Rattle.std.proofs.Common.{◌-◌, ap, arith}
use Rattle.std.specs.Int.{bit_not, w64}
use Rattle.std.specs.Int.Count.{ones}
use Rattle.std.proofs.lemmas.Nat.{and_le_l}
use Rattle.std.proofs.lemmas.Nat.Bits.{bit_at_and}
use Rattle.frame_model.proofs.Bits.{ones_zero, ones_clear}
use Rattle.low_frames.proofs.BitLemmas.{one_less}
use Rattle.low_frames.proofs.singles.lowest.Goals as goal

pub loop-i-init : goal.loop-i-init
loop-i-init c = record { fits = c.ranges.word.fits; among = λ j. omega arith; count = omega arith }

pub loop-i-preserved : goal.loop-i-preserved
loop-i-preserved c =
    let was = c.loop-i.invariant in
    let rest = c.loop-i.rest in
    record {
      fits = omega (arith, and_le_l rest (rest - 1), was.fits);
      among = λ j. omega (arith, bit_at_and rest (rest - 1) j, was.among j);
      count = omega (arith, one_less rest (omega (arith, c.if-rest-eq0.false)) was.fits, was.count);
    }

pub returns-then-rest-eq0-clause-few : goal.returns-then-rest-eq0-clause-few
returns-then-rest-eq0-clause-few c =
    omega (arith, c.loop-i.invariant.count, ap ones c.if-rest-eq0.true, ones_zero, c.loop-i-test.true)

pub returns-clause-among : goal.returns-clause-among
returns-clause-among c = λ j. omega (arith, bit_at_and c.args.word (bit_not w64 c.loop-i.rest) j)

pub returns-clause-few : goal.returns-clause-few
returns-clause-few c =
    omega (
      arith,
      ones_clear c.args.word c.loop-i.rest c.ranges.word.fits c.loop-i.invariant.fits (λ j h. c.loop-i.invariant.among j),
      c.loop-i.invariant.count,
      c.loop-i-test.false,
    )

pub returns-clause-all : goal.returns-clause-all
returns-clause-all c = λ few.
    absurd (omega (
      arith,
      few,
      ones_clear c.args.word c.loop-i.rest c.ranges.word.fits c.loop-i.invariant.fits (λ j h. c.loop-i.invariant.among j),
      c.loop-i.invariant.count,
      c.loop-i-test.false,
      c.loop-i.auto._i-end,
    ))
