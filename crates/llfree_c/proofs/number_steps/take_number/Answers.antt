use Rattle.std.proofs.Common.{subst}
use Rattle.zone_slots.specs.FrameNumbers.{RefusesNumber}
use Rattle.llfree_c.proofs.NumberedFrames.{number_not_found, number_lost, singles_are}
use Rattle.llfree_c.proofs.number_steps.take_number.Goals as goal

pub returns-in-Err-BadOrder-clause-refused : goal.returns-in-Err-BadOrder-clause-refused
returns-in-Err-BadOrder-clause-refused c =
    absurd (singles_are c.args.state.now c.take_number.new.self
    (subst (λ fault. RefusesNumber c.args.state.now c.take_number.new.self fault) c.in-Err-BadOrder.field-0-is
    c.in-Err-BadOrder.ensures.refused))

pub returns-in-Err-BadOrder-clause-known : goal.returns-in-Err-BadOrder-clause-known
returns-in-Err-BadOrder-clause-known c =
    absurd (singles_are c.args.state.now c.take_number.new.self
    (subst (λ fault. RefusesNumber c.args.state.now c.take_number.new.self fault) c.in-Err-BadOrder.field-0-is
    c.in-Err-BadOrder.ensures.refused))

pub returns-in-Err-NoBlock-clause-refused : goal.returns-in-Err-NoBlock-clause-refused
returns-in-Err-NoBlock-clause-refused c =
    λ _. number_not_found c.args.state.now c.take_number.new.self
    (subst (λ fault. RefusesNumber c.args.state.now c.take_number.new.self fault) c.in-Err-NoBlock.field-0-is
    c.in-Err-NoBlock.ensures.refused)

pub returns-in-Err-Contended-clause-refused : goal.returns-in-Err-Contended-clause-refused
returns-in-Err-Contended-clause-refused c =
    λ _. number_lost c.args.state.now c.take_number.new.self
    (subst (λ fault. RefusesNumber c.args.state.now c.take_number.new.self fault) c.in-Err-Contended.field-0-is
    c.in-Err-Contended.ensures.refused)
