-- What desks answer, as replies to requests.
use Rattle.std.proofs.Common.{◌≡◌, ◌≢◌, ℕ, List, Result, Ok, Err, refl, true}
use Rattle.std.specs.Prelude.{IfOk}
use Rattle.frame_model.specs.Block.{block}
use Rattle.frame_model.specs.declared.key.Key.{Key}
use Rattle.frame_words.specs.declared.fault.Fault.{Fault}
use Rattle.frame_words.specs.declared.fault.Fault.TheVariants as fault
use Rattle.low_frames.specs.Outcomes.{HasNoBootFrame}
use Rattle.held_blocks.specs.Desk.{GivesExactly, GivesOldest, MayFail, MayRefuse, TakesUnder}
use Rattle.held_blocks.specs.declared.labelled_block.LabelledBlock.{LabelledBlock}
use Rattle.llfree_trace.specs.Outcome.{DeskStep, LeavesBootFrames, SaysGiven, SaysTaken}
use Rattle.llfree_trace.specs.Rounds.{given_reply, taken_reply, IsTakenReply}
use Rattle.trace_text.specs.declared.line.Request.TheVariants as request
use Rattle.trace_text.specs.declared.reply.Reply.{Reply}
use Rattle.trace_text.specs.declared.reply.Reply.TheVariants as reply
use Rattle.llfree_trace.proofs.Boot.{boot_free}

-- a take that did not want memory may be refused so
may_be : (key : Key) (old : List LabelledBlock) (label : List ℕ) (order : ℕ)
    (outcome : Result (ℕ × ℕ) Fault) (new : List LabelledBlock) → outcome ≢ Err fault.NoMemory
    → TakesUnder MayFail key old label order outcome new
    → TakesUnder MayRefuse key old label order outcome new
unfolding TakesUnder
may_be key old label order (Ok b) new some step = step
may_be key old label order (Err fault.NoMemory) new some step = absurd (some refl)
may_be key old label order (Err fault.BadOrder) new some step = step
may_be key old label order (Err fault.NoBlock) new some step = step
may_be key old label order (Err fault.Contended) new some step = step
may_be key old label order (Err f) new some step = absurd step.1

-- the reply says the outcome
says_taken : (P : Result (ℕ × ℕ) Fault → Type 0) (outcome : Result (ℕ × ℕ) Fault) → P outcome
    → SaysTaken P (taken_reply outcome)
says_taken P (Ok b) h = h
says_taken P (Err f) h = h

says_given : (P : Result (ℕ × ℕ) Fault → Type 0) (outcome : Result (ℕ × ℕ) Fault) → P outcome
    → SaysGiven P (given_reply outcome)
says_given P (Ok b) h = h
says_given P (Err f) h = h

-- a block of a take has no frame that nobody is ever given
leaves_boot : (key : Key) (old : List LabelledBlock) (label : List ℕ) (order : ℕ)
    (outcome : Result (ℕ × ℕ) Fault) (new : List LabelledBlock) → key.sealed ≡ true
    → TakesUnder MayFail key old label order outcome new
    → IfOk outcome (λ b. HasNoBootFrame key (block b.0 b.1)) → LeavesBootFrames key outcome
unfolding TakesUnder
leaves_boot key old label order (Ok b) new sealed step none = boot_free key (block b.0 b.1) sealed step.is_block none
leaves_boot key old label order (Err f) new sealed step none = tt

-- a give of the oldest, as a step
pub given_step : (key : Key) (old : List LabelledBlock) (label : List ℕ)
    (outcome : Result (ℕ × ℕ) Fault) (r : Reply) (new : List LabelledBlock) → r ≡ given_reply outcome
    → GivesOldest old label outcome new → DeskStep MayRefuse key old (request.Give label) r new
unfolding DeskStep
given_step key old label outcome r new says step =
    rw says (says_given (λ o. GivesOldest old label o new) outcome step)

-- a give of exactly one block, as a step
pub given_at_step : (key : Key) (old : List LabelledBlock) (frame order : ℕ)
    (outcome : Result (ℕ × ℕ) Fault) (r : Reply) (new : List LabelledBlock) → r ≡ given_reply outcome
    → GivesExactly old frame order outcome new
    → DeskStep MayRefuse key old (request.GiveAt frame order) r new
unfolding DeskStep
given_at_step key old frame order outcome r new says step =
    rw says (says_given (λ o. GivesExactly old frame order o new) outcome step)

-- a take at a desk, as a step, where it did not want memory
pub taken_if : (key : Key) (old : List LabelledBlock) (label : List ℕ) (order : ℕ)
    (outcome : Result (ℕ × ℕ) Fault) (r : Result Reply Fault) (new : List LabelledBlock) → key.sealed ≡ true
    → IfOk r (IsTakenReply outcome) → TakesUnder MayFail key old label order outcome new
    → IfOk outcome (λ b. HasNoBootFrame key (block b.0 b.1))
    → IfOk r (λ x. DeskStep MayRefuse key old (request.Take label order) x new)
unfolding DeskStep
taken_if key old label order outcome (Ok x) new sealed says step none =
    rw says.0 (says_taken (λ o. TakesUnder MayRefuse key old label order o new × LeavesBootFrames key o) outcome
    (may_be key old label order outcome new says.1 step, leaves_boot key old label order outcome new sealed step none))
taken_if key old label order outcome (Err e) new sealed says step none = tt

-- a refusal, as the reply to a take
pub refused_if : (outcome : Result (ℕ × ℕ) Fault) (f : Fault) (r : Result Reply Fault) → outcome ≡ Err f
    → IfOk r (λ x. (x ≡ reply.Refused f) × (f ≢ fault.NoMemory)) → IfOk r (IsTakenReply outcome)
refused_if outcome f (Err e) is says = tt
refused_if outcome f (Ok x) is says = rw is (says.0, (λ same. says.1 (cc)))

-- what a desk answers, as a step
pub ruleset steps = (given_step, given_at_step, taken_if)
