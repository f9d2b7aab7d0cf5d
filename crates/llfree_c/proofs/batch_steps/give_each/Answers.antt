use Rattle.std.proofs.Common.{rules, ◌≡◌, ◌<◌, ◌≤◌, length, refl, slice_index_or}
use Rattle.llfree_c.specs.Batches.{CarriesSingle}
use Rattle.llfree_c.specs.Status.{ok}
use Rattle.llfree_c.proofs.FrameBatches.{all_given, is_given, one_given, still_out, still_single}
use Rattle.llfree_c.proofs.batch_steps.give_each.Goals as goal

pub give_frame-given-requires : goal.give_frame-given-requires
give_frame-given-requires c =
    let inside : c.loop-block.block-index < length c.loop-block.block-items = search rules in
    still_out c.loop-block.block-index c.args.held.now c.loop-block.block-items c.block-item.result c.args.state.now
    c.loop-block.state inside c.loop-block.invariant.long c.requires.out c.loop-block.invariant.given

pub loop-block-preserved : goal.loop-block-preserved
loop-block-preserved c =
    let n = c.loop-block.block-index in
    let items = c.loop-block.block-items in
    let inside : n < length items = search rules in
    let single : CarriesSingle (slice_index_or items n c.block-item.result) =
    still_single n c.args.held.now items c.block-item.result c.args.state.now c.loop-block.state inside c.loop-block.invariant.long
    c.requires.singles c.loop-block.invariant.given in
    let given : c.give_frame-given.result ≡ ok =
    is_given (slice_index_or items n c.block-item.result) c.give_frame-given.result c.loop-block.state c.give_frame-given.new.state
    single c.give_frame-given.ensures.known c.give_frame-given.ensures.refused in
    let gave = c.give_frame-given.ensures.given given in
    record {
      given = one_given n c.args.held.now items (slice_index_or items n c.block-item.result) c.give_frame-given.new.held
          c.block-item.result c.args.state.now c.loop-block.state c.give_frame-given.new.state inside c.loop-block.invariant.long
          refl gave.2 c.loop-block.invariant.given c.give_frame-given.ensures.shared gave.3;
      long = search (rules, c.loop-block.invariant.long);
    }

pub returns-clause-given : goal.returns-clause-given
returns-clause-given c =
    let done : length c.loop-block.block-items ≤ c.loop-block.block-index = search rules in
    let within : c.loop-block.block-index ≤ length c.loop-block.block-items = search rules in
    all_given c.loop-block.block-index c.args.held.now c.loop-block.block-items c.args.state.now c.loop-block.state done
    c.loop-block.invariant.long within c.requires.singles c.loop-block.invariant.given
