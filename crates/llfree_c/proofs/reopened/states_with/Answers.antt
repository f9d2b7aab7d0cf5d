use Rattle.std.proofs.Common.{◌≡◌, ℕ, List, length, map, rules, subst}
use Rattle.std.specs.declared.alloc.Global.{Global}
use Rattle.std.specs.declared.vec.Vec.{Vec}
use Rattle.frame_model.specs.declared.block.FrameBlock.{FrameBlock}
use Rattle.frame_zones.specs.Spans.{place_of_span}
use Rattle.frame_zones.specs.declared.spans.Span.{Span}
use Rattle.zone_slots.specs.Reopenings.{AreReopened}
use Rattle.zone_slots.specs.declared.core_state.CoreState.{CoreState}
use Rattle.llfree_c.proofs.ReopenedZones.{share_reopened}
use Rattle.llfree_c.proofs.reopened.states_with.Goals as goal

pub returns-in-Ok-reopen_cores-clause-states : goal.returns-in-Ok-reopen_cores-clause-states
returns-in-Ok-reopen_cores-clause-states c =
    let spans : List Span = c.in-Ok.spans.items in
    let lists : List (Vec FrameBlock Global) = c.in_ok-lists.lists.items in
    let states : List CoreState = c.in-Ok-reopen_cores.states.items in
    let numbers : List ℕ = c.args.numbers.now in
    let counted : length lists ≡ length c.args.zones.now = search rules in
    let at : AreReopened c.args.cores (map place_of_span spans) numbers lists states =
    subst (λ (ls : List (Vec FrameBlock Global)). AreReopened c.args.cores (map place_of_span spans) numbers ls states) c.deref-2.ensures.value
    (subst (λ (ss : List Span). AreReopened c.args.cores (map place_of_span ss) numbers c.deref-2.result.now states) c.deref.ensures.value
    c.in-Ok-reopen_cores.ensures.cores) in
    share_reopened c.args.cores c.args.zones.now numbers c.args.blocks.now spans lists states c.in-Ok.ensures.used.0
    c.in-Ok.ensures.spans counted c.in_ok-lists.ensures.each at
