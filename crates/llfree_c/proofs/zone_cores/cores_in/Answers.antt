use Rattle.std.proofs.Common.{◌≡◌, subst, map}
use Rattle.frame_zones.specs.Spans.{place_of_span}
use Rattle.zone_slots.specs.Openings.{AreAllCoresOf}
use Rattle.llfree_c.proofs.OpenedZones.{boxed_share}
use Rattle.llfree_c.proofs.Options.{if_ok}
use Rattle.llfree_c.specs.OpenCores.{ShareOne, states_in}
use Rattle.llfree_c.proofs.zone_cores.cores_in.Goals as goal

pub returns-clause-cores : goal.returns-clause-cores
returns-clause-cores c =
    let spans = c.in_ok-spans.spans.items in
    let states = c.in_ok-states.states.items in
    let has_slots = c.args.has_slots in
    let cores = c.args.cores in
    let all : AreAllCoresOf has_slots cores (map place_of_span spans) states =
    subst (λ ss. AreAllCoresOf has_slots cores (map place_of_span ss) states) c.deref.ensures.value c.in_ok-states.ensures.cores in
    if_ok c.boxed.result (λ boxes. states_in boxes.items ≡ states)
    (λ boxes. ShareOne has_slots cores c.args.zones.now c.args.ranges.now boxes.items)
    (λ boxes e. boxed_share has_slots cores c.args.zones.now c.args.ranges.now spans states boxes.items
    c.in_ok-spans.ensures.spans c.in_ok-spans.ensures.used c.in_ok-spans.ensures.held_back e all)
    c.boxed.ensures.cores
