use Rattle.std.proofs.Common.{sym, subst}
use Rattle.frame_model.specs.declared.key.Key.{Key}
use Rattle.frame_core.specs.Image.{Contents}
use Rattle.frame_model.specs.Key.{sealed_key}
use Rattle.frame_model.specs.Laws.{AddsUp}
use Rattle.plain_moves.specs.Plain.{plain_key}
use Rattle.core_frames.specs.PlainState.{PlainState, memory_by, held_by, HoldsExactly}
use Rattle.core_frames.proofs.PlainCalls.{state_of, counters}
use Rattle.core_frames.proofs.PlainKeys.{adds_over}
use Rattle.core_frames.proofs.plain.PlainAllocator.image.Goals as goal

pub returns-clause-exact : goal.returns-clause-exact
returns-clause-exact c =
    let a = c.self.inside in
    let m = a.moves in
    subst (λ (s : PlainState). HoldsExactly (memory_by s) c.in_ok-image.image.words (held_by s)) c.self.view_is
    (subst (λ (i : Contents). HoldsExactly (sealed_key m.geometry a.ranges.items) i.words
    (held_by (state_of m.geometry a.ranges.items a.starts.items))) (sym c.in_ok-image.ensures.image) c.self.invariant.exact)

pub returns-clause-counters : goal.returns-clause-counters
returns-clause-counters c =
    let a = c.self.inside in
    let m = a.moves in
    let key : Key = sealed_key m.geometry a.ranges.items in
    subst (λ (s : PlainState). AddsUp (memory_by s) c.in_ok-image.image.words) c.self.view_is
    (subst (λ (i : Contents). AddsUp key i.words) (sym c.in_ok-image.ensures.image)
    (adds_over key m.words.items (subst (λ (k : Key). AddsUp k m.words.items) c.self.invariant.same_key
    (counters (plain_key m.geometry m.sealed) m.them m.words.items m.outs.items _ c.self.invariant.by_itself c.self.invariant.idle
    m.agrees))))
