use Rattle.std.proofs.Common.{◌<◌, ap, ◌∙◌, arith}
use Rattle.frame_words.specs.declared.geometry.Geometry.{Geometry}
use Rattle.frame_model.specs.Key.{sealed_key}
use Rattle.core_frames.specs.declared.search.habit.Habit.{Habit}
use Rattle.core_frames.specs.PlainState.{PlainState}
use Rattle.core_frames.proofs.PlainCalls.{with_core}
use Rattle.core_frames.proofs.plain.PlainAllocator.give.Goals as goal

pub put_back-requires-clause-core : goal.put_back-requires-clause-core
put_back-requires-clause-core c =
    let inside : c.args.core < c.self.inside.moves.geometry.cores =
    omega (arith, c.requires.core, ap (λ (s : PlainState). s.geometry.cores) c.self.view_is) in
    let same = ap (λ (h : Habit). h.core) c.index.ensures ∙ c.self.invariant.cores.1 c.args.core c.index.result.now inside in
    omega (arith, same, c.requires.core)

pub invariant_of-self : goal.invariant_of-self
invariant_of-self c =
    let a = c.self.inside in
    let b = c.self-2.inside in
    let was : c.args.core < a.moves.geometry.cores =
    omega (arith, c.requires.core, ap (λ (s : PlainState). s.geometry.cores) c.self.view_is) in
    let inside : c.args.core < b.moves.geometry.cores =
    omega (
      arith,
      c.requires.core,
      ap (λ (s : PlainState). s.geometry.cores) c.self-2.view_is,
      ap (λ (g : Geometry). g.cores) c.put_back.ensures.geometry.0,
    ) in
    with_core (sealed_key b.moves.geometry b.ranges.items) _ b.moves.words.items b.starts.items b.habits.items b.refused
    c.self-2.invariant c.args.core c.put_back.new.habit inside
    (c.put_back.ensures.core ∙ ap (λ (h : Habit). h.core) c.index.ensures
    ∙ c.self.invariant.cores.1 c.args.core c.index.result.now was)
