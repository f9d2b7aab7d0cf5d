use Rattle.std.proofs.Common.{◌≡◌, ◌<◌, ◌+◌, ◌*◌, ◌∷◌, [], ap, arith, length, length-append, refl, rules}
use Rattle.std.specs.Prelude.{IfSome}
use Rattle.std.proofs.lemmas.List.{map-append}
use Rattle.std.proofs.lemmas.Option.{IfSome_then}
use Rattle.std.proofs.lemmas.Result.{IfOk-weaker}
use Rattle.trace_text.specs.Parts.{IsJoint, SaysPlainly}
use Rattle.trace_text.specs.Trace.{core_count, ranges_in}
use Rattle.trace_text.proofs.InParts.{all_read, more_going, one_joined, read_none}
use Rattle.trace_text.proofs.parts.read_parts.Goals as goal

pub of-trace-requires-clause-cores : goal.of-trace-requires-clause-cores
unfolding core_count
of-trace-requires-clause-cores g c = rw c.in_ok-lines.ensures.items (omega arith)

pub of-trace-requires-clause-ranges : goal.of-trace-requires-clause-ranges
unfolding ranges_in
of-trace-requires-clause-ranges g c = rw (c.in_ok-lines.ensures.items, c.new.ensures.items) refl

pub loop-rest-init : goal.loop-rest-init
loop-rest-init g c =
    rw (c.requires.none, c.of-trace.ensures, c.in_ok-lines.ensures.items)
    (read_none c.args.geometry.now.cores c.args.text.now c.requires.unmarked)

pub loop-rest-smaller-in-Some : goal.loop-rest-smaller-in-Some
loop-rest-smaller-in-Some g c =
    let cut = c.in-Some.ensures in
    let rest = c.loop-rest.rest.now in
    let behind = c.in-Some.behind.now in
    let going = c.loop-rest.going.items in
    let bytes = ap length cut.whole in
    let threads = ap length c.in_ok-keep.ensures.kept in
    let less : length behind * 2 + length c.keep.new.going.items < length rest * 2 + length going =
    omega (
      arith,
      bytes,
      threads,
      cut.long,
      length-append c.in-Some.part.now behind,
      length-append going (c.in_ok-child.child ∷ []),
    ) in
    less

pub loop-rest-preserved-in-Some : goal.loop-rest-preserved-in-Some
loop-rest-preserved-in-Some g c =
    let going = c.loop-rest.going.items in
    rw (c.in_ok-keep.ensures.kept, map-append (λ h. h.promise) going (c.in_ok-child.child ∷ []))
    (more_going _ _ _ _ _ _ _ _ c.loop-rest.invariant c.in-Some.ensures c.in_ok-child.ensures.promise)

pub loop-rest-smaller : goal.loop-rest-smaller
loop-rest-smaller g c =
    let rest = c.loop-rest.rest.now in
    let threads = ap length c.in-Some-pop_front.ensures.items in
    let less : length rest * 2 + length c.pop_front.new.self.items < length rest * 2 + length c.loop-rest.going.items =
    omega (arith, threads) in
    less

pub loop-rest-preserved : goal.loop-rest-preserved
loop-rest-preserved g c =
    let child = c.in-Some-pop_front.child in
    let far = rw c.in-Some-pop_front.ensures.items at c.loop-rest.invariant in
    let part : SaysPlainly child.promise.cores child.promise.text.now c.in-Some-2.part = rw c.in-Some-2.is at c.in_ok-part.ensures.0 in
    let joint : IsJoint c.loop-rest.trace c.in-Some-2.part c.in-Some-3.more = rw c.in-Some-3.is at c.in_ok-more.ensures.joint in
    one_joined _ _ _ _ _ _ _ _ far part joint

pub returns-in-Some-4-clause-found : goal.returns-in-Some-4-clause-found
returns-in-Some-4-clause-found g c =
    let cores = c.args.geometry.now.cores in
    let text = c.args.text.now in
    let none : c.loop-rest.going.items ≡ [] = search rules in
    let far = rw none at c.loop-rest.invariant in
    let last : SaysPlainly cores c.loop-rest.rest.now c.in-Some-4.last = rw c.in-Some-4.is at c.in_ok-last.ensures.found in
    IfOk-weaker c.joined-in-Some-4.result (λ found. IfSome found (IsJoint c.loop-rest.trace c.in-Some-4.last))
    (λ found. IfSome found (SaysPlainly cores text))
    (λ found joint. IfSome_then found joint (λ lines one. all_read cores text _ _ lines _ far last one)) c.joined-in-Some-4.ensures.joint
