use Rattle.std.proofs.Common.{◌≡◌, ◌∙◌, length, refl, vec_len, ap, arith}
use Rattle.std.proofs.lemmas.List.{length-map}
use Rattle.frame_model.specs.Key.{sealed_key}
use Rattle.frame_model.specs.declared.key.Key.{Key}
use Rattle.core_frames.specs.Desks.{core_of}
use Rattle.trace_text.specs.Trace.{ranges_in}
use Rattle.trace_text.proofs.Behind.{cores_in_at}
use Rattle.llfree_trace.proofs.Ended.{adds_up, image_is, is_answered}
use Rattle.llfree_trace.proofs.NewDesks.{none_lent}
use Rattle.llfree_trace.proofs.many_cores.run_trace.Goals as goal

pub run_rounds-requires-clause-named : goal.run_rounds-requires-clause-named
run_rounds-requires-clause-named g c κs within =
    let desks = c.in_ok-desks.desks in
    omega (
      arith,
      ap length c.in_ok-desks.ensures.cores,
      length-map desks.items core_of,
      c.in_ok-allocator.ensures.opened.count,
      c.requires,
      c.cores-named.ensures.value,
      desks.ok,
    )

pub run_rounds-requires-clause-inside : goal.run_rounds-requires-clause-inside
run_rounds-requires-clause-inside g c κs within =
    rw (c.lines.ensures.value, c.cores-named.ensures.value) (cores_in_at c.args.trace.now)

pub close_desks-requires : goal.close_desks-requires
close_desks-requires g c = c.in_ok-end.ensures.goes.desks

pub returns-clause-fits : goal.returns-clause-fits
returns-clause-fits g c =
    let a = c.in_ok-allocator.allocator in
    let opened = c.in_ok-allocator.ensures.opened in
    let goes = rw c.lines.ensures.value at c.in_ok-end.ensures.goes in
    let closing = c.in_ok-image.ensures.closing in
    let start = c.in_ok-desks.desks in
    let count : vec_len c.in_ok-allocator.cores ≡ c.args.geometry.cores = omega (arith, opened.count, c.in_ok-allocator.cores.ok) in
    let begins = rw count at c.in_ok-desks.ensures.lists in
    is_answered a c.in_ok-end.end.desks.items c.in_ok-image.image (ap (λ (k : Key). k.sealed) opened.memory) goes.desks closing
    (goes.lent ∙ none_lent a start.items c.in_ok-allocator.cores.items c.in_ok-desks.ensures.cores opened.each)
    c.args.geometry c.args.trace.now _ c.in_ok-end.end (opened.memory ∙ ap (sealed_key c.args.geometry) c.ranges-2.ensures)
    goes refl c.new-answers.ensures.items begins

pub returns-clause-geometry : goal.returns-clause-geometry
returns-clause-geometry g c =
    let a = c.in_ok-allocator.allocator in
    let opened = c.in_ok-allocator.ensures.opened in
    let goes = rw c.lines.ensures.value at c.in_ok-end.ensures.goes in
    let closing = c.in_ok-image.ensures.closing in
    image_is a c.in_ok-end.end.desks.items c.in_ok-image.image (ap (λ (k : Key). k.sealed) opened.memory) goes.desks closing
    (goes.lent ∙ none_lent a c.in_ok-desks.desks.items c.in_ok-allocator.cores.items c.in_ok-desks.ensures.cores opened.each)
    c.args.geometry (ranges_in c.args.trace.now) (opened.memory ∙ ap (sealed_key c.args.geometry) c.ranges-2.ensures)

pub returns-clause-counters : goal.returns-clause-counters
returns-clause-counters g c =
    let a = c.in_ok-allocator.allocator in
    let opened = c.in_ok-allocator.ensures.opened in
    let goes = rw c.lines.ensures.value at c.in_ok-end.ensures.goes in
    let closing = c.in_ok-image.ensures.closing in
    adds_up a c.in_ok-end.end.desks.items c.in_ok-image.image (ap (λ (k : Key). k.sealed) opened.memory) goes.desks closing
    (goes.lent ∙ none_lent a c.in_ok-desks.desks.items c.in_ok-allocator.cores.items c.in_ok-desks.ensures.cores opened.each)
    c.args.geometry c.args.trace.now (opened.memory ∙ ap (sealed_key c.args.geometry) c.ranges-2.ensures)
