use Rattle.std.proofs.Common.{◌≡◌, ◌++◌, ◌∷◌, [], length, map, slice_index_or, List, ℕ, refl, sym, ◌∙◌, ap, subst, arith, rules}
use Rattle.std.proofs.lemmas.List.{length-map}
use Rattle.core_frames.specs.declared.shared.allocator.Allocator.{Allocator}
use Rattle.frame_model.specs.declared.key.Key.{Key}
use Rattle.frame_zones.specs.Sizes.{AreSized}
use Rattle.frame_zones.specs.Spans.{Place, place_of_span}
use Rattle.frame_zones.specs.declared.spans.Span.{Span}
use Rattle.frame_zones.proofs.Begun.{IsOpening, opening_one, opening_all, laid_out, have_cores, sized_one}
use Rattle.frame_zones.proofs.Lying.{one_read, place_read}
use Rattle.frame_zones.proofs.zones.Zones.open.Goals as goal

pub deal-requires : goal.deal-requires
deal-requires c =
    let s : Span = c.span-item.result in
    let same : s.geometry.cores ≡ c.args.cores =
    (one_read c.args.cores 0 place_of_span c.args.spans.now c.loop-span.span-index s c.loop-span-test.true c.span-item.is
    c.loop-span.invariant.lawful.apart).same_cores in
    omega (
      arith,
      c.in_ok-zone.ensures.opened.count,
      same,
      c.loop-span.invariant.opening.as_many,
      c.in_ok-zone.parts.ok.0,
      c.loop-span.all.ok.0,
    )

pub loop-span-preserved : goal.loop-span-preserved
loop-span-preserved c =
    let spans : List Span = c.args.spans.now in
    let places : List Place = map place_of_span spans in
    let s : Span = c.span-item.result in
    let p : Place = place_of_span s in
    let inv = c.loop-span.invariant in
    let read : p ≡ slice_index_or places c.loop-span.span-index p =
    place_read place_of_span spans c.loop-span.span-index s c.loop-span-test.true c.span-item.is in
    let same : s.geometry.cores ≡ c.args.cores =
    (one_read c.args.cores 0 place_of_span spans c.loop-span.span-index s c.loop-span-test.true c.span-item.is inv.lawful.apart).same_cores in
    record {
      lawful = inv.lawful;
      opening = subst (λ (l : List Allocator). IsOpening (length spans) c.args.cores places l c.push_reserved-in-loop-span.new.self.items c.deal.new.cores.items)
          (sym c.push_reserved.ensures.items)
          (subst (λ (l : List ℕ). IsOpening (length spans) c.args.cores places (c.loop-span.zones.items ++ c.in_ok-zone.zone ∷ []) l c.deal.new.cores.items)
          (sym c.push_reserved-in-loop-span.ensures.items)
          (opening_one (length spans) c.args.cores places c.loop-span.zones.items c.loop-span.firsts.items c.loop-span.all.items _ p c.in_ok-zone.zone c.in_ok-zone.parts.items
          inv.opening
          c.in_ok-zone.ensures.opened
          (read ∙ ap (λ i. slice_index_or places i p) (sym inv.count))
          (omega (arith, inv.count, c.loop-span-test.true, length-map spans place_of_span))
          (c.in_ok-zone.ensures.opened.count ∙ same ∙ sym inv.opening.as_many)
          c.in_ok-deal.ensures.dealt));
      holds = inv.holds;
      count = search rules;
      room = search rules;
      firsts_room = search rules;
      frames_room = search rules;
      sized = subst (λ (l : List Allocator). AreSized l c.push_reserved-in-loop-span-2.new.self.items)
          (sym c.push_reserved.ensures.items)
          (subst (λ (l : List ℕ). AreSized (c.loop-span.zones.items ++ c.in_ok-zone.zone ∷ []) l)
          (sym c.push_reserved-in-loop-span-2.ensures.items)
          (sized_one c.loop-span.zones.items c.loop-span.frames.items c.in_ok-zone.zone s.geometry.frames inv.sized (sym (ap (λ (k : Key). k.frames) c.in_ok-zone.ensures.opened.memory))));
    }

pub invariant_of-result : goal.invariant_of-result
invariant_of-result c =
    let places : List Place = map place_of_span c.args.spans.now in
    let inv = c.loop-span.invariant in
    let whole : length c.of.result.items ≡ length places =
    omega (arith, inv.count, c.loop-span.auto.span-index-end, c.loop-span-test.false, length-map c.args.spans.now place_of_span, ap length c.of.ensures) in
    let opening : IsOpening (length c.args.spans.now) c.args.cores places c.of.result.items c.loop-span.firsts.items c.loop-span.all.items =
    subst (λ (l : List Allocator). IsOpening (length c.args.spans.now) c.args.cores places l c.loop-span.firsts.items c.loop-span.all.items)
    (sym c.of.ensures) inv.opening in
    record {
      laid_out = laid_out _ _ _ _ _ _ inv.lawful opening whole;
      sized = subst (λ (l : List Allocator). AreSized l c.loop-span.frames.items) (sym c.of.ensures) inv.sized;
      same_cores = have_cores _ _ _ _ _ _ inv.lawful opening whole;
    }

pub returns-clause-opened : goal.returns-clause-opened
returns-clause-opened c =
    let places : List Place = map place_of_span c.args.spans.now in
    let inv = c.loop-span.invariant in
    let whole : length c.of.result.items ≡ length c.args.spans.now =
    omega (arith, inv.count, c.loop-span.auto.span-index-end, c.loop-span-test.false, ap length c.of.ensures) in
    opening_all _ _ _ _ _ inv.lawful
    (subst (λ (l : List Allocator). IsOpening (length c.args.spans.now) c.args.cores places l c.loop-span.firsts.items c.loop-span.all.items)
    (sym c.of.ensures) inv.opening)
    whole (whole ∙ sym (length-map c.args.spans.now place_of_span)) refl
