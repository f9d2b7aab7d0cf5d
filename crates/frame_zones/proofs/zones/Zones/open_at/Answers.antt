use Rattle.std.proofs.Common.{◌≡◌, ◌+◌, ◌++◌, ◌∷◌, [], length, map, slice_index_or, List, ℕ, refl, sym, ◌∙◌, ap, subst, arith, rules}
use Rattle.std.proofs.lemmas.List.{length-map}
use Rattle.core_frames.specs.declared.shared.allocator.Allocator.{Allocator}
use Rattle.core_frames.specs.declared.shared.survivors.Survivors.{Survivors}
use Rattle.frame_words.specs.declared.geometry.Geometry.{Geometry}
use Rattle.frame_model.specs.declared.key.Key.{Key}
use Rattle.frame_zones.specs.Sizes.{AreSized}
use Rattle.frame_zones.specs.Reopening.{AreLeftOf, AreHeldAt}
use Rattle.frame_zones.specs.Spans.{Place, place_at}
use Rattle.frame_zones.specs.declared.image.ZoneImage.{ZoneImage}
use Rattle.frame_zones.proofs.Begun.{IsOpening, opening_one, opening_all, laid_out, have_cores, sized_one}
use Rattle.frame_zones.proofs.Lying.{one_read, place_read}
use Rattle.frame_zones.proofs.Reopened.{left_one, held_one}
use Rattle.frame_zones.proofs.zones.Zones.open_at.Goals as goal

pub deal-requires : goal.deal-requires
deal-requires c =
    let s : ZoneImage = c.image-item.result in
    let same : s.image.geometry.cores ≡ c.args.cores =
    (one_read c.args.cores 0 place_at c.args.images.now c.loop-image.image-index s c.loop-image-test.true c.image-item.is
    c.loop-image.invariant.lawful.apart).same_cores in
    omega (
      arith,
      c.in_ok-zone.ensures.opened.count,
      same,
      c.loop-image.invariant.opening.as_many,
      c.in_ok-zone.parts.ok.0,
      c.loop-image.all.ok.0,
    )

pub loop-image-preserved : goal.loop-image-preserved
loop-image-preserved c =
    let images : List ZoneImage = c.args.images.now in
    let places : List Place = map place_at images in
    let s : ZoneImage = c.image-item.result in
    let p : Place = place_at s in
    let inv = c.loop-image.invariant in
    let read : p ≡ slice_index_or places c.loop-image.image-index p =
    place_read place_at images c.loop-image.image-index s c.loop-image-test.true c.image-item.is in
    let same : s.image.geometry.cores ≡ c.args.cores =
    (one_read c.args.cores 0 place_at images c.loop-image.image-index s c.loop-image-test.true c.image-item.is inv.lawful.apart).same_cores in
    record {
      lawful = inv.lawful;
      opening = subst (λ (l : List Allocator). IsOpening (length images) c.args.cores places l c.push_reserved-in-loop-image.new.self.items c.deal.new.cores.items)
          (sym c.push_reserved.ensures.items)
          (subst (λ (l : List ℕ). IsOpening (length images) c.args.cores places (c.loop-image.zones.items ++ c.in_ok-zone.zone ∷ []) l c.deal.new.cores.items)
          (sym c.push_reserved-in-loop-image.ensures.items)
          (opening_one (length images) c.args.cores places c.loop-image.zones.items c.loop-image.firsts.items c.loop-image.all.items _ p c.in_ok-zone.zone c.in_ok-zone.parts.items
          inv.opening
          c.in_ok-zone.ensures.opened
          (read ∙ ap (λ i. slice_index_or places i p) (sym inv.count))
          (omega (arith, inv.count, c.loop-image-test.true, length-map images place_at))
          (c.in_ok-zone.ensures.opened.count ∙ same ∙ sym inv.opening.as_many)
          c.in_ok-deal.ensures.dealt));
      survivors = subst (λ (l : List Allocator). AreLeftOf l c.push_reserved-in-loop-image-2.new.self.items)
          (sym c.push_reserved.ensures.items)
          (subst (λ (l : List Survivors). AreLeftOf (c.loop-image.zones.items ++ c.in_ok-zone.zone ∷ []) l)
          (sym c.push_reserved-in-loop-image-2.ensures.items)
          (left_one _ _ _ _ inv.survivors c.in_ok-zone.ensures.survivors.0));
      held = subst (λ (l : List Survivors). AreHeldAt (c.loop-image.image-index + 1) images l)
          (sym c.push_reserved-in-loop-image-2.ensures.items)
          (held_one c.loop-image.image-index images c.loop-image.left.items s c.in_ok-zone.survivors
          (inv.survivors.count ∙ inv.count) c.loop-image-test.true c.image-item.is inv.held c.in_ok-zone.ensures.survivors.1);
      count = search rules;
      room = search rules;
      firsts_room = search rules;
      frames_room = search rules;
      sized = subst (λ (l : List Allocator). AreSized l c.push_reserved-in-loop-image-3.new.self.items)
          (sym c.push_reserved.ensures.items)
          (subst (λ (l : List ℕ). AreSized (c.loop-image.zones.items ++ c.in_ok-zone.zone ∷ []) l)
          (sym c.push_reserved-in-loop-image-3.ensures.items)
          (sized_one c.loop-image.zones.items c.loop-image.frames.items c.in_ok-zone.zone c.geometry.result.frames inv.sized
          (ap (λ (g : Geometry). g.frames) c.geometry.ensures.value ∙ sym (ap (λ (k : Key). k.frames) c.in_ok-zone.ensures.opened.memory))));
      left_room = search rules;
    }

pub invariant_of-zones : goal.invariant_of-zones
invariant_of-zones c =
    let places : List Place = map place_at c.args.images.now in
    let inv = c.loop-image.invariant in
    let whole : length c.of.result.items ≡ length places =
    omega (arith, inv.count, c.loop-image.auto.image-index-end, c.loop-image-test.false, length-map c.args.images.now place_at, ap length c.of.ensures) in
    let opening : IsOpening (length c.args.images.now) c.args.cores places c.of.result.items c.loop-image.firsts.items c.loop-image.all.items =
    subst (λ (l : List Allocator). IsOpening (length c.args.images.now) c.args.cores places l c.loop-image.firsts.items c.loop-image.all.items)
    (sym c.of.ensures) inv.opening in
    record {
      laid_out = laid_out _ _ _ _ _ _ inv.lawful opening whole;
      sized = subst (λ (l : List Allocator). AreSized l c.loop-image.frames.items) (sym c.of.ensures) inv.sized;
      same_cores = have_cores _ _ _ _ _ _ inv.lawful opening whole;
    }

pub returns-clause-opened : goal.returns-clause-opened
returns-clause-opened c =
    let places : List Place = map place_at c.args.images.now in
    let inv = c.loop-image.invariant in
    let whole : length c.of.result.items ≡ length c.args.images.now =
    omega (arith, inv.count, c.loop-image.auto.image-index-end, c.loop-image-test.false, ap length c.of.ensures) in
    opening_all _ _ _ _ _ inv.lawful
    (subst (λ (l : List Allocator). IsOpening (length c.args.images.now) c.args.cores places l c.loop-image.firsts.items c.loop-image.all.items)
    (sym c.of.ensures) inv.opening)
    whole (whole ∙ sym (length-map c.args.images.now place_at)) refl
