use Rattle.std.proofs.Common.{◌≡◌, ◌*◌, ◌+◌, ◌≤◌, ◌<◌, ℕ, List, drop, length, arith, ap, subst, ◌∙◌, rules}
use Rattle.std.proofs.lemmas.List.{get_or_default}
use Rattle.std.specs.Prelude.{slice_index_or}
use Rattle.frame_zones.specs.declared.image.ZoneImage.{ZoneImage}
use Rattle.llfree_c.specs.CoreImages.{numbers_ahead, SaysImage}
use Rattle.llfree_c.proofs.ImageNumbers.{stays_behind}
use Rattle.llfree_c.proofs.StoppedZones.{ahead_more, ahead_le, says_one_more}
use Rattle.llfree_c.proofs.rebuilt_image.write_images.Goals as goal

pub loop-zone-preserved : goal.loop-zone-preserved
loop-zone-preserved c =
    let inv = c.loop-zone.invariant in
    let images : List ZoneImage = c.args.images.now in
    let z : ℕ = c.loop-zone.zone-index in
    let item : ZoneImage = c.zone-item.result in
    let new : List ℕ = c.write_image-from.new.numbers in
    let within : z < length images = search rules in
    let is : item ≡ slice_index_or images z item = search rules in
    let next : c.write_image-from.result ≡ numbers_ahead images (z + 1) =
    omega (
      arith,
      c.write_image-from.ensures.end,
      inv.from,
      ahead_more images z item within,
      ap (λ (i : ZoneImage). i.image.geometry.children) is,
    ) in
    record {
      from = next;
      says = says_one_more images z c.loop-zone.numbers new within
          (λ i h. c.write_image-from.ensures.below i (omega (arith, h, inv.from))) inv.says
          (λ d. subst (λ (i : ZoneImage). SaysImage i.image (drop (numbers_ahead images z) new))
          (is ∙ get_or_default images z item d within)
          (subst (λ (n : ℕ). SaysImage item.image (drop n new)) inv.from c.write_image-from.ensures.written));
      behind = stays_behind (c.loop-zone.from + 9 * item.image.geometry.children) (numbers_ahead images (length images))
          c.args.numbers.now c.loop-zone.numbers new
          (omega (arith, c.write_image-from.ensures.end, next, ahead_le images (z + 1) (length images) (omega (arith, within))))
          inv.behind c.write_image-from.ensures.behind;
    }

pub returns-clause-written : goal.returns-clause-written
returns-clause-written c =
    let end : length c.args.images.now ≤ c.loop-zone.zone-index = search rules in
    λ z i within. c.loop-zone.invariant.says z i (omega (arith, within, end))
