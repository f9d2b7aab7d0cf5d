use Rattle.std.proofs.Common.{below_more, ◌≡◌, ℕ, ◌*◌, ◌<◌, ◌≤◌, List, arith, drop, length, rules, subst, take}
use Rattle.std.proofs.lemmas.List.Sums.{sum_by_more}
use Rattle.frame_slots.specs.Numbers.{child_count_of, most_frames, IsImageOf}
use Rattle.zone_slots.specs.Layouts.{Stretch, stretch_at}
use Rattle.llfree_c.specs.ZoneClaims.{own_numbers}
use Rattle.llfree_c.proofs.zone_claims.are_images.Goals as goal

pub loop-zone-preserved : goal.loop-zone-preserved
loop-zone-preserved c =
    let z : ℕ = c.loop-zone.zone in
    let zones : List Stretch = c.args.zones.now in
    let numbers : List ℕ = c.args.numbers.now in
    let frames : ℕ = (stretch_at zones z).1 in
    let within : z < length zones = c.loop-zone-test.true in
    let few : frames ≤ most_frames = search rules in
    let own : c.numbers_for-start.result ≡ 9 * child_count_of frames = search rules in
    record {
      count = c.loop-zone.invariant.count;
      next = omega (
        arith,
        c.loop-zone.invariant.next,
        own,
        sum_by_more (λ (zone : Stretch). 9 * child_count_of zone.1) zones z (0, 0) within,
      );
      bound = omega (arith, c.loop-zone.invariant.bound, own, few);
      each = below_more (λ k. IsImageOf (stretch_at zones k).1 (own_numbers zones numbers k)) z c.loop-zone.invariant.each
          (subst (λ (n : ℕ). IsImageOf frames (take (9 * child_count_of frames) (drop n numbers))) c.loop-zone.invariant.next
          c.if-not-is_image_at.ensures);
    }
