-- Even zones together have as many numbers as one memory of all their frames.
use Rattle.std.proofs.Common.{◌≡◌, ℕ, zero, suc, ◌+◌, ◌-◌, ◌*◌, ◌<◌, ◌≤◌, List, length, min, take, ap, sym, ◌∙◌, arith}
use Rattle.std.proofs.lemmas.List.{take_all}
use Rattle.std.proofs.lemmas.List.Sums.{sum_by_more}
use Rattle.frame_slots.specs.Numbers.{child_count_of, most_frames}
use Rattle.zone_slots.specs.ImageParts.{image_numbers_of}
use Rattle.zone_slots.specs.Layouts.{Stretch, AreEven}
use Rattle.llfree_c.specs.Images.{image_words}

-- the numbers of one even zone more
one_more : (frames k : ℕ) → most_frames * k < frames
    → 9 * child_count_of (min frames (most_frames * k)) + 9 * child_count_of (min most_frames (frames - most_frames * k))
    ≡ 9 * child_count_of (min frames (most_frames * (k + 1)))
one_more frames k less = omega (arith, less)

even_up_to : (frames : ℕ) (zones : List Stretch) → AreEven frames zones → (k : ℕ) → k ≤ length zones
    → image_numbers_of (take k zones) ≡ 9 * child_count_of (min frames (most_frames * k))
even_up_to frames zones even zero few = omega arith
even_up_to frames zones even (suc k) few =
    let next : suc k ≡ k + 1 = omega arith in
    let within : k < length zones = omega (arith, few) in
    ap (λ n. image_numbers_of (take n zones)) next
    ∙ omega (
      arith,
      sum_by_more (λ (zone : Stretch). 9 * child_count_of zone.1) zones k (0, 0) within,
      ap (λ n. 9 * child_count_of n) (even.sizes k within),
      even_up_to frames zones even k (omega (arith, few)),
      one_more frames k (omega (arith, even.last, few)),
    )

pub even_numbers : (frames : ℕ) (zones : List Stretch) → AreEven frames zones → image_numbers_of zones ≡ image_words frames
even_numbers frames zones even =
    ap (λ (zs : List Stretch). image_numbers_of zs) (sym (take_all (length zones) zones (omega arith)))
    ∙ (even_up_to frames zones even (length zones) (omega arith) ∙ omega (arith, even.all))
