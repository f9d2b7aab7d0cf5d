use Rattle.std.proofs.Common.{◌≡◌, ℕ, ◌<◌, drop, length}
use Rattle.std.specs.Prelude.{slice_index_or}
use Rattle.frame_zones.specs.declared.image.ZoneImage.{ZoneImage}
use Rattle.llfree_c.specs.CoreImages.{numbers_ahead, SaysImage}
use Rattle.llfree_c.specs.Images.{StaysBehind}
use Rattle.llfree_c.proofs.rebuilt_image.write_images.Given as goal

abbrev pub invariant-loop-zone : goal.invariant-loop-zone
invariant-loop-zone l = record {
  from : l.from ≡ numbers_ahead l.images l.zone-index;
  says : (z : ℕ) (i : ZoneImage) → z < l.zone-index
      → SaysImage (slice_index_or l.images z i).image (drop (numbers_ahead l.images z) l.numbers);
  behind : StaysBehind (numbers_ahead l.images (length l.images)) l.fn.numbers l.numbers;
}
