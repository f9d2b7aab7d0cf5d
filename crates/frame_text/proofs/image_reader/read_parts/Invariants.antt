use Rattle.std.proofs.Common.{◌≡◌, ◌≤◌, length}
use Rattle.frame_core.specs.Image.{key_in}
use Rattle.frame_text.specs.ImageText.{parts_from, part_count}
use Rattle.frame_text.proofs.image_reader.read_parts.Given as goal

abbrev pub invariant-loop-image : goal.invariant-loop-image
invariant-loop-image l = record {
  reads : parts_from (key_in l.fn.image) 0 l.fn.image.words l.fn.records.rows
      ≡ parts_from (key_in l.fn.image) l.part l.image.words l.records.rows;
  geometry : l.image.geometry ≡ l.fn.image.geometry;
  few : l.part ≤ part_count (key_in l.fn.image);
}

abbrev pub decreases-loop-image : goal.decreases-loop-image
decreases-loop-image l = length l.records.rows
