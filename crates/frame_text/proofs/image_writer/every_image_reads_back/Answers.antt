use Rattle.frame_text.proofs.WholeTrip.{image_of-picture_of}
use Rattle.frame_text.proofs.image_writer.every_image_reads_back.Goals as goal

pub returns : goal.returns
returns c = λ few. image_of-picture_of c.args.image.now few c.geometry-geometry.ensures.in_range
