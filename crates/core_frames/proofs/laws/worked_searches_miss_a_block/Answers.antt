use Rattle.core_frames.proofs.WorkedMisses.{misses_a_huge_frame, are_searched, looks_at_a_huge_frame, finds_a_huge_frame}
use Rattle.core_frames.proofs.laws.worked_searches_miss_a_block.Goals as goal

pub returns : goal.returns
returns c = record {
  missed = misses_a_huge_frame c.every_run_from_an_opening_fits.ensures.sealed
      c.searches_miss_what_is_withheld.ensures.withheld;
  searched = are_searched;
  huge = looks_at_a_huge_frame;
  not_searched = finds_a_huge_frame;
}
