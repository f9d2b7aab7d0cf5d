use Rattle.std.proofs.Common.{ℕ, ◌≡◌, ◌≤◌, ◌-◌, length}
use Rattle.frame_words.specs.Geometry.{most_children}
use Rattle.held_blocks.specs.Pages.{page_in}
use Rattle.held_blocks.proofs.slot_pages.make_directory.Given as goal

abbrev pub invariant-loop-pages : goal.invariant-loop-pages
invariant-loop-pages l = record {
  same : (c : ℕ) → page_in l.pages.items c ≡ page_in l.initial.pages.items c;
  kept : length l.initial.pages.items ≤ length l.pages.items;
}

abbrev pub decreases-loop-pages : goal.decreases-loop-pages
decreases-loop-pages l = most_children - length l.pages.items
