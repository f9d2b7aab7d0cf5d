use Rattle.std.proofs.Common.{◌*◌, ◌≤◌, refl}
use Rattle.frame_words.specs.Geometry.{child_frames}
use Rattle.core_frames.specs.Cores.{memory_of}
use Rattle.frame_zones.specs.FreeCounts.{free_huge_in, free_huge_by}
use Rattle.frame_zones.proofs.Counted.{counted_here, entries_here, exact_here}
use Rattle.frame_zones.proofs.Placing.{core_read, stay_cores, at_that_zone}
use Rattle.frame_zones.proofs.zones.Zones.free_huge_of.Goals as goal

pub free_huge-requires : goal.free_huge-requires
free_huge-requires c =
    core_read c.args.self.now c.args.core.now c.args.zone _ _ c.requires.core c.requires.zone
    c.index.ensures c.index_mut.ensures.value

pub returns-clause-core : goal.returns-clause-core
returns-clause-core c =
    stay_cores c.args.self.now c.args.core.now _ c.args.zone _ _ _ c.requires.core c.requires.zone
    c.index.ensures c.index_mut.ensures.value refl refl c.free_huge.ensures.core

pub returns-clause-count : goal.returns-clause-count
returns-clause-count c =
    counted_here free_huge_in c.args.self.now c.args.core.now c.args.zone c.free_huge.result c.index.result.now
    c.index_mut.result.now c.free_huge.new.core c.requires.core c.requires.zone c.index.ensures c.index_mut.ensures.value
    c.free_huge.ensures.sum

pub returns-clause-few : goal.returns-clause-few
returns-clause-few c a =
    at_that_zone (λ b. child_frames * c.free_huge.result ≤ (memory_of b).frames) c.args.self.now c.args.zone c.index.result.now a
    c.requires.zone c.index.ensures c.free_huge.ensures.few

pub returns-clause-all_moves : goal.returns-clause-all_moves
returns-clause-all_moves c =
    entries_here c.args.self.now c.args.core.now c.args.zone c.index.result.now c.index_mut.result.now
    c.free_huge.new.core c.requires.core c.requires.zone c.index.ensures c.index_mut.ensures.value c.free_huge.ensures.view

pub returns-clause-alone : goal.returns-clause-alone
returns-clause-alone c =
    exact_here free_huge_by c.args.self.now c.args.core.now c.args.zone c.free_huge.result c.index.result.now
    c.index_mut.result.now c.free_huge.new.core c.requires.core c.requires.zone c.index.ensures c.index_mut.ensures.value
    c.free_huge.ensures.alone
