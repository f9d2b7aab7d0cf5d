use Rattle.std.proofs.Common.{◌≡◌, List, [], ◌∷◌, ◌++◌, sym, ◌∙◌, ap}
use Rattle.core_frames.specs.declared.shared.allocator.Allocator.{Allocator}
use Rattle.frame_zones.proofs.Parted.{parts_off, laid_less, sized_less, cores_less}
use Rattle.frame_zones.proofs.zones.Zones.part_last.Goals as goal

pub returns-clause-parted : goal.returns-clause-parted
returns-clause-parted c =
    let zones : c.args.self.zones.items ≡ c.of.result.items ++ c.in-Some.zone ∷ [] =
    sym c.into_list-zones.ensures ∙ c.in-Some.ensures.items
    ∙ ap (λ (l : List Allocator). l ++ c.in-Some.zone ∷ []) (sym c.of.ensures) in
    parts_off c.args.self.zones.items c.in-Some.zone c.of.result.items c.args.cores.now.items
    c.gather-parts.result.items c.gather-parts.new.cores.items zones c.requires.cores
    c.gather-parts.ensures.dealt c.gather-parts.ensures.count

pub invariant_of-left : goal.invariant_of-left
invariant_of-left c =
    let zones : c.args.self.zones.items ≡ c.of.result.items ++ c.in-Some.zone ∷ [] =
    sym c.into_list-zones.ensures ∙ c.in-Some.ensures.items
    ∙ ap (λ (l : List Allocator). l ++ c.in-Some.zone ∷ []) (sym c.of.ensures) in
    record {
      laid_out = laid_less c.args.self.zones.items c.of.result.items c.args.self.firsts.items c.pop-2.new.self.items
          c.in-Some.zone c.in-Some-pop._first zones c.in-Some-pop.ensures.items c.args.self.laid_out;
      sized = sized_less c.args.self.zones.items c.of.result.items c.args.self.frames.items c.pop-3.new.self.items
          c.in-Some.zone c.in-Some-pop-2._frames zones c.in-Some-pop-2.ensures.items c.args.self.sized;
      same_cores = cores_less c.args.self.cores c.args.self.zones.items c.of.result.items c.in-Some.zone zones
          c.args.self.same_cores;
    }
