use Rattle.std.proofs.Common.{◌≡◌, List, [], ◌∷◌, ◌++◌, refl, sym, ◌∙◌, ap, subst}
use Rattle.core_frames.specs.declared.shared.allocator.Allocator.{Allocator}
use Rattle.core_frames.specs.declared.shared.allocator.Core.{Core}
use Rattle.frame_zones.specs.Openings.{AreDealt}
use Rattle.frame_zones.proofs.Closed.{closed_last, all_back}
use Rattle.frame_zones.proofs.Parted.{parts_off, laid_less, sized_less, cores_less}
use Rattle.frame_zones.proofs.zones.Zones.close_last.Goals as goal

pub close-requires : goal.close-requires
close-requires c =
    (parts_off c.args.self.zones.items c.in-Some.zone c.pop.new.self.items c.args.cores.now.items
    c.gather-parts.result.items c.gather-parts.new.cores.items
    (sym c.into_list-zones.ensures ∙ c.in-Some.ensures.items) c.requires.cores
    c.gather-parts.ensures.dealt c.gather-parts.ensures.count).parts_in

pub invariant_of-left : goal.invariant_of-left
invariant_of-left c =
    let zones : c.args.self.zones.items ≡ c.of.result.items ++ c.in-Some.zone ∷ [] =
    sym c.into_list-zones.ensures ∙ c.in-Some.ensures.items
    ∙ ap (λ (l : List Allocator). l ++ c.in-Some.zone ∷ []) (sym c.of.ensures) in
    record {
      laid_out = laid_less c.args.self.zones.items c.of.result.items c.args.self.firsts.items c.pop-2.new.self.items
          c.in-Some.zone c.in-Some-pop.first zones c.in-Some-pop.ensures.items c.args.self.laid_out;
      sized = sized_less c.args.self.zones.items c.of.result.items c.args.self.frames.items c.pop-3.new.self.items
          c.in-Some.zone c.in-Some-pop-2.last_frames zones c.in-Some-pop-2.ensures.items c.args.self.sized;
      same_cores = cores_less c.args.self.cores c.args.self.zones.items c.of.result.items c.in-Some.zone zones
          c.args.self.same_cores;
    }

pub returns-in-Ok-close-clause-closed : goal.returns-in-Ok-close-clause-closed
returns-in-Ok-close-clause-closed c =
    let zones : c.args.self.zones.items ≡ c.of.result.items ++ c.in-Some.zone ∷ [] =
    sym c.into_list-zones.ensures ∙ c.in-Some.ensures.items
    ∙ ap (λ (l : List Allocator). l ++ c.in-Some.zone ∷ []) (sym c.of.ensures) in
    closed_last c.args.self _ c.in-Some.zone c.args.cores.now.items c.gather-parts.new.cores.items
    c.gather-parts.result.items _
    (parts_off c.args.self.zones.items c.in-Some.zone c.of.result.items c.args.cores.now.items
    c.gather-parts.result.items c.gather-parts.new.cores.items zones c.requires.cores
    c.gather-parts.ensures.dealt c.gather-parts.ensures.count)
    c.in-Some-pop.ensures.items refl c.in-Ok-close.ensures.ok

pub returns-in-Err-clause-same : goal.returns-in-Err-clause-same
returns-in-Err-clause-same c =
    all_back c.args.self _ c.args.cores.now.items c.gather-parts.new.cores.items c.put_back.new.cores.items
    c.gather-parts.result.items
    (c.of-in-Err.ensures ∙ c.push_reserved.ensures.items
    ∙ ap (λ (a : Allocator). c.pop.new.self.items ++ a ∷ []) c.in-Err.ensures.same.0
    ∙ sym c.in-Some.ensures.items ∙ c.into_list-zones.ensures)
    (c.push_reserved-in-Err.ensures.items ∙ sym c.in-Some-pop.ensures.items)
    refl c.gather-parts.ensures.dealt
    (subst (λ (l : List Core). AreDealt c.gather-parts.new.cores.items l c.put_back.new.cores.items)
    (ap (λ v. v.items) c.in-Err.ensures.same.1) c.put_back.ensures)
    c.gather-parts.ensures.count c.requires.cores
