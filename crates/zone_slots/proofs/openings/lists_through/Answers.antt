use Rattle.std.proofs.Common.{List, Option, IfSome, sym, subst}
use Rattle.std.proofs.lemmas.List.Elements.{All-pop, All-push}
use Rattle.frame_zones.specs.Zones.{AreCoresOf}
use Rattle.frame_zones.specs.declared.zones.ZoneCore.{ZoneCore}
use Rattle.zone_slots.specs.Openings.{IsUnusedCore, AreUnusedIn}
use Rattle.zone_slots.proofs.Opened.{unused_still}
use Rattle.zone_slots.proofs.openings.lists_through.Goals as goal

pub returns-clause-cores : goal.returns-clause-cores
returns-clause-cores c =
    let zs = c.args.zones.now in
    let are = All-pop (AreCoresOf zs) c.args.parts.now.items c.pop.new.self.items c.pop.result c.pop.ensures.items c.requires.cores.are_cores in
    let unused = All-pop IsUnusedCore c.args.parts.now.items c.pop.new.self.items c.pop.result c.pop.ensures.items c.requires.cores.unused in
    let was : AreCoresOf zs c.in-Some.part = subst (λ (r : Option ZoneCore). IfSome r (AreCoresOf zs)) c.in-Some.is are.1 in
    let none : IsUnusedCore c.in-Some.part = subst (λ (r : Option ZoneCore). IfSome r IsUnusedCore) c.in-Some.is unused.1 in
    subst (λ (l : List ZoneCore). AreUnusedIn zs l) (sym c.in-Ok.ensures.items)
    (record {
      are_cores = All-push (AreCoresOf zs) c.pop.new.self.items c.lists_of.new.core are.0 c.lists_of.ensures.core;
      unused = All-push IsUnusedCore c.pop.new.self.items c.lists_of.new.core unused.0
          (unused_still zs c.in-Some.part c.lists_of.new.core was c.lists_of.ensures.core c.in_ok-lists.ensures.used none);
    })
