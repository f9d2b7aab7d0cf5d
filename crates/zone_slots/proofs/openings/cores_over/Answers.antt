use Rattle.std.proofs.Common.{rules, sym, subst, ap, ◌∙◌, ◌≡◌, ◌++◌, List, Option, IfSome}
use Rattle.std.specs.Prelude.{option_to_list}
use Rattle.std.specs.Arc.{arc_value}
use Rattle.std.specs.List.{All}
use Rattle.std.proofs.lemmas.List.Elements.{All-pop, All-push}
use Rattle.frame_zones.specs.Zones.{AreCoresOf}
use Rattle.frame_zones.specs.declared.zones.ZoneCore.{ZoneCore}
use Rattle.zone_slots.specs.declared.core_state.CoreState.{CoreState}
use Rattle.zone_slots.specs.Openings.{Shares, IsUnusedCore, IsUnusedState, parts_from_last}
use Rattle.zone_slots.proofs.KeptHomes.{order_more}
use Rattle.zone_slots.proofs.openings.cores_over.Goals as goal

pub state_over-requires : goal.state_over-requires
state_over-requires c =
    let P : ZoneCore → Type 0 = AreCoresOf (arc_value c.args.shared.now).zones in
    let popped = All-pop P c.loop-core.cores.items c.pop.new.self.items c.pop.result c.pop.ensures.items
    c.loop-core.invariant.cores in
    subst (λ (r : Option ZoneCore). IfSome r P) c.in-Some.is popped.1

pub loop-core-preserved : goal.loop-core-preserved
loop-core-preserved c =
    let shared = arc_value c.args.shared.now in
    record {
      cores =
          (All-pop (AreCoresOf shared.zones) c.loop-core.cores.items c.pop.new.self.items c.pop.result c.pop.ensures.items
          c.loop-core.invariant.cores).0;
      states = subst (λ (states : List CoreState). All (Shares shared) states) (sym c.in-Ok.ensures.items)
          (All-push (Shares shared) _ _ c.loop-core.invariant.states c.in_ok-state.ensures.shared);
      unused = λ all.
          let before = c.loop-core.invariant.unused all in
          let popped = All-pop IsUnusedCore c.loop-core.cores.items c.pop.new.self.items c.pop.result c.pop.ensures.items before.0 in (
            popped.0,
            subst (λ (states : List CoreState). All IsUnusedState states) (sym c.in-Ok.ensures.items)
                (All-push IsUnusedState _ _ before.1 (
                  subst IsUnusedCore (sym c.in_ok-state.ensures.core)
                      (subst (λ (r : Option ZoneCore). IfSome r IsUnusedCore) c.in-Some.is popped.1),
                  c.in_ok-state.ensures.rest,
                )),
          );
      order = subst (λ (states : List CoreState). c.pop.new.self.items ++ parts_from_last states ≡ c.args.cores.items) (sym c.in-Ok.ensures.items)
          (order_more c.loop-core.cores.items c.pop.new.self.items c.args.cores.items c.in-Some.core c.loop-core.states.items c.in_ok-state.state
          (c.pop.ensures.items ∙ ap (λ (r : Option ZoneCore). c.pop.new.self.items ++ option_to_list r) c.in-Some.is)
          c.in_ok-state.ensures.core c.loop-core.invariant.order);
      count = search rules;
    }
