use Rattle.std.proofs.Common.{rules, refl, ◌∙◌}
use Rattle.frame_zones.proofs.Dealing.{deal_at, deal_all}
use Rattle.frame_zones.proofs.last_zone.put_back.Goals as goal

pub loop-part-preserved : goal.loop-part-preserved
loop-part-preserved c =
    deal_at _ c.loop-part.cores.items _ _ c.loop-part.parts.items c.pop.new.self.items c.in-Some.part
    c.index_mut.result.now c.put_last.new.self c.len-number.result c.loop-part.invariant c.in-Some.ensures.items
    (c.len-number.ensures ∙ c.pop.new.self.ok.0) c.index_mut.ensures.value refl c.put_last.ensures

pub returns : goal.returns
returns c = deal_all _ _ _ c.loop-part.parts.items c.loop-part.invariant (search rules)
