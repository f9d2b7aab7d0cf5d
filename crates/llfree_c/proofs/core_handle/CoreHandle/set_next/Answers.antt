use Rattle.std.proofs.Common.{[], ◌∷◌, ap, ◌∙◌, rules}
use Rattle.std.proofs.lemmas.List.{map-append}
use Rattle.llfree_c.specs.OpenCores.{states_in}
use Rattle.llfree_c.proofs.core_handle.CoreHandle.set_next.Goals as goal

pub returns-clause-last : goal.returns-clause-last
returns-clause-last c = record {
  core = c.in-Some.core.value;
  boxes = ap states_in c.in-Some.ensures.items ∙ map-append (λ b. b.value) c.pop.new.self.items (c.in-Some.core ∷ []);
  behind = search rules;
}
