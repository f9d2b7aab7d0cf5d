use Rattle.std.proofs.Common.{subst, ◌∙◌, arith}
use Rattle.core_frames.specs.Bounds.{most_in_own_tree, most_elsewhere}
use Rattle.core_frames.specs.Cores.{memory_of, losses_by}
use Rattle.core_frames.specs.Found.{FindsNoneOwn}
use Rattle.std.specs.Prelude.{nat_lt, IfNone}
use Rattle.core_frames.proofs.FoundLemmas.{found_elsewhere}
use Rattle.core_frames.proofs.shared.allocator.Allocator.find_of.Goals as goal

pub returns-in-None : goal.returns-in-None
returns-in-None c =
    let own = c.take_own-own.ensures in
    let others = c.find_elsewhere.ensures in
    record {
      stays = record {
        is_core = others.core.is_core;
        same_number = others.core.same_number ∙ own.core.same_number;
        stays_alone = λ alone. others.core.stays_alone (own.core.stays_alone alone);
      };
      finds =
          found_elsewhere c.args.self.now c.args.order c.args.core.now c.take_own-own.new.core c.find_elsewhere.new.core most_in_own_tree
          (most_elsewhere (memory_of c.args.self.now)) c.take_own-own.result.1
          (nat_lt (losses_by c.take_own-own.new.core) (losses_by c.find_elsewhere.new.core))
          own.core.stays_alone c.find_elsewhere.result own.looks
          (subst (λ r. IfNone r (FindsNoneOwn c.args.self.now c.args.core.now c.take_own-own.new.core)) c.in-None.is own.none) own.sure
          others.looks others.found others.none others.sure others.lost;
      few = omega (arith, own.looks.few, others.looks.few);
    }
