use Rattle.std.proofs.Common.{ap, ◌∙◌}
use Rattle.llfree_c.specs.declared.handle.PlainHandle.{PlainHandle}
use Rattle.llfree_c.proofs.Options.{some_of}
use Rattle.llfree_c.proofs.handle.PlainHandle.take_out.Goals as goal

pub into_loose-requires : goal.into_loose-requires
into_loose-requires c =
    let was = c.replace-state.result in
    some_of was.state.value (was.tie.0 (ap (λ (h : PlainHandle). h.live) c.replace-state.ensures.value ∙ c.if-not-self.false))
