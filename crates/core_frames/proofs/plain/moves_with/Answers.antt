use Rattle.std.proofs.Common.{false, sym, subst}
use Rattle.frame_words.specs.declared.geometry.Geometry.{Geometry}
use Rattle.frame_model.specs.Key.{sealed_key}
use Rattle.frame_model.specs.Rebuilt.{IsRebuilt}
use Rattle.plain_moves.specs.Plain.{plain_key}
use Rattle.core_frames.proofs.PlainKeys.{rebuilt_under}
use Rattle.core_frames.proofs.plain.moves_with.Goals as goal

pub new_at-requires : goal.new_at-requires
new_at-requires c =
    let i = c.in_ok-image.image in
    subst (λ (g : Geometry). IsRebuilt (plain_key g false) i.words i.words) (sym c.in_ok-image.ensures.geometry)
    (rebuilt_under (sealed_key c.args.geometry.now c.args.ranges.now) i.words i.words c.in_ok-image.ensures.opens.exact)
