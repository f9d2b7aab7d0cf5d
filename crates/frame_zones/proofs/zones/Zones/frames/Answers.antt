use Rattle.std.proofs.Common.{◌≡◌, ℕ, List, take, length, ◌∙◌, ap, arith}
use Rattle.std.specs.List.{sum_by}
use Rattle.std.proofs.Math.Seq.{take-length}
use Rattle.frame_zones.proofs.Found.{frames_add_up}
use Rattle.frame_zones.proofs.zones.Zones.frames.Goals as goal

pub returns : goal.returns
returns c =
    let frames : List ℕ = c.args.self.now.frames.items in
    let last : c.loop-frames.frames-index ≡ length frames = omega (arith, c.loop-frames-test.false, c.loop-frames.auto.frames-index-end) in
    c.loop-frames.invariant.sum
    ∙ ap (λ n. sum_by (λ m. m) (take n frames)) last ∙ ap (λ l. sum_by (λ m. m) l) (take-length frames)
    ∙ frames_add_up c.args.self.now
