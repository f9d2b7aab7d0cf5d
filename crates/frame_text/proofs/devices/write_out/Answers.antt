use Rattle.std.proofs.Common.{◌≡◌, ◌-◌, length, take, drop, arith}
use Rattle.std.proofs.lemmas.Grind.{common_steps}
use Rattle.std.proofs.lemmas.List.{length-drop}
use Rattle.std.proofs.Math.Seq.{take-add}
use Rattle.csv.proofs.WriteFacts.{appends-more}
use Rattle.frame_text.proofs.devices.write_out.Goals as goal

-- what was written before and what this write took are a longer front of the text
pub loop-written-preserved : goal.loop-written-preserved
loop-written-preserved g c =
    let inv = c.loop-written.invariant in
    let write = c.in_ok-written.ensures in
    let n = c.loop-written.written in
    let text = c.args.text.now in
    let tail : take (length text - n) (drop n text) ≡ drop n text = grind (arith, common_steps) in
    let more = rw tail at write.bytes in
    (rw take-add (appends-more _ _ _ _ _ inv.0 more), omega (arith, write.bound, length-drop n text), write.noted)
