use Rattle.std.proofs.Common.{◌≡◌, length, take, ◌-◌, ◌≤◌, false}
use Rattle.std.specs.Io.KnownBytes.{Appends}
use Rattle.frame_text.specs.Devices.{device_of, has_failed}
use Rattle.frame_text.proofs.devices.write_out.Given as goal

abbrev pub invariant-loop-written : goal.invariant-loop-written
invariant-loop-written g l =
    Appends (g.W.Write.contents (device_of l.fn.output)) (g.W.Write.contents (device_of l.output)) (take l.written l.text)
    × (l.written ≤ length l.text)
    × (has_failed l.output ≡ false)

abbrev pub decreases-loop-written : goal.decreases-loop-written
decreases-loop-written g l = length l.text - l.written
