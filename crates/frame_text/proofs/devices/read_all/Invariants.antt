use Rattle.std.proofs.Common.{length, ◌-◌, ◌≤◌, ◌≡◌, true}
use Rattle.std.specs.Io.KnownBytes.{Consumes}
use Rattle.frame_text.specs.Devices.{device_of, has_failed}
use Rattle.frame_text.proofs.devices.read_all.Given as goal

abbrev pub invariant-loop-text : goal.invariant-loop-text
invariant-loop-text g l =
    Consumes (g.R.Read.remaining (device_of l.fn.input)) (g.R.Read.remaining (device_of l.input)) l.text.items
    × (length l.text.items ≤ 16777216)
    × (has_failed l.fn.input ≡ true → l.input ≡ l.fn.input)

abbrev pub decreases-loop-text : goal.decreases-loop-text
decreases-loop-text g l = 16777216 - length l.text.items
