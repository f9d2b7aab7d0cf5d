use Rattle.std.proofs.Common.{refl}
use Rattle.llfree_trace.proofs.FilterLemmas.{run_performs}
use Rattle.llfree_trace.proofs.program.perform.Goals as goal

pub returns-in_ok-geometry-in-Run : goal.returns-in_ok-geometry-in-Run
returns-in_ok-geometry-in-Run g c =
    let made = c.in_ok-geometry-in-Run.ensures in
    rw c.in-Run.is
    (run_performs g.I.Read.remaining g.O.Write.contents c.in-Run.sizes c.in-Run.show c.in_ok-geometry-in-Run.geometry
    c.args.input.now c.run_on.new.input c.args.output.now c.run_on.new.output c.run_on.result made.sizes (made.lawful.0 refl)
    c.run_on.ensures)
