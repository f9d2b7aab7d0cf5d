use Rattle.std.proofs.Common.{◌≡◌, take}
use Rattle.llfree_trace.specs.Desk.{IsLawful, IsSameMemory, RunsFirst}
use Rattle.llfree_trace.proofs.one_core.run_records.Given as goal

abbrev pub invariant-loop-line : goal.invariant-loop-line
invariant-loop-line l = record {
  runs : RunsFirst l.fn.desk 1 (take l.line-index l.lines) l.answers.items l.desk;
  lawful : IsLawful l.desk;
  count : l.number ≡ l.line-index;
  memory : IsSameMemory l.fn.desk l.desk;
}
