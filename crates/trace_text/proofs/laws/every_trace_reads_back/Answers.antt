use Rattle.trace_text.proofs.Spelling.{are_most, sample_is_spelled, traces_read_back}
use Rattle.trace_text.proofs.laws.every_trace_reads_back.Goals as goal

pub returns : goal.returns
returns c = record { read = traces_read_back; sample = sample_is_spelled; most = are_most }
