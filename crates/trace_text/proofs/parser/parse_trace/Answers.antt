use Rattle.std.proofs.Common.{◌≡◌, ◌∙◌, length, true, rules, arith}
use Rattle.std.specs.Result.{is_ok}
use Rattle.trace_text.proofs.Parsing.{read_all, read_refused, reads_more, reads_none}
use Rattle.trace_text.proofs.parser.parse_trace.Goals as goal

pub loop-ranges-init : goal.loop-ranges-init
loop-ranges-init c =
    rw (c.in_ok-lines.ensures.items, c.new-ranges.ensures.items, c.new-records.ensures.rows)
    (reads_none c.cores-cores.result c.args.text.now)

pub returns-then-not-found-clause-found : goal.returns-then-not-found-clause-found
returns-then-not-found-clause-found c =
    let none = c.in_ok-found.ensures.none c.if-not-found.true in
    rw (← c.cores-cores.ensures.value) (c.loop-ranges.invariant.says ∙ rw (none, c.of.ensures) (read_all _ _ _))

pub loop-ranges-preserved : goal.loop-ranges-preserved
loop-ranges-preserved c =
    let next = c.in_ok-found.ensures.found c.if-not-found.false in
    let so_far = rw next at c.loop-ranges.invariant in
    let size = c.as_slice.ensures.value in
    let line = rw size at c.in-Some.ensures.value in
    let few = rw size at c.in-Some.ensures.few in
    let good : is_ok c.push.result ≡ true = search rules in
    let items = rw good at c.push.ensures.items in
    let more = reads_more c.cores-cores.result c.args.text.now c.loop-ranges.lines.items c.loop-ranges.ranges.items
    c.loop-ranges.named _ c.read.new.self.rows c.in-Some.line so_far line c.in-Some.ensures.core few in
    rw (items, c.in_ok-note_range-in-Some.ensures, c.cores_with-named.ensures) more

pub returns-in-None-clause-refused : goal.returns-in-None-clause-refused
returns-in-None-clause-refused c =
    let next = c.in_ok-found.ensures.found c.if-not-found.false in
    let size = c.as_slice.ensures.value in
    let first : c.len.result ≡ length c.loop-ranges.lines.items = omega arith in
    rw (← c.cores-cores.ensures.value) (c.loop-ranges.invariant.says
    ∙ rw (next, c.number_after-number.ensures, first)
    (read_refused _ _ _ _ c.read.new.self.rows (rw size at c.in-None.ensures.value)))
