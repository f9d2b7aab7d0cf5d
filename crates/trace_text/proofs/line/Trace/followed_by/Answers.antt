use Rattle.std.proofs.Common.{◌≡◌, ◌++◌, ap, arith, length, length-append, refl}
use Rattle.trace_text.proofs.Behind.{core_count_both, ranges_in_both}
use Rattle.trace_text.proofs.line.Trace.followed_by.Goals as goal

pub invariant_of-result : goal.invariant_of-result
invariant_of-result c =
    let front = c.self.inside.lines.items in
    let behind = c.behind.inside.lines.items in
    let lines : c.append.new.self.items ≡ front ++ behind = c.in_ok-append.ensures.items in
    let named = core_count_both front behind in
    rw (lines, c.in_ok-append-2.ensures.items) (
      omega (arith, c.requires, ap length c.self.view_is, ap length c.behind.view_is, length-append front behind),
      omega (arith, named, c.self.invariant.1, c.behind.invariant.1),
      rw (ranges_in_both front behind, c.self.invariant.2, c.behind.invariant.2) refl,
      omega (arith, named, c.self.invariant.3, c.behind.invariant.3, c.max.ensures),
    )
