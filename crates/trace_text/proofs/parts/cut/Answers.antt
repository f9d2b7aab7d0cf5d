use Rattle.std.proofs.Common.{◌-◌, ◌∙◌, arith}
use Rattle.std.proofs.lemmas.List.{get_or-take}
use Rattle.trace_text.proofs.parts.cut.Goals as goal

pub returns : goal.returns
returns c =
    let end = c.in_ok-end.end in
    let inside = c.in_ok-end.ensures.inside in
    record {
      whole = c.split_at.ensures.by_index.0;
      long = omega (arith, c.if-part-lt3.false);
      ended = rw (c.split_at.ensures.front_len, c.split_at.ensures.front)
          (get_or-take end c.args.text.now (end - 1) 0 (omega (arith, inside.0)) ∙ c.in_ok-end.ensures.feed);
      unmarked = c.has_mark.ensures c.if-has_mark.false;
    }
