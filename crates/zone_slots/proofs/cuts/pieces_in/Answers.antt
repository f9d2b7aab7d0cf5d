use Rattle.std.proofs.Common.{arith, subst, sym, ℕ, ◌+◌, List}
use Rattle.zone_slots.specs.Layouts.{EndAtOrBelow}
use Rattle.zone_slots.proofs.Cutting.{AreCut, cut_none, cut_more, cut_all, behind_all}
use Rattle.zone_slots.proofs.cuts.pieces_in.Goals as goal

pub loop-i-init : goal.loop-i-init
loop-i-init c =
    cut_none (c.args.first, c.args.frames) c.args.ranges.now c.new-pieces.result.items c.ends_at_or_below-i.result
    c.new-pieces.ensures.items
    (subst (λ (x : ℕ). EndAtOrBelow x c.args.ranges.now c.ends_at_or_below-i.result) c.from-3.ensures c.ends_at_or_below-i.ensures)

pub loop-i-preserved : goal.loop-i-preserved
loop-i-preserved c =
    subst (λ (ps : List (ℕ × ℕ)). AreCut (c.args.first, c.args.frames) c.args.ranges.now (c.loop-i.i + 1) ps)
    (sym c.in-Ok.ensures.items)
    (cut_more (c.args.first, c.args.frames) c.args.ranges.now c.loop-i.pieces.items c.loop-i.i c.piece_of.result
    c.requires.ranges c.loop-i-test.true c.piece_of.ensures c.loop-i.invariant)

pub returns-then-from-end-clause-pieces : goal.returns-then-from-end-clause-pieces
returns-then-from-end-clause-pieces c =
    cut_all (c.args.first, c.args.frames) c.args.ranges.now c.loop-i.pieces.items c.loop-i.i c.loop-i.invariant
    (behind_all (c.args.first, c.args.frames) c.args.ranges.now c.loop-i.i c.requires.ranges
    (omega (arith, c.if-from-end.true, c.from.ensures, c.from-2.ensures, c.from-in-loop-i.ensures)))

pub returns-clause-pieces : goal.returns-clause-pieces
returns-clause-pieces c =
    cut_all (c.args.first, c.args.frames) c.args.ranges.now c.loop-i.pieces.items c.loop-i.i c.loop-i.invariant
    (λ k at within. absurd (omega (arith, at, within, c.loop-i-test.false)))
