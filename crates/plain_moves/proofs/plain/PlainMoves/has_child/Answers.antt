use Rattle.std.proofs.Common.{◌*◌}
use Rattle.frame_model.specs.Block.{block, wholes}
use Rattle.frame_model.proofs.Blocks.{child_is_block}
use Rattle.plain_moves.specs.PlainState.{key_by, view_by}
use Rattle.plain_moves.proofs.Checks.{leaves_known, child_has_frames, above_none, below_none, whole_not}
use Rattle.plain_moves.proofs.plain.PlainMoves.has_child.Goals as goal

pub returns-clause-yes : goal.returns-clause-yes
returns-clause-yes c =
    let m = c.args.self.now in
    let key = key_by m in
    λ yes. leaves_known key m.words.items m.outs.items (view_by m) (block (512 * c.args.child) 9) m.agrees
    (child_is_block key c.args.child c.requires)
    (child_has_frames c.args.child m.own.items (above_none c.count_wholes.result
    (wholes c.args.child m.own.items) yes c.count_wholes.ensures))

pub returns-clause-no : goal.returns-clause-no
returns-clause-no c =
    let own = c.args.self.now.own.items in
    λ no l. whole_not (key_by c.args.self.now) own _ c.args.child
    (below_none c.count_wholes.result (wholes c.args.child own) no c.count_wholes.ensures) l
