use Rattle.plain_moves.specs.PlainState.{key_by, view_by}
use Rattle.plain_moves.proofs.PlainOwn.{low_own}
use Rattle.plain_moves.proofs.plain.PlainMoves.has_frames.Goals as goal

pub count_smalls-requires : goal.count_smalls-requires
count_smalls-requires c =
    let m = c.args.self.now in
    low_own (key_by m) m.words.items m.outs.items (view_by m) m.geometry.few_children m.agrees
