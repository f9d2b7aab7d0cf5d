-- What a seat that steps on its table has, as one value.
use Rattle.std.specs.Prelude.{◌≡◌, ℕ}
use Rattle.frame_core.specs.Mover.{Mover}
use Rattle.frame_table.specs.Seats.{key_at, id_of, view_of, reads_of, words_known_by, words_recalled_by, IsOut}
use Rattle.frame_table.specs.Ties.{Tied}
use Rattle.frame_table.specs.declared.block.Block.{Block}
use Rattle.frame_table.specs.declared.seats.CoreSeat.{CoreSeat}
use Rattle.frame_table.specs.declared.shared.SharedMoves.{SharedMoves}
use Rattle.frame_table.specs.declared.table.FrameTable.{FrameTable}

-- the table that a mover steps on
abbrev pub table_under : SharedMoves → FrameTable
table_under m = m.table.now

-- the seat that it steps through
abbrev pub seat_under : SharedMoves → CoreSeat
seat_under m = m.seat.now

-- the name of the place where it leaves that seat
abbrev pub name_under : SharedMoves → ℕ
name_under m = m.seat.ghost_name

-- the seat has all shares, so nobody else steps: each step on a word asks for a share
abbrev pub HasAllShares : FrameTable → CoreSeat → Type 0
HasAllShares t s = (view_of s).share ≡ (key_at t).cores

-- what a seat has as it steps: an exchange is lost only where a word differs. Others step too, but where
-- it has all shares; once it took a block in, it recalls the words, and knows them after its next step.
abbrev pub mover : SharedMoves → Mover Tied Block
mover m = record {
  tie = (m.seat.ghost_name, id_of m.table.now);
  key = key_at m.table.now;
  view = view_of m.seat.now;
  read = λ i. reads_of m.seat.now i;
  words = words_known_by m.seat.now;
  recalled = words_recalled_by m.seat.now;
  missed = m.missed;
  is_undisturbed = HasAllShares m.table.now m.seat.now;
  is_alone = HasAllShares m.table.now m.seat.now;
  loses_at_will = ⊥;
  is_out = λ b. IsOut m.table.now b;
}
