-- What clauses say of seats.
use Rattle.std.specs.Prelude.{◌≡◌, ℕ, ◌<◌, ◌≤◌, false, List, [], Option, Some}
use Rattle.std.specs.List.{All}
use Rattle.atomic_table.specs.Table.{Me}
use Rattle.atomic_table.specs.Seated.{TableId}
use Rattle.frame_words.specs.Geometry.{child_frames, tree_frames}
use Rattle.frame_model.specs.declared.key.Key.{Key}
use Rattle.frame_table.specs.declared.rule.Watch.{Watch}
use Rattle.frame_model.specs.declared.view.Sighting.{Sighting}
use Rattle.frame_model.specs.declared.view.View.{View}
use Rattle.frame_model.specs.Block.{block, IsBlock}
use Rattle.frame_model.specs.View.{IsIdle, IsViewOf}
use Rattle.frame_model.specs.declared.block.FrameBlock.{FrameBlock}
use Rattle.frame_model.specs.Seats.{Cut, recall}
use Rattle.frame_model.specs.Without.{less_one}
use Rattle.frame_model.specs.Events.{last_seen}
use Rattle.frame_model.specs.Key.{tree_count}
use Rattle.frame_model.specs.Words.{entry_place, tree_place, local_place}
use Rattle.frame_words.specs.Words.{free_in, flag_in, lane_in, rest_in}
use Rattle.frame_table.specs.Rule.{key_from, known_in, FitsAmong}
use Rattle.frame_table.specs.declared.block.Block.{Block}
use Rattle.frame_table.specs.declared.seats.CoreSeat.{CoreSeat}
use Rattle.frame_table.specs.declared.table.FrameTable.{FrameTable}

-- the key of the table's memory
abbrev pub key_at : FrameTable → Key
key_at t = key_from t.grid.shared.key

-- which table it is
abbrev pub id_of : FrameTable → TableId
id_of t = t.grid.shared.table_id

-- what the seat has in flight
abbrev pub view_of : CoreSeat → View
view_of s = s.seat.me.0.view

-- what the seat has read of each word
abbrev pub reads_of : CoreSeat → ℕ → Option ℕ
reads_of s = last_seen s.seat.me.0.read

-- what the seat is known by
abbrev pub watch_of : CoreSeat → Watch
watch_of s = s.seat.me.0

-- all words, where the seat knows them
abbrev pub words_known_by : CoreSeat → Option (List ℕ)
words_known_by s = known_in s.seat.me.0

-- all words, also where the seat took in a block since it knew them
abbrev pub words_recalled_by : CoreSeat → Option (List ℕ)
words_recalled_by s = s.seat.me.0.known

-- the words are known
abbrev pub KnowsAll : Option (List ℕ) → Type 0
KnowsAll known = (words : List ℕ) × (known ≡ Some words)

-- what was read of a word counts no more than its place can have
pub record AreLaid (key : Key) (read : List Sighting) : Type 0 where
  pub entries : (c seen : ℕ) → c < key.children → last_seen read (entry_place c) ≡ Some seen
      → (free_in (lane_in seen c) ≤ child_frames) × (flag_in (lane_in seen c) ≤ 1)
  pub trees : (t seen : ℕ) → t < tree_count key → last_seen read (tree_place key t) ≡ Some seen
      → (free_in seen ≤ tree_frames) × (flag_in seen ≤ 1)
  pub locals : (k seen tree resting : ℕ) → k < key.cores → last_seen read (local_place key k) ≡ Some seen
      → rest_in seen ≡ Some (tree, resting) → (tree < tree_count key) × (resting ≤ tree_frames)

-- the blocks that the view has, in flight or kept, are those of the memory
abbrev pub HasBlocksOf : Key → View → Type 0
HasBlocksOf key v = All (IsBlock key) v.own × All (IsBlock key) v.kept

-- a seat of a table, whose view is one of the memory
pub record IsSeat (id : TableId) (key : Key) (seat : TableId) (me : Me (Unit {0}) Watch) : Type 0 where
  pub table : seat ≡ id
  pub bare : me.1 ≡ []
  pub about : me.0.view.about ≡ Some key
  pub is_view : ∥ IsViewOf key me.0.view ∥₁
  pub laid : AreLaid key me.0.read
  pub fits : (words : List ℕ) → known_in me.0 ≡ Some words → ∥ FitsAmong key words me.0.view ∥₁

-- the seat of a core at this table; what was held before the opening is not with it
pub record Sits (t : FrameTable) (s : CoreSeat) : Type 0 where
  pub at : IsSeat (id_of t) (key_at t) s.seat.table_id s.seat.me
  pub some : 0 < (view_of s).share
  pub not_ground : (view_of s).is_ground ≡ false

-- the seat of a core at this table, with nothing in flight
pub record IsIdleSeat (t : FrameTable) (s : CoreSeat) : Type 0 where
  pub sits : Sits t s
  pub idle : IsIdle (view_of s)

-- the frames of a block that was handed out
abbrev pub block_in : Block → FrameBlock
block_in b = block b.frame b.order

-- a kept block is handed out again
abbrev pub recall_block : FrameBlock → Cut
recall_block b = recall b (less_one b)

-- the block was handed out at this table, and is one of its memory
pub record IsOut (t : FrameTable) (b : Block) : Type 0 where
  pub table : b.seat.table_id ≡ id_of t
  pub about : b.seat.me.0.view.about ≡ Some (key_at t)
  pub is_block : IsBlock (key_at t) (block b.frame b.order)
