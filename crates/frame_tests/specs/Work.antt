-- What the work of a core asks of its seat, and what it leaves.
use Rattle.std.specs.Prelude.{◌≡◌, ℕ, pos, ◌+ℤ◌, ◌-ℤ◌, ◌^◌, ◌<◌, ◌≤◌, [], Option, None, IfSome, IfNone, Bool, MatchBool}
use Rattle.frame_model.specs.declared.block.FrameBlock.{FrameBlock}
use Rattle.frame_model.specs.declared.view.View.{View}
use Rattle.frame_model.specs.Key.{tree_count, tree_of}
use Rattle.frame_model.specs.View.{counted, IsIdle}
use Rattle.frame_core.specs.Mover.{Mover, Keeps}
use Rattle.low_frames.specs.Takes.{IsAsBefore}
use Rattle.frame_table.specs.Seats.{key_at, view_of, block_in, IsIdleSeat, IsOut}
use Rattle.frame_table.specs.declared.block.Block.{Block}
use Rattle.frame_table.specs.declared.seats.CoreSeat.{CoreSeat}
use Rattle.frame_table.specs.declared.table.FrameTable.{FrameTable}

-- How views change.

-- n frames of the tree are paid, and nothing else; all but the counts is as before
abbrev pub PaysOnly : ℕ → ℕ → View → View → Type 0
PaysOnly tree n v w = w ≡ record v { paid = counted tree n; moves = w.moves; lost = w.lost }

-- nothing is paid; all but the counts is as before
abbrev pub PaysNothing : View → View → Type 0
PaysNothing v w = w ≡ record v { paid = None; moves = w.moves; lost = w.lost }

-- one block more is lent; all but the counts is as before
abbrev pub LendsOne : View → View → Type 0
LendsOne v w = w ≡ record v { lent = v.lent +ℤ pos 1; moves = w.moves; lost = w.lost }

-- one block less is lent; all but the counts is as before
abbrev pub HasOneBack : View → View → Type 0
HasOneBack v w = w ≡ record v { lent = v.lent -ℤ pos 1; moves = w.moves; lost = w.lost }

-- What is asked of a mover.

-- nothing is in flight
pub record MayPay {T H : Type 0} (t n : ℕ) (m : Mover T H) : Type 0 where
  pub tree : t < tree_count m.key
  pub order : n ≤ 9
  pub idle : IsIdle m.view

-- nothing is in flight but the frames of a block of this order, which are paid in the tree
pub record HasPaidFor {T H : Type 0} (t n : ℕ) (m : Mover T H) : Type 0 where
  pub tree : t < tree_count m.key
  pub order : n ≤ 9
  pub share : 0 < m.view.share
  pub paid : m.view.paid ≡ counted t (2 ^ n)
  pub charged : m.view.charged ≡ None
  pub reserving : m.view.reserving ≡ None
  pub own : m.view.own ≡ []

-- a block is out, and nothing is in flight
pub record MayGiveIdle {T H : Type 0} (block : H) (m : Mover T H) : Type 0 where
  pub held : m.is_out block
  pub idle : IsIdle m.view

-- What it leaves.

-- the mover steps through the same seat of the same memory
pub record StaysThere {T H : Type 0} (old new : Mover T H) : Type 0 where
  pub same_tie : new.tie ≡ old.tie
  pub same_key : new.key ≡ old.key

-- the frames of a block of this order were paid, or nothing was
pub record Pays {T H : Type 0} (t n : ℕ) (made : Bool) (old new : Mover T H) : Type 0 where
  pub keeps : Keeps old new
  pub view : MatchBool made (PaysOnly t (2 ^ n) old.view new.view) (IsAsBefore old.view new.view)

-- what was paid went back
pub record Refunds {T H : Type 0} (old new : Mover T H) : Type 0 where
  pub keeps : Keeps old new
  pub view : PaysNothing old.view new.view

-- all but the counts is as before
pub record IsBack {T H : Type 0} (old new : Mover T H) : Type 0 where
  pub there : StaysThere old new
  pub view : IsAsBefore old.view new.view

-- a block of this order in the tree is out
pub record IsTakenFrom {H : Type 0} (block_of : H → FrameBlock) (is_out : H → Type 0) (t n : ℕ)
    (held : H) : Type 0 where
  pub out : is_out held
  pub order : (block_of held).order ≡ n
  pub tree : tree_of (block_of held).frame ≡ t

-- a block is out and one more lent, or all but the counts is as before
pub record TakesOne {T H : Type 0} (block_of : H → FrameBlock) (t n : ℕ) (answer : Option H)
    (old new : Mover T H) : Type 0 where
  pub there : StaysThere old new
  pub block : IfSome answer (IsTakenFrom block_of new.is_out t n)
  pub some : IfSome answer (λ held. LendsOne old.view new.view)
  pub none : IfNone answer (IsAsBefore old.view new.view)

-- one block less is lent
pub record GivesOne {T H : Type 0} (old new : Mover T H) : Type 0 where
  pub there : StaysThere old new
  pub view : HasOneBack old.view new.view

-- What is asked of the seat of a core, and what it is left as.

-- the table has the tree, and the seat has nothing in flight
pub record MayWork (table : FrameTable) (t n : ℕ) (core : CoreSeat) : Type 0 where
  pub tree : t < tree_count (key_at table)
  pub order : n ≤ 9
  pub idle : IsIdleSeat table core

-- a block is out, and the seat has nothing in flight
pub record MayGiveAt (table : FrameTable) (block : Block) (core : CoreSeat) : Type 0 where
  pub out : IsOut table block
  pub idle : IsIdleSeat table core

-- a block is out and one more lent, or all but the counts is as before
pub record TookOne (table : FrameTable) (t n : ℕ) (answer : Option Block) (old new : CoreSeat)
    : Type 0 where
  pub idle : IsIdleSeat table new
  pub block : IfSome answer (IsTakenFrom block_in (IsOut table) t n)
  pub some : IfSome answer (λ b. LendsOne (view_of old) (view_of new))
  pub none : IfNone answer (IsAsBefore (view_of old) (view_of new))

-- one block less is lent
pub record GaveOne (table : FrameTable) (old new : CoreSeat) : Type 0 where
  pub idle : IsIdleSeat table new
  pub view : HasOneBack (view_of old) (view_of new)

-- all but the counts is as before
pub record HasWorked (table : FrameTable) (old new : CoreSeat) : Type 0 where
  pub idle : IsIdleSeat table new
  pub view : IsAsBefore (view_of old) (view_of new)
