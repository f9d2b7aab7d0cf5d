-- What seats do among themselves, with no word: one is cut in two, or takes in another.
use Rattle.std.specs.Prelude.{◌≡◌, ℕ, pos, ◌+◌, ◌-◌, ◌^◌, ◌+ℤ◌, ◌-ℤ◌, ◌<◌, ◌≤◌, List, [], ◌∷◌, ◌++◌, true, false, ◌||◌, Contains}
use Rattle.frame_model.specs.declared.block.FrameBlock.{FrameBlock}
use Rattle.frame_model.specs.declared.key.Key.{Key}
use Rattle.frame_model.specs.declared.view.View.{View}
use Rattle.frame_model.specs.Key.{child_of}
use Rattle.frame_model.specs.Block.{IsBlock}
use Rattle.frame_model.specs.View.{LiesIn, IsIdle, spent, holder}
use Rattle.frame_model.specs.Steps.{Rest}
use Rattle.frame_model.specs.Steps.Amounts.{Leaves}
use Rattle.frame_model.specs.Steps.Conditions.{IsUnfilled}

-- how a seat may be cut in two
pub data Cut : Type 0 where
  part_share : (n : ℕ) → Cut
  hand_out : (b : FrameBlock) (rest : Rest) → Cut
  recall : (b : FrameBlock) (rest : Rest) → Cut
  part_ground : Cut
  adopt : (b : FrameBlock) (rest : Rest) → Cut

-- how a seat may take in another
pub data Join : Type 0 where
  join_idle : Join
  hand_in : Join
  keep_in : Join

-- some shares leave, and some stay
pub record CanPartShare (v : View) (n : ℕ) : Type 0 where
  pub some : 0 < n
  pub fewer : n < v.share

-- the frames of the block are in flight: below order 9 in such blocks, else as a huge frame that
-- is unfilled
pub record CanHandOut (key : Key) (v : View) (b : FrameBlock)
    (rest : List FrameBlock) : Type 0 where
  pub share : 0 < v.share
  pub is_block : IsBlock key b
  pub leaves : Leaves key v.own b rest
  pub unfilled : b.order ≡ 9 → IsUnfilled (child_of b.frame) v

-- the block is one of the kept ones, and leaves them; none of these was held before the opening.
-- What stays of the kept blocks is any list with exactly the other frames, in whatever blocks.
pub record CanRecall (key : Key) (v : View) (b : FrameBlock) (rest : List FrameBlock) : Type 0 where
  pub share : 0 < v.share
  pub not_ground : v.is_ground ≡ false
  pub is_kept : Contains v.kept b
  pub is_block : IsBlock key b
  pub leaves : Leaves key v.kept b rest

-- a view with a share still keeps what was held before the opening
pub record CanPartGround (v : View) : Type 0 where
  pub share : 0 < v.share
  pub is_ground : v.is_ground ≡ true

-- the block was held before the opening, and all of its frames exist
pub record CanAdopt (key : Key) (v : View) (b : FrameBlock) (rest : List FrameBlock) : Type 0 where
  pub share : v.share ≡ 0
  pub is_ground : v.is_ground ≡ true
  pub is_block : IsBlock key b
  pub inside : b.frame + 2 ^ b.order ≤ key.frames
  pub leaves : Leaves key v.own b rest

-- the other view has nothing but a block that was handed out. A word of it is never filled: only a
-- view with a share fills words, those of its own huge frames.
pub record CanTakeIn (v u : View) : Type 0 where
  pub share : 0 < v.share
  pub out : u.share ≡ 0
  pub not_ground : u.is_ground ≡ false
  pub block : FrameBlock
  pub owns : u.own ≡ block ∷ []

-- and nothing is in flight in a child other than the block's
pub record CanHandIn (v u : View) : Type 0 where
  pub takes : CanTakeIn v u
  pub one_child : LiesIn v (child_of takes.block.frame)

-- nothing is in flight with either view
pub record CanJoinIdle (v u : View) : Type 0 where
  pub keeper : IsIdle v
  pub other : IsIdle u

-- what a cut asks of the view
abbrev pub MayCut : Key → Cut → View → Type 0
MayCut key (part_share n) v = CanPartShare v n
MayCut key (hand_out b rest) v = CanHandOut key v b (rest v.own)
MayCut key (recall b rest) v = CanRecall key v b (rest v.kept)
MayCut key part_ground v = CanPartGround v
MayCut key (adopt b rest) v = CanAdopt key v b (rest v.own)

-- the view of the seat that was cut; t counts its moves
abbrev pub left_by : (ℕ → ℕ) → Cut → View → View
left_by t (part_share n) v = record v { share = v.share - n; moves = t v.moves }
left_by t (hand_out b rest) v = record v {
  own = rest v.own;
  lent = v.lent +ℤ pos 1;
  moves = t v.moves;
}
left_by t (recall b rest) v = record v {
  kept = rest v.kept;
  lent = v.lent +ℤ pos 1;
  moves = t v.moves;
}
left_by t part_ground v = record v { is_ground = false; kept = []; moves = t v.moves }
left_by t (adopt b rest) v = record v {
  own = rest v.own;
  lent = v.lent +ℤ pos 1;
  moves = t v.moves;
}

-- the view of the new seat
abbrev pub right_by : Cut → View → View
right_by (part_share n) v = record spent { about = v.about; share = n }
right_by (hand_out b rest) v = holder v.about b
right_by (recall b rest) v = holder v.about b
right_by part_ground v = record spent { about = v.about; is_ground = true; own = v.kept }
right_by (adopt b rest) v = holder v.about b

-- what a join asks of the two views
abbrev pub MayJoin : Join → View → View → Type 0
MayJoin join_idle v u = CanJoinIdle v u
MayJoin hand_in v u = CanHandIn v u
MayJoin keep_in v u = CanTakeIn v u

-- the view of the seat that took the other in; the other is spent
abbrev pub joined_by : (ℕ → ℕ) → Join → View → View → View
joined_by t join_idle v u = record v {
  share = v.share + u.share;
  lent = v.lent +ℤ u.lent;
  is_ground = v.is_ground || u.is_ground;
  kept = v.kept ++ u.kept;
  moves = t v.moves;
}
joined_by t hand_in v u = record v {
  own = u.own ++ v.own;
  lent = v.lent -ℤ pos 1;
  moves = t v.moves;
}
joined_by t keep_in v u = record v {
  kept = u.own ++ v.kept;
  lent = v.lent -ℤ pos 1;
  moves = t v.moves;
}
