-- What a view has in flight: its readers, and the views of a fixed form.
use Rattle.std.specs.Prelude.{◌≡◌, ◌≢◌, ◌⊎◌, ℕ, pos, ◌+◌, ◌*◌, ◌/◌, ◌<◌, ◌≤◌, List, [], ◌∷◌, length, Option, Some, None, true, false, not, ◌&&◌, nat_eq, if◌then◌else◌, map, filter}
use Rattle.std.specs.List.{range_with_len, All}
use Rattle.frame_words.specs.Geometry.{word_frames}
use Rattle.frame_words.specs.Runs.{child_words}
use Rattle.frame_model.specs.declared.block.FrameBlock.{FrameBlock}
use Rattle.frame_model.specs.declared.key.Key.{Key}
use Rattle.frame_model.specs.declared.view.Amount.{Amount}
use Rattle.frame_model.specs.declared.view.View.{View}
use Rattle.frame_model.specs.Key.{frame_count, tree_count, child_of, is_boot_frame}
use Rattle.frame_model.specs.Block.{block, IsBlock, smalls, wholes}

-- so many frames of a place; none of them is no amount
unfoldable pub counted : ℕ → ℕ → Option Amount
counted place n = if nat_eq n 0 then None else Some (record { place = place; count = n })

-- the count of an amount where it is in the place, else 0
unfoldable pub count_in : ℕ → Option Amount → ℕ
count_in place None = 0
count_in place (Some amount) = if nat_eq amount.place place then amount.count else 0

-- an amount that stands is above 0
abbrev pub IsAmount : Option Amount → Type 0
IsAmount None = Unit {0}
IsAmount (Some amount) = 0 < amount.count

-- nothing is counted but in this place
abbrev pub NoneBut : ℕ → Option Amount → Type 0
NoneBut place amount = (other : ℕ) → other ≢ place → count_in other amount ≡ 0

-- 1 where the list names the number, else 0
unfoldable pub names : ℕ → List ℕ → ℕ
names n [] = 0
names n (m ∷ ms) = if nat_eq m n then 1 else names n ms

-- 1 where the option is the number, else 0
unfoldable pub is_at : ℕ → Option ℕ → ℕ
is_at n None = 0
is_at n (Some m) = if nat_eq m n then 1 else 0

-- how many of the view's blocks below order 9, own or kept, hold the frame
abbrev pub small_in : ℕ → View → ℕ
small_in frame v = smalls frame v.own + smalls frame v.kept

-- how many of the view's blocks, own or kept, are the whole child
abbrev pub whole_in : ℕ → View → ℕ
whole_in child v = wholes child v.own + wholes child v.kept

-- 1 where the view has filled the bit word of the frame
abbrev pub fills : ℕ → View → ℕ
fills frame v = names (frame / word_frames) v.filled

-- how often the view asks for the bit of a frame to be set
abbrev pub marks : ℕ → View → ℕ
marks frame v = small_in frame v + fills frame v

-- how many frames of a child the view has charged
abbrev pub charged_in : ℕ → View → ℕ
charged_in child v = count_in child v.charged

-- how many frames of a tree the view has paid
abbrev pub paid_on : ℕ → View → ℕ
paid_on tree v = count_in tree v.paid

-- 1 where the view is reserving the tree
abbrev pub reserves : ℕ → View → ℕ
reserves tree v = is_at tree v.reserving

-- how many blocks are out with the view: it has no share and is not the ground
unfoldable pub blocks_out : View → ℕ
blocks_out v = if nat_eq v.share 0 && not v.is_ground then length v.own else 0

-- the blocks that were held before the opening: the ground owns them, and the opener keeps them until it parts off
unfoldable pub ground_blocks : View → List FrameBlock
ground_blocks v = if v.is_ground then (if nat_eq v.share 0 then v.own else v.kept) else []

-- how many of these, below order 9, hold the frame
abbrev pub ground_small_in : ℕ → View → ℕ
ground_small_in frame v = smalls frame (ground_blocks v)

-- 1 where the view is the ground
unfoldable pub ground_in : View → ℕ
ground_in v = if v.is_ground then 1 else 0

-- the view of a seat that was joined to another
abbrev pub spent : View
spent = record {
  about = None;
  share = 0;
  lent = pos 0;
  is_ground = false;
  paid = None;
  charged = None;
  reserving = None;
  own = [];
  kept = [];
  filled = [];
  moves = 0;
  lost = 0;
}

-- a view with so many shares that has nothing in flight
abbrev pub idle : Key → ℕ → View
idle key share = record spent { about = Some key; share = share }

-- the view of a seat that has one block, which was handed out
abbrev pub holder : Option Key → FrameBlock → View
holder about b = record spent { about = about; own = b ∷ [] }

-- the view that holds these blocks for whom they were held before the opening
abbrev pub ground_with : Key → List FrameBlock → View
ground_with key blocks = record spent { about = Some key; is_ground = true; own = blocks }

-- the frames that nobody is ever given, each as a block of order 0
unfoldable pub boot_blocks : Key → List FrameBlock
boot_blocks key =
    map (λ frame. block frame 0)
    (filter (is_boot_frame key) (range_with_len 0 (frame_count key)))

-- the ground of a sealed memory, which no seat has and no step changes; of another it is spent
unfoldable pub fixed_ground : Key → View
fixed_ground key = if key.sealed then ground_with key (boot_blocks key) else spent

-- nothing is in flight
pub record IsIdle (v : View) : Type 0 where
  pub share : 0 < v.share
  pub paid : v.paid ≡ None
  pub charged : v.charged ≡ None
  pub reserving : v.reserving ≡ None
  pub own : v.own ≡ []

-- what the view charges and has in flight lies in this child
pub record LiesIn (v : View) (child : ℕ) : Type 0 where
  pub charged : NoneBut child v.charged
  pub smalls : (frame : ℕ) → child_of frame ≢ child → smalls frame v.own ≡ 0
  pub wholes : (other : ℕ) → other ≢ child → wholes other v.own ≡ 0

-- the view has no share: it pays, charges, reserves, keeps and fills nothing
pub record HasNoPart (v : View) : Type 0 where
  pub paid : v.paid ≡ None
  pub charged : v.charged ≡ None
  pub reserving : v.reserving ≡ None
  pub kept : v.kept ≡ []
  pub filled : v.filled ≡ []

-- nothing was handed out by the view, and it has one block or none
pub record HasOneBlock (v : View) : Type 0 where
  pub lent : v.lent ≡ pos 0
  pub own : length v.own ≤ 1

-- a bit word that the view has filled is one of a huge frame in flight
pub record HasFilled (key : Key) (v : View) (word : ℕ) : Type 0 where
  pub inside : word < child_words * key.children
  pub share : 0 < v.share
  pub own : 0 < wholes (word / child_words) v.own

-- what holds of each view of a memory by itself
pub record IsViewOf (key : Key) (v : View) : Type 0 where
  pub named : (v ≡ spent) ⊎ (v.about ≡ Some key)
  pub own : All (IsBlock key) v.own
  pub kept : All (IsBlock key) v.kept
  pub no_part : v.share ≡ 0 → HasNoPart v
  pub one_block : v.share ≡ 0 → v.is_ground ≡ false → HasOneBlock v
  pub one_child : 0 < v.share → (child : ℕ) × LiesIn v child
  pub filled : (word : ℕ) → 0 < names word v.filled → HasFilled key v word
  pub charged : (child : ℕ) → key.children ≤ child → charged_in child v ≡ 0
  pub paid : (tree : ℕ) → tree_count key ≤ tree → paid_on tree v ≡ 0
  pub reserving : (tree : ℕ) → tree_count key ≤ tree → reserves tree v ≡ 0
  pub some_charged : IsAmount v.charged
  pub some_paid : IsAmount v.paid
