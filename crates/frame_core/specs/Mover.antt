-- What a mover has, what each class of move asks of it, and what the move leaves.
use Rattle.std.specs.Prelude.{◌≡◌, ◌≢◌, ◌⊎◌, ℕ, ◌+◌, ◌^◌, ◌<◌, ◌≤◌, List, ◌∷◌, ◌++◌, Option, Some, IfSome, Bool, true, false, not, ◌||◌, MatchBool, slice_index}
use Rattle.std.specs.List.{All}
use Rattle.frame_words.specs.Words.{rest_in}
use Rattle.frame_model.specs.declared.block.FrameBlock.{FrameBlock}
use Rattle.frame_model.specs.declared.key.Key.{Key}
use Rattle.frame_model.specs.declared.place.Place.{Place}
use Rattle.frame_model.specs.declared.view.View.{View}
use Rattle.frame_model.specs.Key.{child_of, is_boot_frame}
use Rattle.frame_model.specs.Words.{IsRest}
use Rattle.frame_model.specs.View.{LiesIn, holder}
use Rattle.frame_model.specs.Holding.{holders}
use Rattle.frame_model.specs.Fit.{Fit}
use Rattle.frame_model.specs.Steps.{Kind, swap_local, place, effect, May, after_load, after_loss}
use Rattle.frame_model.specs.Seats.{hand_in, MayCut, left_by, joined_by}
use Rattle.frame_core.specs.Moves.{hand_out_block, place_of, IsPlace, HasLayout, ReadsBut, after, Changes, Exchanges, IsAtRest}

-- what a mover has: T is the type of its tie, H of the blocks that it hands out
pub record Mover (T H : Type 0) : Type 1 where
  -- what ties it to the seat that it steps through
  pub tie : T
  -- the key of the memory
  pub key : Key
  -- what the seat has in flight
  pub view : View
  -- for the number of each word, what the seat knows that it last was
  pub read : ℕ → Option ℕ
  -- all words, where they are known between two moves
  pub words : Option (List ℕ)
  -- all words, also where a block was taken in since they were known
  pub recalled : Option (List ℕ)
  -- an exchange was lost since this was last cleared
  pub missed : Bool
  -- nobody else steps before the next move has been made, and it is not lost at will
  pub is_undisturbed : Type 0
  -- nobody else steps any more, and every other view with a share has nothing in flight
  pub is_alone : Type 0
  -- the next exchange is lost although its word is as it was seen
  pub loses_at_will : Type 0
  -- the block was handed out and can be taken in here
  pub is_out : H → Type 0

-- no frame of the block is past the end of the memory
abbrev pub LiesInside : Key → FrameBlock → Type 0
LiesInside key b = b.frame + 2 ^ b.order ≤ key.frames

-- no frame lies in two blocks that the view has, in flight or kept, nor in one of them where the
-- opening held it back; and no frame past the end is in flight with a share
pub record IsApart (key : Key) (v : View) : Type 0 where
  pub disjoint : (x : ℕ) → holders x (v.own ++ v.kept) ≤ 1
  pub no_boot_frame : (x : ℕ) → key.sealed ≡ true → is_boot_frame key x ≡ true
      → holders x (v.own ++ v.kept) ≡ 0
  pub inside : 0 < v.share → (x : ℕ) → key.frames ≤ x → holders x v.own ≡ 0

-- what no move changes
pub record Keeps {T H : Type 0} (old new : Mover T H) : Type 0 where
  pub same_tie : new.tie ≡ old.tie
  pub same_key : new.key ≡ old.key
  pub stays_alone : old.is_alone → new.is_alone
  pub stay_out : (b : H) → old.is_out b → new.is_out b

-- and what the move of taking this block in does not change
pub record KeepsOthers {T H : Type 0} (block_of : H → FrameBlock) (b : FrameBlock)
    (old new : Mover T H) : Type 0 where
  pub same_tie : new.tie ≡ old.tie
  pub same_key : new.key ≡ old.key
  pub stays_alone : old.is_alone → new.is_alone
  pub others_out : (c : H) → block_of c ≢ b → old.is_out c → new.is_out c

-- what the seat knows of losses is forgotten, and nothing else
pub record Clears {T H : Type 0} (old new : Mover T H) : Type 0 where
  pub keeps : Keeps old new
  pub missed : new.missed ≡ false
  pub view : new.view ≡ old.view
  pub reads : new.read ≡ old.read
  pub words : new.words ≡ old.words

-- A load.

-- it asks for a share
pub record MayLoad {T H : Type 0} (place : Place) (m : Mover T H) : Type 0 where
  pub inside : IsPlace m.key place
  pub share : 0 < m.view.share

-- this word was found
pub record Loads {T H : Type 0} (t : ℕ → ℕ) (place : Place) (found : ℕ) (old new : Mover T H)
    : Type 0 where
  pub keeps : Keeps old new
  pub missed : new.missed ≡ old.missed
  pub view : new.view ≡ after_load t old.view
  pub layout : HasLayout old.key place found
  pub here : new.read (place_of old.key place) ≡ Some found
  pub reads : ReadsBut (place_of old.key place) old.read new.read
  pub words : old.is_undisturbed → IfSome old.words (λ ws.
      (slice_index ws (place_of old.key place) ≡ found) × (new.words ≡ Some ws))
  pub apart : IsApart old.key new.view

-- An exchange.

-- it asks for a share, that its word was seen so, and what its kind asks of the view
pub record MayTry {T H : Type 0} (kind : Kind) (word : ℕ) (m : Mover T H) : Type 0 where
  pub share : 0 < m.view.share
  pub seen : m.read (place m.key kind) ≡ Some word
  pub may : May m.key kind m.view

-- a lost exchange was lost at will, or another word was found, which is known then
abbrev pub IsLostBy : {T H : Type 0} → ℕ → ℕ → Mover T H → Mover T H → Type 0
IsLostBy place seen old new =
    old.loses_at_will ⊎ ((found : ℕ) × ((found ≢ seen) × (new.read place ≡ Some found)))

-- it was made, or it was lost and no word has changed
pub record Tries {T H : Type 0} (t : ℕ → ℕ) (kind : Kind) (seen : ℕ) (made : Bool)
    (old new : Mover T H) : Type 0 where
  pub keeps : Keeps old new
  pub missed : new.missed ≡ (old.missed || not made)
  pub view : MatchBool made (new.view ≡ after t kind old.view) (new.view ≡ after_loss t old.view)
  pub lost : made ≡ false → IsLostBy (place old.key kind) seen old new
  pub at_will : old.loses_at_will → made ≡ false
  pub reads : ReadsBut (place old.key kind) old.read new.read
  pub words : old.is_undisturbed → Exchanges old.key kind seen made old.words new.words
  pub apart : IsApart old.key new.view

-- A change that is always made.

-- the words fit with the own view and those of all others, which are at rest where nobody else steps
abbrev pub FitsOthers : {T H : Type 0} → Mover T H → List ℕ → Type 0
FitsOthers m ws =
    (shares : ℕ) × ((others : List View) × (Fit m.key shares ws (m.view ∷ others)
    × (m.is_alone → All IsAtRest others)))

-- the words are known
abbrev pub KnowsWords : {T H : Type 0} → Mover T H → Type 0
KnowsWords m = (ws : List ℕ) × (m.words ≡ Some ws)

-- it asks for a share, and what its kind asks of the view
pub record MayMake {T H : Type 0} (kind : Kind) (m : Mover T H) : Type 0 where
  pub share : 0 < m.view.share
  pub may : May m.key kind m.view

-- it was made; where nobody stepped in between, the words that were recalled fit, and are known as the
-- step left them
pub record Makes {T H : Type 0} (t : ℕ → ℕ) (kind : Kind) (old new : Mover T H) : Type 0 where
  pub keeps : Keeps old new
  pub missed : new.missed ≡ old.missed
  pub view : new.view ≡ after t kind old.view
  pub reads : ReadsBut (place old.key kind) old.read new.read
  pub words : old.is_undisturbed → Changes old.key kind old.words new.words
  pub recalled : old.is_undisturbed → Changes old.key kind old.recalled new.words
  pub fits : old.is_undisturbed → (ws : List ℕ) → old.recalled ≡ Some ws → ∥ FitsOthers old ws ∥₁
  pub knows : KnowsWords new
  pub apart : IsApart old.key new.view

-- it was made where this word was found
pub record Finds {T H : Type 0} (t : ℕ → ℕ) (kind : Kind) (found : ℕ) (old new : Mover T H)
    : Type 0 where
  pub keeps : Keeps old new
  pub missed : new.missed ≡ old.missed
  pub view : new.view ≡ effect t kind found old.view
  pub reads : ReadsBut (place old.key kind) old.read new.read
  pub apart : IsApart old.key new.view

-- what stood in the local word is reserved and paid, and answered
pub record Swaps {T H : Type 0} (t : ℕ → ℕ) (core : ℕ) (put answer : Option (ℕ × ℕ))
    (old new : Mover T H) : Type 0 where
  pub keeps : Keeps old new
  pub missed : new.missed ≡ old.missed
  pub view : (found : ℕ) × (rest_in found ≡ answer)
      × (new.view ≡ effect t (swap_local core put) found old.view)
  pub is_rest : IsRest old.key answer
  pub reads : ReadsBut (place old.key (swap_local core put)) old.read new.read
  pub words : old.is_undisturbed → IfSome old.words (λ ws.
      (rest_in (slice_index ws (place old.key (swap_local core put))) ≡ answer)
      × Changes old.key (swap_local core put) (Some ws) new.words)
  pub apart : IsApart old.key new.view

-- Blocks, which leave and come with no word.

-- the frames of the block are in flight
abbrev pub MayHandOut : {T H : Type 0} → FrameBlock → Mover T H → Type 0
MayHandOut b m = MayCut m.key (hand_out_block b) m.view

-- the block in flight is handed out
pub record HandsOut {T H : Type 0} (t : ℕ → ℕ) (block_of : H → FrameBlock) (b : FrameBlock)
    (held : H) (old new : Mover T H) : Type 0 where
  pub keeps : Keeps old new
  pub missed : new.missed ≡ old.missed
  pub view : new.view ≡ left_by t (hand_out_block b) old.view
  pub is_block : block_of held ≡ b
  pub is_out : new.is_out held
  pub reads : new.read ≡ old.read
  pub words : old.is_undisturbed → new.words ≡ old.words
  pub recalled : old.is_undisturbed → new.recalled ≡ old.recalled

-- the block was handed out, and what is in flight lies in its child
pub record MayHandIn {T H : Type 0} (b : FrameBlock) (held : H) (m : Mover T H) : Type 0 where
  pub share : 0 < m.view.share
  pub out : m.is_out held
  pub one_child : LiesIn m.view (child_of b.frame)

-- the block is in flight; the words are recalled as they were
pub record HandsIn {T H : Type 0} (t : ℕ → ℕ) (block_of : H → FrameBlock) (held : H)
    (old new : Mover T H) : Type 0 where
  pub keeps : KeepsOthers block_of (block_of held) old new
  pub missed : new.missed ≡ old.missed
  pub view : new.view ≡ joined_by t hand_in old.view (holder (Some old.key) (block_of held))
  pub reads : new.read ≡ old.read
  pub recalled : old.is_undisturbed → new.recalled ≡ old.recalled

-- How counts of moves go up.

-- the counts below this one go up by exactly one
pub record Ticks (t : ℕ → ℕ) (exact : ℕ → Type 0) : Type 0 where
  pub most : (n : ℕ) → t n ≤ n + 1
  pub up : (n : ℕ) → exact n → t n ≡ n + 1
  pub below : (m n : ℕ) → m ≤ n → exact n → exact m
  pub early : (n : ℕ) → n < 2 ^ 63 + 2 ^ 32 → exact n
