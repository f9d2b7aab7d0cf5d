-- A stop of a memory that ends inside its child and holds a range back, in numbers.
use Rattle.std.specs.Prelude.{◌≡◌, ℕ, ◌<◌, ◌≤◌, List, [], ◌∷◌, true, ◌&&◌, nat_lt, count_by}
use Rattle.std.specs.List.{range_with_len}
use Rattle.frame_model.specs.declared.block.FrameBlock.{FrameBlock}
use Rattle.frame_model.specs.declared.key.Key.{Key}
use Rattle.frame_model.specs.Key.{frame_count, is_boot_frame, IsKey}
use Rattle.frame_model.specs.Block.{block}
use Rattle.frame_model.specs.Words.{run}
use Rattle.frame_model.specs.Holding.{holders}
use Rattle.frame_model.specs.Events.{views_of}
use Rattle.frame_model.specs.Openings.{IsSealedOpening}
use Rattle.frame_model.specs.Laws.{holding_of}
use Rattle.frame_model.specs.Stops.{Moment, Passes, opening_moment, stopped, known_at, flying_at, lost_frames, Survives}
use Rattle.frame_model.specs.WorkedRuns.{words_of_one, full_word}

-- a memory of one child that ends after 300 frames, and holds frames 8 to 11 back
abbrev pub cut_end : Key
cut_end = record { children = 1; cores = 1; frames = 300; ranges = (8, 4) ∷ []; sealed = true }

-- its words as it opens: 296 frames are free, frames 8 to 11 are set, and those from 300 on
abbrev pub cut_words : List ℕ
cut_words = words_of_one 296 296 0 (run 8 4) 0 0 0 (run 44 20) full_word full_word full_word

-- as it opens
abbrev pub cut_opens : Moment
cut_opens = opening_moment cut_end cut_words 1

-- after a stop, at its own words
abbrev pub cut_stops : Moment
cut_stops = stopped cut_opens cut_words

-- how many frames that the key names are held
abbrev pub held_named : Moment → ℕ
held_named m = count_by
    (λ x. is_boot_frame m.key x && nat_lt 0 (holders x (holding_of m.key (views_of m.state))))
    (range_with_len 0 (frame_count m.key))

-- so many named frames are held, just these blocks are known, so many frames are lost
pub record HoldsSoMany (m : Moment) (named : ℕ) (known : List FrameBlock) (lost : ℕ) : Type 0 where
  pub named_now : held_named m ≡ named
  pub known_now : known_at m ≡ known
  pub lost_now : lost_frames m ≡ lost

-- the frames from one on to another are held, and nobody knows them or has them in flight
abbrev pub AreHeldBack : Moment → (from to : ℕ) → Type 0
AreHeldBack m from to = (x : ℕ) → from ≤ x → x < to
    → (0 < holders x (holding_of m.key (views_of m.state)))
    × (holders x (known_at m) ≡ 0) × (holders x (flying_at m) ≡ 0)

-- All threads stop before anything happened. Before the stop the key names 216 frames; after it 212,
-- and the four of the range are known.
pub record StopWithACutEnd : Type 0 where
  pub is_key : IsKey cut_end
  pub opening : IsSealedOpening cut_end cut_words
  pub holds_first : HoldsSoMany cut_opens 216 [] 0
  pub range_first : AreHeldBack cut_opens 8 12
  pub end_first : AreHeldBack cut_opens 300 512
  pub passes : Passes cut_opens cut_stops
  pub holds : HoldsSoMany cut_stops 212 (block 8 0 ∷ block 9 0 ∷ block 10 0 ∷ block 11 0 ∷ []) 0
  pub end : AreHeldBack cut_stops 300 512
  pub survives : Survives 1 cut_stops
