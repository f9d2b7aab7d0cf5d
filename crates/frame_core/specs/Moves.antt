-- What a mover is told and tells: which word a place is, and what a step leaves of the words.
use Rattle.std.specs.Prelude.{◌≡◌, ◌≢◌, ℕ, ◌+◌, ◌*◌, ◌^◌, ◌<◌, ◌≤◌, List, Option, Some, IfSome, Bool, MatchBool, slice_index}
use Rattle.frame_words.specs.Geometry.{child_frames, word_frames, tree_frames}
use Rattle.frame_words.specs.Runs.{child_words}
use Rattle.frame_words.specs.declared.geometry.Geometry.{Geometry}
use Rattle.frame_words.specs.Words.{free_in, flag_in, lane_in, rest_in}
use Rattle.frame_model.specs.declared.block.FrameBlock.{FrameBlock}
use Rattle.frame_model.specs.declared.key.Key.{Key}
use Rattle.frame_model.specs.declared.place.Place.{Place}
use Rattle.frame_model.specs.declared.place.Place.TheVariants.{Entry, Bits, Tree, Local}
use Rattle.frame_model.specs.declared.view.View.{View}
use Rattle.frame_model.specs.Key.{tree_count}
use Rattle.frame_model.specs.Block.{block}
use Rattle.frame_model.specs.Words.{run, entry_place, tree_place, local_place, bits_place, IsRest}
use Rattle.frame_model.specs.View.{IsIdle}
use Rattle.frame_model.specs.Steps.{Kind, release, give_huge, drop_flag, place, effect, words_after}
use Rattle.frame_model.specs.Seats.{Cut, hand_out}
use Rattle.frame_model.specs.Without.{without}

-- the sizes that the key names
abbrev pub HasSizes : Key → Geometry → Type 0
HasSizes key geometry =
    (geometry.children ≡ key.children) × (geometry.cores ≡ key.cores) × (geometry.frames ≡ key.frames)

-- the number of the word
abbrev pub place_of : Key → Place → ℕ
place_of key (Entry child) = entry_place child
place_of key (Bits word) = bits_place key word
place_of key (Tree tree) = tree_place key tree
place_of key (Local core) = local_place key core

-- the memory has this word
abbrev pub IsPlace : Key → Place → Type 0
IsPlace key (Entry child) = child < key.children
IsPlace key (Bits word) = word < child_words * key.children
IsPlace key (Tree tree) = tree < tree_count key
IsPlace key (Local core) = core < key.cores

-- the word found there counts no more than its place can have
abbrev pub HasLayout : Key → Place → ℕ → Type 0
HasLayout key (Entry child) n =
    (free_in (lane_in n child) ≤ child_frames) × (flag_in (lane_in n child) ≤ 1)
HasLayout key (Bits word) n = n < 2 ^ 64
HasLayout key (Tree tree) n = (free_in n ≤ tree_frames) × (flag_in n ≤ 1)
HasLayout key (Local core) n = IsRest key (rest_in n)

-- of every word but one, what was read is as before
abbrev pub ReadsBut : ℕ → (ℕ → Option ℕ) → (ℕ → Option ℕ) → Type 0
ReadsBut place old new = (i : ℕ) → i ≢ place → new i ≡ old i

-- Steps after which a fixed list of blocks stays.

-- a run of frames in flight is given up
abbrev pub release_run : ℕ → ℕ → ℕ → Kind
release_run word from order =
    release word from order (without (block (word_frames * word + from) order))

-- a huge frame in flight is given up
abbrev pub give_whole : ℕ → Kind
give_whole child = give_huge child (without (block (child_frames * child) 9))

-- a huge frame in flight loses its flag
abbrev pub drop_whole : ℕ → Kind
drop_whole child = drop_flag child (without (block (child_frames * child) 9))

-- a block in flight is handed out
abbrev pub hand_out_block : FrameBlock → Cut
hand_out_block b = hand_out b (without b)

-- the view after a step that does the same to it whatever word it finds
abbrev pub after : (ℕ → ℕ) → Kind → View → View
after t kind v = effect t kind 0 v

-- this holds of some run with these bits
abbrev pub OfSomeRun : ℕ → (ℕ → ℕ → Type 0) → Type 0
OfSomeRun mask P = (from : ℕ) × ((order : ℕ) × ((mask ≡ run from (2 ^ order)) × P from order))

-- this holds of the run with these bits
abbrev pub OfRun : ℕ → (ℕ → ℕ → Type 0) → Type 0
OfRun mask P = (from order : ℕ) → mask ≡ run from (2 ^ order) → P from order

-- where nobody steps in between, the words after a step are these
abbrev pub Changes : Key → Kind → Option (List ℕ) → Option (List ℕ) → Type 0
Changes key kind old new = IfSome old (λ words. new ≡ Some (words_after key kind words))

-- where nobody steps in between, an exchange is made exactly where the word is the one that was seen:
-- the words are then these, else as before
abbrev pub Exchanges : Key → Kind → ℕ → Bool → Option (List ℕ) → Option (List ℕ) → Type 0
Exchanges key kind seen made old new =
    IfSome old
    (λ words. MatchBool made
    ((slice_index words (place key kind) ≡ seen) × (new ≡ Some (words_after key kind words)))
    ((slice_index words (place key kind) ≢ seen) × (new ≡ Some words)))

-- a view that has a share has nothing in flight
abbrev pub IsAtRest : View → Type 0
IsAtRest v = 0 < v.share → IsIdle v
