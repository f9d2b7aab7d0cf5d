-- How steps change amounts, reservations and lists of blocks.
use Rattle.std.specs.Prelude.{◌≡◌, ℕ, ◌+◌, ◌-◌, ◌*◌, ◌%◌, ◌^◌, ◌<◌, ◌≤◌, List, ◌∷◌, Option, Some, None, nat_eq, if◌then◌else◌}
use Rattle.std.specs.List.{All, list_any}
use Rattle.frame_words.specs.Runs.{child_words}
use Rattle.frame_model.specs.declared.block.FrameBlock.{FrameBlock}
use Rattle.frame_model.specs.declared.key.Key.{Key}
use Rattle.frame_model.specs.declared.view.Amount.{Amount}
use Rattle.frame_model.specs.Block.{IsBlock, small_at, whole_at, smalls, wholes}
use Rattle.frame_model.specs.View.{counted}

-- n frames more in the place
unfoldable pub more : ℕ → ℕ → Option Amount → Option Amount
more place n None = counted place n
more place n (Some amount) =
    if nat_eq amount.place place then counted place (amount.count + n) else Some amount

-- n frames less in the place
unfoldable pub less : ℕ → ℕ → Option Amount → Option Amount
less place n None = None
less place n (Some amount) =
    if nat_eq amount.place place then counted place (amount.count - n) else Some amount

-- the frames of a reservation, as an amount of its tree
unfoldable pub rest_amount : Option (ℕ × ℕ) → Option Amount
rest_amount None = None
rest_amount (Some rest) = counted rest.0 rest.1

-- the tree of a reservation
abbrev pub rest_tree : Option (ℕ × ℕ) → Option ℕ
rest_tree None = None
rest_tree (Some rest) = Some rest.0

-- the reservation with n frames less
abbrev pub rest_less : ℕ → Option (ℕ × ℕ) → Option (ℕ × ℕ)
rest_less n None = None
rest_less n (Some rest) = Some (rest.0, rest.1 - n)

-- the reservation with n frames more
abbrev pub rest_more : ℕ → Option (ℕ × ℕ) → Option (ℕ × ℕ)
rest_more n None = None
rest_more n (Some rest) = Some (rest.0, rest.1 + n)

-- n frames more of the tree of a reservation
abbrev pub more_of : Option (ℕ × ℕ) → ℕ → Option Amount → Option Amount
more_of None n amount = amount
more_of (Some rest) n amount = more rest.0 n amount

-- n frames less of the tree of a reservation
abbrev pub less_of : Option (ℕ × ℕ) → ℕ → Option Amount → Option Amount
less_of None n amount = amount
less_of (Some rest) n amount = less rest.0 n amount

-- a block leaves a list: the rest has exactly the remaining frames, and the remaining children
pub record Leaves (key : Key) (blocks : List FrameBlock) (b : FrameBlock)
    (rest : List FrameBlock) : Type 0 where
  pub smalls : (frame : ℕ) → smalls frame rest + small_at frame b ≡ smalls frame blocks
  pub wholes : (child : ℕ) → wholes child rest + whole_at child b ≡ wholes child blocks
  pub are_blocks : All (IsBlock key) rest

-- 2 ^ order bits of a bit word, from a multiple of their number on
pub record IsRun (key : Key) (word from order : ℕ) : Type 0 where
  pub inside : word < child_words * key.children
  pub small : order ≤ 6
  pub aligned : from % 2 ^ order ≡ 0
  pub fits : from + 2 ^ order ≤ 64

-- the list with the number among its own, each of which it keeps once
abbrev pub put_in : ℕ → List ℕ → List ℕ
put_in n ns = if list_any (λ m. nat_eq m n) ns then ns else n ∷ ns
