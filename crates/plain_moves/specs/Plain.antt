-- The state of plain moves: the own view, those who do not step now, and words that fit with all.
use Rattle.std.specs.Prelude.{◌≡◌, ◌≢◌, ◌⊎◌, ℕ, pos, ◌+◌, ◌*◌, ◌/◌, ◌^◌, ◌<◌, ◌≤◌, List, [], ◌∷◌, length, Option, Some, None, Bool, false, min, slice_get, slice_index, nat_eq, if◌then◌else◌}
use Rattle.std.specs.List.{sum_by, All}
use Rattle.std.specs.VecDeque.{deque_capacity}
use lib.ListN.{get_elem?}
use mathlib.Core.Option.{some}
use Rattle.frame_words.specs.Runs.{child_words}
use Rattle.frame_words.specs.declared.geometry.Geometry.{Geometry}
use Rattle.frame_model.specs.declared.block.FrameBlock.{FrameBlock}
use Rattle.frame_model.specs.declared.key.Key.{Key}
use Rattle.frame_model.specs.declared.view.Amount.{Amount}
use Rattle.frame_model.specs.declared.view.View.{View}
use Rattle.frame_model.specs.Key.{key_of, child_of}
use Rattle.frame_model.specs.View.{idle, holder, ground_with}
use Rattle.frame_model.specs.Fit.{Fit}
use Rattle.frame_model.specs.Openings.{held_blocks}
use Rattle.frame_core.specs.Mover.{Mover}
use Rattle.plain_moves.specs.declared.plain.party.Party.{Party}
use Rattle.plain_moves.specs.declared.plain.party.Company.{Company}

-- the block lies below frame 2 ^ 21, as each block of any memory does
abbrev pub IsLow : FrameBlock → Type 0
IsLow b = (b.order ≤ 9) × (b.frame + 2 ^ b.order ≤ 2 ^ 21)

-- the key of a memory of these sizes with no ranges
abbrev pub plain_key : Geometry → Bool → Key
plain_key geometry sealed = record (key_of geometry) { sealed = sealed }

-- a count goes up by one, and stops at 2 ^ 64 - 1
abbrev pub plain_tick : ℕ → ℕ
plain_tick n = min (n + 1) 18446744073709551615

-- 1 where a block that is out begins there
unfoldable pub is_out_byte : ℕ → ℕ
is_out_byte byte = if nat_eq byte 0 then 0 else 1

-- how many blocks are out
unfoldable pub out_count : List ℕ → ℕ
out_count bytes = sum_by is_out_byte bytes

-- the block is out: the byte of its first frame is one more than its order
abbrev pub IsOutIn : List ℕ → FrameBlock → Type 0
IsOutIn bytes b = (b.frame < length bytes) × (slice_index bytes b.frame ≡ b.order + 1)

-- the block begins in the child
abbrev pub BeginsIn : ℕ → FrameBlock → Type 0
BeginsIn child b = child_of b.frame ≡ child

-- some block begins elsewhere
abbrev pub SomeBeginsElse : ℕ → List FrameBlock → Type 0
SomeBeginsElse child bs =
    (b : FrameBlock) × (((k : ℕ) × (slice_get bs k ≡ Some b)) × (child_of b.frame ≢ child))

-- the bit word is none of the child
abbrev pub IsOutside : ℕ → ℕ → Type 0
IsOutside child word = word / child_words ≢ child

-- the view has no share
abbrev pub HasNoShare : View → Type 0
HasNoShare u = u.share ≡ 0

-- the party has room for a word of each child that it may fill
abbrev pub HasRoomToFill : ℕ → Party → Type 0
HasRoomToFill children p = child_words * children < deque_capacity p.filled

-- the party has nothing in flight
pub record IsIdleParty (p : Party) : Type 0 where
  pub paid : p.paid ≡ None
  pub charged : p.charged ≡ None
  pub reserving : p.reserving ≡ None
  pub own : p.own.items ≡ []

-- the party is new: one share, nothing in flight and nothing filled
pub record IsFresh (p : Party) : Type 0 where
  pub share : p.share ≡ 1
  pub idle : IsIdleParty p
  pub filled : p.filled.items ≡ []

-- the own view
abbrev pub plain_view : Key → ℕ → List ℕ → Option Amount → Option Amount → Option ℕ
    → List FrameBlock → List ℕ → ℕ → ℕ → View
plain_view key share bytes paid charged reserving own filled moves lost = record (idle key share) {
  lent = pos (out_count bytes);
  paid = paid;
  charged = charged;
  reserving = reserving;
  own = own;
  filled = filled;
  moves = moves;
  lost = lost;
}

-- a count stops at 2 ^ 64 - 1
abbrev pub is_plain_exact : ℕ → Type 0
is_plain_exact n = n < 18446744073709551615

-- what a mover over such words has, beside those who do not step now
abbrev pub plain_mover : Key → Company → List ℕ → List ℕ → View → Mover Company FrameBlock
plain_mover key them words bytes v = record {
  tie = them;
  key = key;
  view = v;
  read = λ i. slice_get words i;
  words = Some words;
  recalled = Some words;
  missed = false;
  is_undisturbed = Unit {0};
  is_alone = All IsIdleParty them.parties.items;
  loses_at_will = ⊥;
  is_out = λ b. IsOutIn bytes b;
}

-- no step was made: the own view is idle and has all shares, the words are known and these, and
-- nobody else steps
pub record Begins {T H : Type 0} (memory : Key) (ws : List ℕ) (m : Mover T H) : Type 0 where
  pub key : m.key ≡ memory
  pub view : m.view ≡ idle memory memory.cores
  pub words : m.words ≡ Some ws
  pub alone : m.is_alone

-- the view is what the party has in flight; what it lent, made and lost may be anything
pub record IsOf (key : Key) (p : Party) (u : View) : Type 0 where
  pub named : u.about ≡ Some key
  pub share : u.share ≡ p.share
  pub not_ground : u.is_ground ≡ false
  pub paid : u.paid ≡ p.paid
  pub charged : u.charged ≡ p.charged
  pub reserving : u.reserving ≡ p.reserving
  pub own : u.own ≡ p.own.items
  pub kept : u.kept ≡ []
  pub filled : u.filled ≡ p.filled.items

-- the first views are those of the parties, in order, and no other has a share
unfoldable pub AreOf : Key → List Party → List View → Type 0
AreOf key [] us = All HasNoShare us
AreOf key (p ∷ ps) [] = ⊥
AreOf key (p ∷ ps) (u ∷ us) = IsOf key p u × AreOf key ps us

-- each block that is out by these bytes has its holder among the views
abbrev pub HaveHolders : Key → List ℕ → List View → Type 0
HaveHolders key bytes us = (b : FrameBlock) → IsOutIn bytes b
    → (i : ℕ) × (get_elem? us i ≡ some (holder (Some key) b))

-- no block begins at one frame by both of these bytes
abbrev pub AreNotBoth : List ℕ → List ℕ → Type 0
AreNotBoth bytes others = (x : ℕ) → (slice_index bytes x ≡ 0) ⊎ (slice_index others x ≡ 0)

-- the words fit with the own view and others: those of the company, and the holders of blocks
pub record Agrees (key : Key) (them : Company) (words bytes : List ℕ) (v : View) : Type 0 where
  pub others : List View
  pub shares : ℕ
  pub fit : Fit key shares words (v ∷ others)
  pub outs : HaveHolders key bytes others
  pub their_outs : HaveHolders key them.outs.items others
  pub not_both : AreNotBoth bytes them.outs.items
  pub parties : AreOf key them.parties.items others

-- the words fit with an own view that has all shares and nothing in flight, and with others
abbrev pub FitsIdle : Key → List ℕ → Type 0
FitsIdle key words = (others : List View) × Fit key key.cores words (idle key key.cores ∷ others)

-- the words fit with such an own view and the ground, which has all that the words hold
abbrev pub FitsReopened : Key → List ℕ → Type 0
FitsReopened key words =
    Fit key key.cores words
    (idle key key.cores ∷ ground_with key (held_blocks key words) ∷ [])
