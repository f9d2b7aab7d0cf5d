-- What plain moves have: the key, the words and the own view.
use Rattle.std.specs.Prelude.{◌≡◌, ◌≢◌, ℕ, List, [], Some, length, vec_len, slice_get}
use Rattle.std.specs.List.{All}
use Rattle.frame_model.specs.declared.block.FrameBlock.{FrameBlock}
use Rattle.frame_model.specs.declared.key.Key.{Key}
use Rattle.frame_model.specs.declared.view.View.{View}
use Rattle.frame_core.specs.Image.{Contents}
use Rattle.frame_core.specs.Mover.{Mover}
use Rattle.frame_model.specs.Steps.{after_loss}
use Rattle.plain_moves.specs.declared.plain.PlainMoves.{PlainMoves}
use Rattle.plain_moves.specs.declared.plain.party.Company.{Company}
use Rattle.plain_moves.specs.declared.plain.party.Party.{Party}
use Rattle.plain_moves.specs.Plain.{plain_key, plain_mover, plain_tick, plain_view, IsFresh, IsOutIn}

-- the key of the memory
abbrev pub key_by : PlainMoves → Key
key_by m = plain_key m.geometry m.sealed

-- all words
abbrev pub words_by : PlainMoves → List ℕ
words_by m = m.words.items

-- the words as an image
abbrev pub image_by : PlainMoves → Contents
image_by m = record { geometry = m.geometry; words = m.words.items }

-- the own view
abbrev pub view_by : PlainMoves → View
view_by m =
    plain_view (key_by m) m.share m.outs.items m.paid m.charged m.reserving m.own.items
    m.filled.items m.moves m.lost

-- what the moves of the own view have
abbrev pub mover_by : PlainMoves → Mover Company FrameBlock
mover_by m = plain_mover (key_by m) m.them (words_by m) m.outs.items (view_by m)

-- how many moves the own view has made
abbrev pub moves_made : PlainMoves → ℕ
moves_made m = m.moves

-- those who wait beside the own view
abbrev pub parties_by : PlainMoves → List Party
parties_by m = m.them.parties.items

-- for each frame what of theirs is out there: one more than the order of the block that begins there, or 0
abbrev pub their_outs_by : PlainMoves → List ℕ
their_outs_by m = m.them.outs.items

-- nobody waits beside the own view
abbrev pub IsByItself : PlainMoves → Type 0
IsByItself m = m.them.parties.items ≡ []

-- a company came beside the own view, and nothing else has changed
pub record Admits (company : Company) (old new : PlainMoves) : Type 0 where
  pub key : (new.geometry ≡ old.geometry) × (new.sealed ≡ old.sealed)
  pub words : new.words ≡ old.words
  pub outs : new.outs ≡ old.outs
  pub view : view_by new ≡ view_by old
  pub them : new.them ≡ company

-- eight strangers came beside the own view, each with one share and nothing in flight, who have handed
-- out no block; nothing else has changed
pub record AdmitsStrangers (old new : PlainMoves) : Type 0 where
  pub key : key_by new ≡ key_by old
  pub words : new.words ≡ old.words
  pub outs : new.outs ≡ old.outs
  pub view : view_by new ≡ view_by old
  pub eight : length (parties_by new) ≡ 8
  pub fresh : All IsFresh (parties_by new)
  pub none_out : (b : FrameBlock) → IsOutIn (their_outs_by new) b → ⊥

-- the party has what the one who steps has in flight
pub record IsParked (p : Party) (m : PlainMoves) : Type 0 where
  pub share : p.share ≡ m.share
  pub own : p.own ≡ m.own
  pub paid : p.paid ≡ m.paid
  pub charged : p.charged ≡ m.charged
  pub reserving : p.reserving ≡ m.reserving
  pub filled : p.filled ≡ m.filled
  pub moves : p.moves ≡ m.moves
  pub lost : p.lost ≡ m.lost

-- what the party of this number has in flight and what the own view has change places, and so do the
-- blocks that they handed out; nothing else has changed
pub record IsTurned (who : ℕ) (old new : PlainMoves) : Type 0 where
  pub key : (new.geometry ≡ old.geometry) × (new.sealed ≡ old.sealed)
  pub words : new.words ≡ old.words
  pub outs : (new.outs ≡ old.them.outs) × (new.them.outs ≡ old.outs)
  pub came : (p : Party) × ((slice_get old.them.parties.items who ≡ Some p) × IsParked p new)
  pub went : (p : Party) × ((slice_get new.them.parties.items who ≡ Some p) × IsParked p old)
  pub others : (k : ℕ) → k ≢ who
      → slice_get new.them.parties.items k ≡ slice_get old.them.parties.items k

-- both parties have the same in flight
pub record IsAlike (p q : Party) : Type 0 where
  pub share : p.share ≡ q.share
  pub own : p.own ≡ q.own
  pub paid : p.paid ≡ q.paid
  pub charged : p.charged ≡ q.charged
  pub reserving : p.reserving ≡ q.reserving
  pub filled : p.filled ≡ q.filled
  pub moves : p.moves ≡ q.moves
  pub lost : p.lost ≡ q.lost

-- nothing has changed: not the words, not the own view, and not what anybody else has
pub record IsUnmoved (old new : PlainMoves) : Type 0 where
  pub key : key_by new ≡ key_by old
  pub words : new.words ≡ old.words
  pub outs : new.outs ≡ old.outs
  pub view : view_by new ≡ view_by old
  pub their_outs : new.them.outs ≡ old.them.outs
  pub parties : (k : ℕ) (p : Party) → slice_get old.them.parties.items k ≡ Some p
      → (q : Party) × ((slice_get new.them.parties.items k ≡ Some q) × IsAlike p q)

-- the own view and its blocks that are out are as before; words and company may have changed
pub record IsStill (old new : PlainMoves) : Type 0 where
  pub key : key_by new ≡ key_by old
  pub view : view_by new ≡ view_by old
  pub outs : new.outs ≡ old.outs
  pub parties : vec_len new.them.parties ≡ vec_len old.them.parties

-- a step of the own view may have been made: the memory is the same, and who waits is as before
pub record IsOwnStep (old new : PlainMoves) : Type 0 where
  pub key : key_by new ≡ key_by old
  pub them : new.them ≡ old.them

-- an exchange was lost, and of the own view only the counts have changed
pub record Loses (old new : PlainMoves) : Type 0 where
  pub own : IsOwnStep old new
  pub words : new.words ≡ old.words
  pub outs : new.outs ≡ old.outs
  pub view : view_by new ≡ after_loss plain_tick (view_by old)
