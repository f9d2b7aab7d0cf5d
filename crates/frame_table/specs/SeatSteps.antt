-- What a step on a word asks of the seat of a core, and what it makes of it.
use Rattle.std.specs.Prelude.{◌≡◌, ◌≢◌, ℕ, [], Bool, false, Some, MatchBool, if◌then◌else◌}
use Rattle.atomic_table.specs.declared.shared.Seat.{Seat}
use Rattle.frame_table.specs.declared.rule.Watch.{Watch}
use Rattle.frame_model.specs.declared.view.View.{View}
use Rattle.frame_model.specs.Seats.{Cut, Join, left_by, joined_by}
use Rattle.frame_model.specs.Steps.{Kind, place, turned, May, effect, after_load, after_loss, next}
use Rattle.frame_core.specs.Moves.{ReadsBut}
use Rattle.frame_core.specs.Mover.{IsApart}
use Rattle.frame_table.specs.Rule.{IsFoundIn, Learns, known_in, left_known, left_eye, right_eye, both_known}
use Rattle.frame_table.specs.Seats.{key_at, id_of, view_of, reads_of, watch_of, words_known_by, words_recalled_by, Sits}
use Rattle.frame_table.specs.declared.seats.CoreSeat.{CoreSeat}
use Rattle.frame_table.specs.declared.table.FrameTable.{FrameTable}

-- the seat sits at the table, and may make the step, which is one on this word
pub record MayStepOn (t : FrameTable) (kind : Kind) (i : ℕ) (s : CoreSeat) : Type 0 where
  pub sits : Sits t s
  pub may : May (key_at t) kind (view_of s)
  pub word : i ≡ place (key_at t) kind

-- the seat sits there still with the shares it had, what it has is apart, it knows the other words as
-- before, and learnt them all by a step that found this word and left that one
pub record StaysBut (t : FrameTable) (kind : Kind) (found left : ℕ) (old new : CoreSeat)
    : Type 0 where
  pub sits : Sits t new
  pub share : (view_of new).share ≡ (view_of old).share
  pub apart : IsApart (key_at t) (view_of new)
  pub reads : ReadsBut (place (key_at t) kind) (reads_of old) (reads_of new)
  pub learns : Learns (key_at t) (place (key_at t) kind) found left (watch_of old) (watch_of new)

-- the word was loaded and is known, one that may stand there; of the other words the seat knows what it
-- did, and what it has is apart
pub record LoadsOn (t : FrameTable) (i found : ℕ) (old new : CoreSeat) : Type 0 where
  pub sits : Sits t new
  pub view : view_of new ≡ after_load next (view_of old)
  pub lawful : IsFoundIn (key_at t) i found
  pub here : reads_of new i ≡ Some found
  pub reads : ReadsBut i (reads_of old) (reads_of new)
  pub apart : IsApart (key_at t) (view_of new)
  pub learns : Learns (key_at t) i found found (watch_of old) (watch_of new)

-- the exchange was made, or it was lost to another word, which is known then
pub record ExchangesOn (t : FrameTable) (kind : Kind) (seen : ℕ) (made : Bool)
    (old new : CoreSeat) : Type 0 where
  pub found : ℕ
  pub is_made : MatchBool made (found ≡ seen) (found ≢ seen)
  pub stays : StaysBut t kind found (if made then turned kind seen else found) old new
  pub view : MatchBool made
      (view_of new ≡ effect next kind seen (view_of old))
      (view_of new ≡ after_loss next (view_of old))
  pub lost : made ≡ false → (found : ℕ) × ((found ≢ seen)
      × (reads_of new (place (key_at t) kind) ≡ Some found))

-- the step was made where this word was found, one that may stand there
pub record ChangesOn (t : FrameTable) (kind : Kind) (found : ℕ) (old new : CoreSeat)
    : Type 0 where
  pub stays : StaysBut t kind found (turned kind found) old new
  pub view : view_of new ≡ effect next kind found (view_of old)
  pub lawful : IsFoundIn (key_at t) (place (key_at t) kind) found

-- a seat of the same table was cut off that of the core, which sits there still and knows what it knew
pub record CutsOff (t : FrameTable) (cut : Cut) (part : Seat (Unit {0}) Watch) (old new : CoreSeat)
    : Type 0 where
  pub sits : Sits t new
  pub view : view_of new ≡ left_by next cut (view_of old)
  pub reads : reads_of new ≡ reads_of old
  pub known : words_known_by new ≡ known_in (left_eye cut (watch_of old))
  pub recalled : words_recalled_by new ≡ left_known cut (watch_of old)
  pub table : part.table_id ≡ id_of t
  pub is_part : part.me ≡ (right_eye cut old.seat.me.0, [])

-- a seat with this view was taken in by that of the core, which sits there still, and has read and
-- recalls what it had
pub record JoinsTo (t : FrameTable) (join : Join) (other : View) (old new : CoreSeat) : Type 0 where
  pub sits : Sits t new
  pub view : view_of new ≡ joined_by next join (view_of old) other
  pub reads : reads_of new ≡ reads_of old
  pub recalled : words_recalled_by new ≡ both_known join (watch_of old)
