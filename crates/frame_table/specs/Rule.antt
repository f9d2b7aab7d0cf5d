-- The rule of the shared table, and what each atomic operation tells of the seat that steps.
use Rattle.std.specs.Prelude.{◌≡◌, ℕ, ◌==◌, List, [], ◌∷◌, Option, Some, None, true, false, MatchBool, map, slice_index, slice_set, if◌then◌else◌}
use mathlib.Core.Option.{some}
use lib.ListN.{get_elem?}
use Rattle.atomic_table.specs.Table.{State, Me, Step}
use Rattle.frame_model.specs.declared.key.Key.{Key}
use Rattle.frame_model.specs.declared.place.Place.{Place}
use Rattle.frame_table.specs.declared.rule.Watch.{Watch}
use Rattle.frame_model.specs.declared.view.Sighting.{Sighting}
use Rattle.frame_model.specs.declared.view.View.{View}
use Rattle.frame_model.specs.View.{spent, idle, IsViewOf}
use Rattle.frame_model.specs.Fit.{Fit}
use Rattle.frame_model.specs.Steps.{Kind, place, turned, effect, after_load, after_loss, next}
use Rattle.frame_model.specs.Seats.{Cut, part_share, Join, join_idle, left_by, right_by, joined_by}
use Rattle.frame_model.specs.Events.{eye, sighting}
use Rattle.frame_model.specs.declared.view.Eye.{Eye}
use Rattle.frame_core.specs.Moves.{place_of, IsPlace, HasLayout}
use Rattle.frame_core.specs.Mover.{IsApart}
use Rattle.frame_model.specs.Openings.{reopener}
use Rattle.frame_table.specs.declared.rule.Origin.{Origin}

-- the key of the memory that was opened
abbrev pub key_from : Origin → Key
key_from o = record {
  children = o.image.value.geometry.children;
  cores = o.image.value.geometry.cores;
  frames = o.image.value.geometry.frames;
  ranges = o.ranges.value.items;
  sealed = o.sealed;
}

-- a view, what its seat has read, and all words, where the seat knows them; it took in no seat since
abbrev pub watch : View → List Sighting → Option (List ℕ) → Watch
watch view read known = record { view = view; read = read; known = known; settled = true }

-- all words, where the seat knows them and took in no seat since, so that they fit with its view
abbrev pub known_in : Watch → Option (List ℕ)
known_in e = if e.settled then e.known else None

-- what a seat has in flight, apart from what it has read and knows
abbrev pub eye_view : Watch → View
eye_view e = e.view

-- a view, and what its seat has read
abbrev pub eye_in : Watch → Eye
eye_in e = eye e.view e.read

-- where the seat has all shares and knows words, it knows these
abbrev pub IsRightFor : Key → List ℕ → Watch → Type 0
IsRightFor key words e = (known : List ℕ) → e.known ≡ Some known → e.view.share ≡ key.cores → known ≡ words

-- the words and the views fit, with a share for each core; and who has all shares and knows words
-- knows the right ones
pub record Holds (o : Origin) (s : State (Unit {0}) Watch) : Type 0 where
  pub fits : Fit (key_from o) (key_from o).cores s.words (map eye_view s.views)
  pub right : (id : ℕ) (e : Watch) → get_elem? s.views id ≡ some e → IsRightFor (key_from o) s.words e

-- the one view at the opening: it is idle, or keeps what the words hold until the ground parts off
abbrev pub first_view : Origin → View
first_view o =
    if o.sealed then idle (key_from o) (key_from o).cores
    else reopener (key_from o) o.image.value.words (key_from o).cores

-- the watch of the one seat at the opening, which has read nothing, and knows the words
abbrev pub first_eye : Origin → Watch
first_eye o = watch (first_view o) [] (Some o.image.value.words)

-- a word found there counts no more than each place in it can have
abbrev pub IsFoundIn : Key → ℕ → ℕ → Type 0
IsFoundIn key word found = (place : Place) → IsPlace key place → place_of key place ≡ word → HasLayout key place found

-- a word that was found is one of the memory that the view names
abbrev pub IsFoundFor : View → ℕ → ℕ → Type 0
IsFoundFor v word found = (key : Key) → v.about ≡ Some key → IsFoundIn key word found

-- a seat with this view may find the word there: one of words and views that fit
abbrev pub MayFind : Key → Kind → View → ℕ → Type 0
MayFind key kind v found =
    (words : List ℕ) × ((views : List View) × ((id : ℕ) × (Fit key key.cores words views
    × ((get_elem? views id ≡ some v) × (slice_index words (place key kind) ≡ found)))))

-- the second is a view of the memory that the first names, and what it has there is apart
abbrev pub IsOfOneMemory : View → View → Type 0
IsOfOneMemory v u = (key : Key) → v.about ≡ Some key → IsViewOf key u × IsApart key u

-- the words fit with views of which this is one
abbrev pub FitsAmong : Key → List ℕ → View → Type 0
FitsAmong key words v =
    (views : List View) × ((id : ℕ) × (Fit key key.cores words views × (get_elem? views id ≡ some v)))

-- by a step that found this in a word and left that there, the seat has learnt all words, which fit
-- with its view, as those did that the step found; if it had all shares and knew words, it knew these
pub record Learns (key : Key) (i found left : ℕ) (old new : Watch) : Type 0 where
  pub words : List ℕ
  pub known : known_in new ≡ Some (slice_set words i left)
  pub here : slice_index words i ≡ found
  pub right : IsRightFor key words old
  pub fitted : FitsAmong key words old.view
  pub fits : FitsAmong key (slice_set words i left) new.view

-- the same for the memory that the view names
abbrev pub LearnsFor : Me (Unit {0}) Watch → ℕ → ℕ → ℕ → Me (Unit {0}) Watch → Type 0
LearnsFor v i found left w =
    (key : Key) → v.0.view.about ≡ Some key → Learns key i found left v.0 w.0

-- the seat afterwards has this view, which is one of its memory, and has read one word more
abbrev pub Becomes : Me (Unit {0}) Watch → Sighting → View → Me (Unit {0}) Watch → Type 0
Becomes v read view w =
    (w.0 ≡ watch view (read ∷ v.0.read) w.0.known) × (w.1 ≡ v.1) × IsOfOneMemory v.0.view view

-- a load: the seat has read what it found, and its view is that after a load
abbrev pub Looks : Step (Unit {0}) → Me (Unit {0}) Watch → ℕ → Me (Unit {0}) Watch → Type 0
Looks s v found w =
    IsFoundFor v.0.view s.word found
    × Becomes v (sighting s.word (Some found)) (after_load next v.0.view) w
    × LearnsFor v s.word found found w

-- an exchange is made where the word is as it was seen, else lost
abbrev pub IsExchangedAs : Kind → Step (Unit {0}) → Me (Unit {0}) Watch → ℕ → Me (Unit {0}) Watch → Type 0
IsExchangedAs kind s v found w =
    IsFoundFor v.0.view s.word found
    × MatchBool (found == s.first)
    (Becomes v (sighting s.word None) (effect next kind s.first v.0.view) w
    × LearnsFor v s.word found s.second w)
    (Becomes v (sighting s.word (Some found)) (after_loss next v.0.view) w
    × LearnsFor v s.word found found w)

-- a change that is always made: the view takes its effect, and the seat no longer knows the word
abbrev pub IsChangedAs : Kind → Step (Unit {0}) → Me (Unit {0}) Watch → ℕ → Me (Unit {0}) Watch → Type 0
IsChangedAs kind s v found w =
    IsFoundFor v.0.view s.word found
    × Becomes v (sighting s.word None) (effect next kind found v.0.view) w
    × LearnsFor v s.word found (turned kind found) w

-- a seat off which a share is parted forgets the words
abbrev pub left_known : Cut → Watch → Option (List ℕ)
left_known (part_share n) e = None
left_known _ e = e.known

-- the watch of a seat after another was cut off it: it keeps what it has read
abbrev pub left_eye : Cut → Watch → Watch
left_eye cut e = record {
  view = left_by next cut e.view;
  read = e.read;
  known = left_known cut e;
  settled = e.settled;
}

-- the watch of the seat that was cut off, which has read nothing and knows no word
abbrev pub right_eye : Cut → Watch → Watch
right_eye cut e = watch (right_by cut e.view) [] None

-- a seat that takes in another core's forgets the words
abbrev pub both_known : Join → Watch → Option (List ℕ)
both_known join_idle e = None
both_known _ e = e.known

-- the watch of a seat after it took in another: it keeps what it has read itself, and is not settled
-- until its next step, since it learns by steps alone that the words fit with its view
abbrev pub both_eyes : Join → Watch → Watch → Watch
both_eyes join e f = record {
  view = joined_by next join e.view f.view;
  read = e.read;
  known = both_known join e;
  settled = false;
}

-- the watch of a seat that was taken in: nothing is in flight, and nothing was read
abbrev pub nobody : Watch
nobody = watch spent [] None
