-- What may happen to a memory: a seat makes one atomic step, or seats are cut and joined.
use Rattle.std.specs.Prelude.{◌≡◌, ◌≢◌, ℕ, ◌<◌, List, [], ◌∷◌, ◌++◌, Option, Some, None, nat_eq, if◌then◌else◌, slice_index, slice_set, map}
use mathlib.Core.Option.{some}
use lib.ListN.{get_elem?}
use Rattle.frame_model.specs.declared.key.Key.{Key}
use Rattle.frame_model.specs.declared.view.Eye.{Eye}
use Rattle.frame_model.specs.declared.view.Sighting.{Sighting}
use Rattle.frame_model.specs.declared.view.View.{View}
use Rattle.frame_model.specs.Words.{word_count}
use Rattle.frame_model.specs.View.{spent}
use Rattle.frame_model.specs.Fit.{Fit}
use Rattle.frame_model.specs.Steps.{Kind, place, seen_by, IsMade, turned, May, effect, after_load, after_loss, next}
use Rattle.frame_model.specs.Seats.{Cut, Join, MayCut, left_by, right_by, MayJoin, joined_by}

-- the words of a table, and for each seat its view and what it has read
pub record State : Type 0 where
  pub words : List ℕ
  pub eyes : List Eye

-- a view, and what its seat has read
abbrev pub eye : View → List Sighting → Eye
eye view read = record { view = view; read = read }

-- the views of all seats
abbrev pub views_of : State → List View
views_of s = map (λ (e : Eye). e.view) s.eyes

-- a word was found to be this; or it is no longer known
abbrev pub sighting : ℕ → Option ℕ → Sighting
sighting place found = record { place = place; found = found }

-- what a word was last found to be, if nothing changed it since by the seat's own step
unfoldable pub last_seen : List Sighting → ℕ → Option ℕ
last_seen [] place = None
last_seen (s ∷ others) place =
    if nat_eq s.place place then s.found else last_seen others place

-- an exchange needs that what it has seen is what its seat last read there
abbrev pub HasRead : List Sighting → ℕ → Option ℕ → Type 0
HasRead read place None = Unit {0}
HasRead read place (Some seen) = last_seen read place ≡ Some seen

-- the step may be tried: the view has a share and what the kind asks, and has read what it has seen
pub record MayStep (key : Key) (e : Eye) (kind : Kind) : Type 0 where
  pub share : 0 < e.view.share
  pub may : May key kind e.view
  pub read : HasRead e.read (place key kind) (seen_by kind)

-- what may happen to a memory at one time
pub data Event : Type 0 where
  -- a seat loads a word
  loads : (id word : ℕ) → Event
  -- a seat makes a step
  makes : (id : ℕ) (kind : Kind) → Event
  -- a seat loses an exchange, since the word is no longer what it had seen
  loses : (id : ℕ) (kind : Kind) → Event
  -- a seat is made to lose an exchange, whatever the word is
  loses_at_will : (id : ℕ) (kind : Kind) → Event
  -- a seat is cut in two
  cuts : (id : ℕ) (cut : Cut) → Event
  -- a seat takes in another
  joins : (id other : ℕ) (join : Join) → Event

-- the seat id has this view, and has read this
abbrev pub Has : State → ℕ → Eye → Type 0
Has s id e = get_elem? s.eyes id ≡ some e

-- the word is an exchange's
abbrev pub IsExchange : Kind → Type 0
IsExchange kind = (seen : ℕ) × (seen_by kind ≡ Some seen)

-- the seat after it lost an exchange, which found a word
abbrev pub loser : Key → Eye → Kind → ℕ → Eye
loser key e kind found =
    eye (after_loss next e.view) (sighting (place key kind) (Some found) ∷ e.read)

-- from s the event may happen, and lead to t
abbrev pub Happens : Key → State → Event → State → Type 0
Happens key s (loads id word) t = (e : Eye) × Has s id e × (e.view.about ≡ Some key)
    × (word < word_count key)
    × (t ≡ record {
      words = s.words;
      eyes = slice_set s.eyes id
          (eye (after_load next e.view) (sighting word (Some (slice_index s.words word)) ∷ e.read));
    })
Happens key s (makes id kind) t = (e : Eye) × Has s id e × MayStep key e kind
    × IsMade kind (slice_index s.words (place key kind))
    × (t ≡ record {
      words = slice_set s.words (place key kind)
          (turned kind (slice_index s.words (place key kind)));
      eyes = slice_set s.eyes id
          (eye (effect next kind (slice_index s.words (place key kind)) e.view)
          (sighting (place key kind) None ∷ e.read));
    })
Happens key s (loses id kind) t = (e : Eye) × Has s id e × MayStep key e kind
    × IsExchange kind × (seen_by kind ≢ Some (slice_index s.words (place key kind)))
    × (t ≡ record {
      words = s.words;
      eyes = slice_set s.eyes id (loser key e kind (slice_index s.words (place key kind)));
    })
Happens key s (loses_at_will id kind) t = (e : Eye) × Has s id e × MayStep key e kind
    × IsExchange kind
    × (t ≡ record {
      words = s.words;
      eyes = slice_set s.eyes id (loser key e kind (slice_index s.words (place key kind)));
    })
Happens key s (cuts id cut) t = (e : Eye) × Has s id e × MayCut key cut e.view
    × (t ≡ record {
      words = s.words;
      eyes = slice_set s.eyes id (eye (left_by next cut e.view) e.read)
          ++ eye (right_by cut e.view) [] ∷ [];
    })
Happens key s (joins id other join) t = (e : Eye) × (o : Eye) × Has s id e × (other ≢ id)
    × Has s other o × MayJoin join e.view o.view
    × (t ≡ record {
      words = s.words;
      eyes = slice_set (slice_set s.eyes id (eye (joined_by next join e.view o.view) e.read)) other
          (eye spent []);
    })

-- from s these events may happen one after another, and lead to t
abbrev pub LeadsTo : Key → State → List Event → State → Type 0
LeadsTo key s [] t = t ≡ s
LeadsTo key s (event ∷ events) t = (mid : State) × Happens key s event mid × LeadsTo key mid events t

-- the words and the views of a state agree
abbrev pub Fits : Key → ℕ → State → Type 0
Fits key shares s = Fit key shares s.words (views_of s)

-- every list of events leads from a state that fits to one that fits
abbrev pub EveryRunFits : Type 0
EveryRunFits = (key : Key) (shares : ℕ) (s : State) (events : List Event) (t : State)
    → Fits key shares s → LeadsTo key s events t → Fits key shares t
