-- Every event keeps the fit, and so does every list of them.
use Rattle.std.proofs.Common.{◌≡◌, ℕ, List, [], ◌∷◌, ◌++◌, None, Some, get_or, set, ap, sym, subst, ◌∙◌}
use Rattle.std.specs.Prelude.{map}
use Rattle.std.proofs.lemmas.List.{map-set, map-append}
use Rattle.atomic_table.proofs.Lists.{at_map}
use Rattle.frame_model.specs.declared.key.Key.{Key}
use Rattle.frame_model.specs.declared.view.Eye.{Eye}
use Rattle.frame_model.specs.declared.view.View.{View}
use Rattle.frame_model.specs.View.{spent}
use Rattle.frame_model.specs.Fit.{Fit}
use Rattle.frame_model.specs.Steps.{place, turned, effect, after_load, next}
use Rattle.frame_model.specs.Seats.{left_by, right_by, joined_by}
use Rattle.frame_model.specs.Events.{State, eye, views_of, sighting, Event, loads, makes, loses, loses_at_will, cuts, joins, loser, Happens}
use Rattle.frame_model.specs.Events.{Fits, EveryRunFits}
use Rattle.frame_model.proofs.Steps.Shared.{named, view_of}
use Rattle.frame_model.proofs.Steps.Seats.{look_keeps}
use Rattle.frame_model.proofs.Steps.Every.{kind_keeps, seat_cut_keeps, seat_join_keeps}

abbrev view_of_eye : Eye → View
view_of_eye e = e.view

abbrev seen_views : List Eye → List View
seen_views es = map view_of_eye es

-- a state that an event leads to, as the event says it
lands_on : (key : Key) (shares : ℕ) (a b : State) → b ≡ a → Fits key shares a → Fits key shares b
lands_on key shares a b e fit = subst (Fits key shares) (sym e) fit

module _ (key : Key) (shares : ℕ) (new : List ℕ) (es : List Eye) (id : ℕ) where
  one_eye : (w : Eye) → Fit key shares new (set (seen_views es) id w.view)
      → Fit key shares new (seen_views (set es id w))
  one_eye w fit = subst (Fit key shares new) (sym (map-set view_of_eye es id w)) fit

  two_eyes : (w u : Eye) → Fit key shares new (set (seen_views es) id w.view ++ u.view ∷ [])
      → Fit key shares new (seen_views (set es id w ++ u ∷ []))
  two_eyes w u fit =
      subst (Fit key shares new)
      (sym (map-append view_of_eye (set es id w) (u ∷ [])
      ∙ ap (λ (vs : List View). vs ++ u.view ∷ []) (map-set view_of_eye es id w))) fit

  one_gone : (other : ℕ) (w u : Eye) → Fit key shares new (set (set (seen_views es) id w.view) other u.view)
      → Fit key shares new (seen_views (set (set es id w) other u))
  one_gone other w u fit =
      subst (Fit key shares new)
      (sym (map-set view_of_eye (set es id w) other u
      ∙ ap (λ (vs : List View). set vs other u.view) (map-set view_of_eye es id w))) fit

-- one event
pub event_fits : (key : Key) (shares : ℕ) (s : State) (event : Event) (t : State) → Fits key shares s
    → Happens key s event t → Fits key shares t
event_fits key shares s (loads id word) t fit (e, at, about, inside, is) =
    lands_on key shares (record {
      words = s.words;
      eyes = set s.eyes id (eye (after_load next e.view) (sighting word (Some (get_or s.words word 0)) ∷ e.read));
    }) t is
    (one_eye key shares s.words s.eyes id (eye (after_load next e.view) (sighting word (Some (get_or s.words word 0)) ∷ e.read))
    (look_keeps key shares s.words (views_of s) id e.view fit (at_map view_of_eye s.eyes id e at) (next e.view.moves) e.view.lost about))
event_fits key shares s (makes id kind) t fit (e, at, may, made, is) =
    let found : ℕ = get_or s.words (place key kind) 0 in
    let w : Eye = eye (effect next kind found e.view) (sighting (place key kind) None ∷ e.read) in
    lands_on key shares (record { words = set s.words (place key kind) (turned kind found); eyes = set s.eyes id w }) t is
    (one_eye key shares (set s.words (place key kind) (turned kind found)) s.eyes id w
    (kind_keeps next key shares s.words (views_of s) id e.view fit (at_map view_of_eye s.eyes id e at) kind may.share may.may made))
event_fits key shares s (loses id kind) t fit (e, at, may, exchange, differs, is) =
    let found : ℕ = get_or s.words (place key kind) 0 in
    let there = at_map view_of_eye s.eyes id e at in
    lands_on key shares (record { words = s.words; eyes = set s.eyes id (loser key e kind found) }) t is
    (one_eye key shares s.words s.eyes id (loser key e kind found)
    (look_keeps key shares s.words (views_of s) id e.view fit there (next e.view.moves) (next e.view.lost)
    (named key e.view (view_of key shares s.words (views_of s) id e.view fit there) may.share)))
event_fits key shares s (loses_at_will id kind) t fit (e, at, may, exchange, is) =
    let found : ℕ = get_or s.words (place key kind) 0 in
    let there = at_map view_of_eye s.eyes id e at in
    lands_on key shares (record { words = s.words; eyes = set s.eyes id (loser key e kind found) }) t is
    (one_eye key shares s.words s.eyes id (loser key e kind found)
    (look_keeps key shares s.words (views_of s) id e.view fit there (next e.view.moves) (next e.view.lost)
    (named key e.view (view_of key shares s.words (views_of s) id e.view fit there) may.share)))
event_fits key shares s (cuts id cut) t fit (e, at, may, is) =
    let w : Eye = eye (left_by next cut e.view) e.read in
    let u : Eye = eye (right_by cut e.view) [] in
    lands_on key shares (record { words = s.words; eyes = set s.eyes id w ++ u ∷ [] }) t is
    (two_eyes key shares s.words s.eyes id w u
    (seat_cut_keeps next key shares s.words (views_of s) id e.view fit (at_map view_of_eye s.eyes id e at) cut may))
event_fits key shares s (joins id other join) t fit (e, o, at, apart, there, may, is) =
    let w : Eye = eye (joined_by next join e.view o.view) e.read in
    lands_on key shares (record { words = s.words; eyes = set (set s.eyes id w) other (eye spent []) }) t is
    (one_gone key shares s.words s.eyes id other w (eye spent [])
    (seat_join_keeps next key shares s.words (views_of s) id e.view fit
    (at_map view_of_eye s.eyes id e at) other o.view apart (at_map view_of_eye s.eyes other o there) join may))

-- every list of events
pub every_run_fits : EveryRunFits
every_run_fits key shares s [] t fit is = lands_on key shares s t is fit
every_run_fits key shares s (event ∷ events) t fit (mid, first, others) =
    every_run_fits key shares mid events t (event_fits key shares s event mid fit first) others
