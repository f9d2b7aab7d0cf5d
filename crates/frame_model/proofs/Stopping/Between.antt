-- An event between stops keeps what is carried: only an adoption takes a block off the ground, and then it is remembered no more.
use Rattle.std.proofs.Common.{◌≡◌, ◌≢◌, ◌⊎◌, inl, inr, ⊎_elim, ℕ, ◌+◌, ◌-◌, ◌^◌, ◌<◌, ◌≤◌, List, [], ◌∷◌, ◌++◌, Bool, true, false, get_or}
use Rattle.std.proofs.Common.{set, refl, ap, sym, subst, ◌∙◌, arith}
use Rattle.std.specs.Prelude.{if◌then◌else◌, ◌||◌, map, nat_le}
use Rattle.std.specs.List.{sum_by, All, list_any}
use Rattle.std.proofs.lemmas.Bool.{cases_eq}
use Rattle.std.proofs.lemmas.Bool.Decides.{nat_tests}
use Rattle.std.proofs.lemmas.List.{map-set, map-append}
use Rattle.std.proofs.lemmas.List.Sums.{sum_by-append}
use Rattle.std.proofs.lemmas.List.Elements.{All-set, All-push}
use mathlib.Core.Option.{some}
use lib.ListN.{get_elem?}
use Rattle.atomic_table.proofs.Lists.{at_map, set_else}
use Rattle.frame_model.specs.declared.block.FrameBlock.{FrameBlock}
use Rattle.frame_model.specs.declared.key.Key.{Key}
use Rattle.frame_model.specs.declared.view.Eye.{Eye}
use Rattle.frame_model.specs.declared.view.View.{View}
use Rattle.frame_model.specs.Key.{frame_count, child_of, is_in_range, is_boot_frame}
use Rattle.frame_model.specs.Block.{covers}
use Rattle.frame_model.specs.View.{spent, ground_with, boot_blocks, ground_in, IsViewOf}
use Rattle.frame_model.specs.Holding.{holders}
use Rattle.frame_model.specs.Steps.{Rest, Kind, place, effect, next}
use Rattle.frame_model.specs.Seats.{Cut, part_share, hand_out, recall, part_ground, adopt, Join, join_idle, hand_in, keep_in, CanAdopt}
use Rattle.frame_model.specs.Seats.{MayCut, left_by, right_by, MayJoin, joined_by}
use Rattle.frame_model.specs.Events.{State, eye, views_of, Event, loads, makes, loses, loses_at_will, cuts, joins, Happens}
use Rattle.frame_model.specs.Stops.{Moment, Forgets, Remembers, Steps}
use Rattle.frame_model.proofs.Sums.{sum_set, at-le-sum, All-at}
use Rattle.frame_model.proofs.Keeps.{total_is}
use Rattle.frame_model.proofs.Opening.{fixed_sealed}
use Rattle.frame_model.proofs.ReportLemmas.{range_le}
use Rattle.frame_model.proofs.Runs.{event_fits}
use Rattle.frame_model.proofs.Safe.{covers_is, holders_are, once}
use Rattle.frame_model.proofs.Without.{covers-le}
use Rattle.frame_model.proofs.Steps.Untouched.{untouched}
use Rattle.frame_model.proofs.Steps.Seats.{ground_yes}
use Rattle.frame_model.proofs.Steps.Shared.{view_of}
use Rattle.frame_model.proofs.Stopping.Known.{grounded, boot, ground_at, GroundApart, Start, Carries, held_at}

abbrev view_in : Eye → View
view_in e = e.view

true-is-not-false : true ≡ false → ⊥
true-is-not-false e = cc

not_ground_by : (b : Bool) → (b ≡ true → ⊥) → b ≡ false
not_ground_by true h = absurd (h refl)
not_ground_by false h = refl

-- a view with a share is no ground
not_ground : (v : View) → GroundApart v → 0 < v.share → v.is_ground ≡ false
not_ground v a h = not_ground_by v.is_ground (λ e. let z = a e in omega arith)

no_ground : (v : View) → v.is_ground ≡ false → GroundApart v
no_ground v e g = absurd (true-is-not-false (sym g ∙ e))

pub none_grounded : (x : ℕ) (v : View) → v.is_ground ≡ false → grounded x v ≡ 0
unfolding grounded
none_grounded x v e = rw e refl

all_grounded : (x : ℕ) (v : View) → v.is_ground ≡ true → grounded x v ≡ holders x v.own
unfolding grounded
all_grounded x v e = rw e refl

looks_grounded : (x : ℕ) (v : View) (m l : ℕ) → grounded x (record v { moves = m; lost = l }) ≡ grounded x v
unfolding grounded
looks_grounded x v m l = refl

pub effect_ground : (t : ℕ → ℕ) (kind : Kind) (found : ℕ) (v : View)
    → (effect t kind found v).is_ground ≡ v.is_ground
effect_ground t kind found v = (untouched t kind found v).is_ground

-- grounds are apart, and hold what they held
record SameGrounds (before after : List View) : Type 0 where
  pub apart : All GroundApart after
  pub sums : (x : ℕ) → sum_by (grounded x) after ≡ sum_by (grounded x) before

module _ (vs : List View) (all : All GroundApart vs) (id : ℕ) (v : View) (at : get_elem? vs id ≡ some v) where
  apart_here : GroundApart v
  apart_here = All-at GroundApart vs id v at all

  one_same : (w : View) → GroundApart w → ((x : ℕ) → grounded x w ≡ grounded x v)
      → SameGrounds vs (set vs id w)
  one_same w a e = record { apart = All-set GroundApart vs id w a all; sums = λ x. omega (arith, sum_set (grounded x) vs id v w at, e x) }

  cut_same : (w u : View) → v.is_ground ≡ false → w.is_ground ≡ false → u.is_ground ≡ false
      → SameGrounds vs (set vs id w ++ u ∷ [])
  cut_same w u e f g = record {
    apart = All-push GroundApart (set vs id w) u (All-set GroundApart vs id w (no_ground w f) all) (no_ground u g);
    sums = λ x. omega (
      arith,
      sum_set (grounded x) vs id v w at,
      sum_by-append (grounded x) (set vs id w) (u ∷ []),
      none_grounded x v e,
      none_grounded x w f,
      none_grounded x u g,
    );
  }

  join_same : (other : ℕ) (u w gone : View) → other ≢ id → get_elem? vs other ≡ some u → v.is_ground ≡ false
      → u.is_ground ≡ false → w.is_ground ≡ false → gone.is_ground ≡ false
      → SameGrounds vs (set (set vs id w) other gone)
  join_same other u w gone ne there e f g h = record {
    apart = All-set GroundApart (set vs id w) other gone (no_ground gone h) (All-set GroundApart vs id w (no_ground w g) all);
    sums = λ x. omega (
      arith,
      sum_set (grounded x) vs id v w at,
      sum_set (grounded x) (set vs id w) other u gone (set_else vs id other w ne ∙ there),
      none_grounded x v e,
      none_grounded x u f,
      none_grounded x w g,
      none_grounded x gone h,
    );
  }

-- an event that is no adoption
abbrev NoAdoption : Event → Type 0
NoAdoption (cuts id (adopt b rest)) = ⊥
NoAdoption event = Unit {0}

or_false : (a b : Bool) → a ≡ false → b ≡ false → (a || b) ≡ false
or_false a b e f = rw (e, f) refl

same_cut : (key : Key) (vs : List View) (all : All GroundApart vs) (id : ℕ) (v : View)
    → get_elem? vs id ≡ some v → (cut : Cut) → NoAdoption (cuts id cut) → MayCut key cut v
    → SameGrounds vs (set vs id (left_by next cut v) ++ right_by cut v ∷ [])
same_cut key vs all id v at (part_share n) other_than may =
    let e = not_ground v (apart_here vs all id v at) (omega (arith, may.fewer)) in
    cut_same vs all id v at (left_by next (part_share n) v) (right_by (part_share n) v) e e refl
same_cut key vs all id v at (hand_out b rest) other_than may =
    let e = not_ground v (apart_here vs all id v at) may.share in
    cut_same vs all id v at (left_by next (hand_out b rest) v) (right_by (hand_out b rest) v) e e refl
same_cut key vs all id v at (recall b rest) other_than may =
    let e = not_ground v (apart_here vs all id v at) may.share in
    cut_same vs all id v at (left_by next (recall b rest) v) (right_by (recall b rest) v) e e refl
same_cut key vs all id v at part_ground other_than may =
    absurd (let z = apart_here vs all id v at may.is_ground in let s = may.share in omega arith)
same_cut key vs all id v at (adopt b rest) other_than may = absurd other_than

same_join : (vs : List View) (all : All GroundApart vs) (id : ℕ) (v : View) → get_elem? vs id ≡ some v
    → (other : ℕ) (u : View) → other ≢ id → get_elem? vs other ≡ some u → (join : Join) → MayJoin join v u
    → SameGrounds vs (set (set vs id (joined_by next join v u)) other spent)
same_join vs all id v at other u ne there join_idle may =
    let e = not_ground v (apart_here vs all id v at) may.keeper.share in
    let f = not_ground u (apart_here vs all other u there) may.other.share in
    join_same vs all id v at other u (joined_by next join_idle v u) spent ne there e f (or_false v.is_ground u.is_ground e f) refl
same_join vs all id v at other u ne there hand_in may =
    let e = not_ground v (apart_here vs all id v at) may.takes.share in
    join_same vs all id v at other u (joined_by next hand_in v u) spent ne there e may.takes.not_ground e refl
same_join vs all id v at other u ne there keep_in may = let e = not_ground v (apart_here vs all id v at) may.share in
    join_same vs all id v at other u (joined_by next keep_in v u) spent ne there e may.not_ground e refl

to_state : (s t r : State) → t ≡ r → SameGrounds (views_of s) (views_of r)
    → SameGrounds (views_of s) (views_of t)
to_state s t r e g = subst (λ (x : State). SameGrounds (views_of s) (views_of x)) (sym e) g

to_one : (es : List Eye) (id : ℕ) (w : Eye) → SameGrounds (map view_in es) (set (map view_in es) id w.view)
    → SameGrounds (map view_in es) (map view_in (set es id w))
to_one es id w g = subst (SameGrounds (map view_in es)) (sym (map-set view_in es id w)) g

to_two : (es : List Eye) (id : ℕ) (w u : Eye)
    → SameGrounds (map view_in es) (set (map view_in es) id w.view ++ u.view ∷ [])
    → SameGrounds (map view_in es) (map view_in (set es id w ++ u ∷ []))
to_two es id w u g =
    subst (SameGrounds (map view_in es))
    (sym (map-append view_in (set es id w) (u ∷ []) ∙ ap (λ (vs : List View). vs ++ u.view ∷ []) (map-set view_in es id w))) g

to_gone : (es : List Eye) (id other : ℕ) (w u : Eye)
    → SameGrounds (map view_in es) (set (set (map view_in es) id w.view) other u.view)
    → SameGrounds (map view_in es) (map view_in (set (set es id w) other u))
to_gone es id other w u g =
    subst (SameGrounds (map view_in es))
    (sym (map-set view_in (set es id w) other u ∙ ap (λ (vs : List View). set vs other u.view) (map-set view_in es id w))) g

same_grounds : (key : Key) (s : State) (event : Event) (t : State) → All GroundApart (views_of s)
    → NoAdoption event → Happens key s event t → SameGrounds (views_of s) (views_of t)
same_grounds key s (loads id word) t all other_than (e, at, about, inside, is) =
    let there = at_map view_in s.eyes id e at in
    to_state s t _ is (to_one s.eyes id _
    (one_same (views_of s) all id e.view there _ (apart_here (views_of s) all id e.view there)
    (λ x. looks_grounded x e.view (next e.view.moves) e.view.lost)))
same_grounds key s (makes id kind) t all other_than (e, at, may, made, is) =
    let there = at_map view_in s.eyes id e at in
    let f = not_ground e.view (apart_here (views_of s) all id e.view there) may.share in
    let found : ℕ = get_or s.words (place key kind) 0 in
    let w : View = effect next kind found e.view in
    let g : w.is_ground ≡ false = effect_ground next kind found e.view ∙ f in
    to_state s t _ is (to_one s.eyes id _
    (one_same (views_of s) all id e.view there w (no_ground w g) (λ x. none_grounded x w g ∙ sym (none_grounded x e.view f))))
same_grounds key s (loses id kind) t all other_than (e, at, may, exchange, differs, is) =
    let there = at_map view_in s.eyes id e at in
    to_state s t _ is (to_one s.eyes id _
    (one_same (views_of s) all id e.view there _ (apart_here (views_of s) all id e.view there)
    (λ x. looks_grounded x e.view (next e.view.moves) (next e.view.lost))))
same_grounds key s (loses_at_will id kind) t all other_than (e, at, may, exchange, is) =
    let there = at_map view_in s.eyes id e at in
    to_state s t _ is (to_one s.eyes id _
    (one_same (views_of s) all id e.view there _ (apart_here (views_of s) all id e.view there)
    (λ x. looks_grounded x e.view (next e.view.moves) (next e.view.lost))))
same_grounds key s (cuts id cut) t all other_than (e, at, may, is) =
    let there = at_map view_in s.eyes id e at in
    to_state s t _ is (to_two s.eyes id (eye (left_by next cut e.view) e.read) (eye (right_by cut e.view) [])
    (same_cut key (views_of s) all id e.view there cut other_than may))
same_grounds key s (joins id other join) t all other_than (e, o, at, apart, there, may, is) =
    to_state s t _ is
    (to_gone s.eyes id other (eye (joined_by next join e.view o.view) e.read) (eye spent [])
    (same_join (views_of s) all id e.view (at_map view_in s.eyes id e at) other o.view apart
    (at_map view_in s.eyes other o there) join may))

-- What is carried, after an event.

-- the moment after an event, with what is remembered then
abbrev pub after_event : Moment → State → List FrameBlock → Moment
after_event m t rem = record m { state = t; remembered = rem }

-- no adoption: nothing that is carried changes
plain_carries : {start : Start} (m : Moment) (event : Event) (t : State) → Carries start m → NoAdoption event
    → Happens m.key m.state event t → Carries start (after_event m t m.remembered)
plain_carries m event t c other_than h =
    let g : SameGrounds (views_of m.state) (views_of t) = same_grounds m.key m.state event t c.apart other_than h in
    let n : Moment = after_event m t m.remembered in
    let same : (x : ℕ) → ground_at n x ≡ ground_at m x = λ x. omega (
      arith,
      total_is m.key (grounded x) (views_of t),
      total_is m.key (grounded x) (views_of m.state),
      g.sums x,
    ) in
    record {
      fits = event_fits m.key m.shares m.state event t c.fits h;
      is_key = c.is_key;
      ended = c.ended;
      apart = g.apart;
      are_blocks = c.are_blocks;
      remembered = λ x q. omega (arith, c.remembered x q, same x);
      abandoned = λ x q. omega (arith, c.abandoned x q, same x);
      count = omega (
        arith,
        c.count,
        range_le (λ x. ground_at n x - (holders x m.remembered + boot m.key x))
            (λ x. ground_at m x - (holders x m.remembered + boot m.key x)) 0 (frame_count m.key) (λ x l q. omega (arith, same x)),
      );
    }

inside_by : (end x : ℕ) → x < end → (nat_le end x || list_any (is_in_range x) []) ≡ false
inside_by end x h = grind (arith, nat_tests)

-- frames of an unsealed memory are named by its key only past the end
pub not_boot : (key : Key) (x : ℕ) → key.ranges ≡ [] → x < key.frames → boot key x ≡ 0
unfolding is_boot_frame
not_boot key x r h = ap (λ (rs : List (ℕ × ℕ)). if nat_le key.frames x || list_any (is_in_range x) rs then 1 else 0) r
    ∙ ap (λ (b : Bool). if b then 1 else 0) (inside_by key.frames x h)

covered_inside : (b : FrameBlock) (x : ℕ) → covers b x ≡ 1 → x < b.frame + 2 ^ b.order
unfolding covers
covered_inside b x e = grind (arith, nat_tests)

module _ {start : Start} (m : Moment) (c : Carries start m) (id : ℕ) (b : FrameBlock) (rest : Rest) (e : Eye)
    (at : get_elem? m.state.eyes id ≡ some e) (may : CanAdopt m.key e.view b (rest e.view.own)) where
  there : get_elem? (views_of m.state) id ≡ some e.view
  there = at_map view_in m.state.eyes id e at

  -- no seat of a sealed memory is a ground
  not_sealed : m.key.sealed ≡ false
  not_sealed = by m.key.sealed refl
    where
      by : (s : Bool) → m.key.sealed ≡ s → m.key.sealed ≡ false
      by true q = absurd (omega (
        arith,
        c.fits.one_ground,
        total_is m.key ground_in (views_of m.state),
        ap ground_in (fixed_sealed m.key q),
        ground_yes (ground_with m.key (boot_blocks m.key)) refl,
        at-le-sum ground_in (views_of m.state) id e.view there,
        ground_yes e.view may.is_ground,
      ))
      by false q = q

  left_holds : (x : ℕ) → holders x (rest e.view.own) + covers b x ≡ holders x e.view.own
  left_holds x =
      let i : IsViewOf m.key e.view = view_of m.key m.shares m.state.words (views_of m.state) id e.view c.fits there in
      omega (
        arith,
        holders_are m.key x (rest e.view.own) may.leaves.are_blocks,
        holders_are m.key x e.view.own i.own,
        covers_is m.key x b may.is_block,
        may.leaves.smalls x,
        may.leaves.wholes (child_of x),
      )

  adopted_sum : (x : ℕ)
      → sum_by (grounded x)
      (set (views_of m.state) id (left_by next (adopt b rest) e.view) ++ right_by (adopt b rest) e.view ∷ []) + covers b x
      ≡ sum_by (grounded x) (views_of m.state)
  adopted_sum x =
      let left : View = left_by next (adopt b rest) e.view in
      let right : View = right_by (adopt b rest) e.view in
      omega (
        arith,
        sum_set (grounded x) (views_of m.state) id e.view left there,
        sum_by-append (grounded x) (set (views_of m.state) id left) (right ∷ []),
        all_grounded x e.view may.is_ground,
        all_grounded x left may.is_ground,
        none_grounded x right refl,
        left_holds x,
      )

  adopted_apart : All GroundApart (set (views_of m.state) id (left_by next (adopt b rest) e.view) ++ right_by (adopt b rest) e.view ∷ [])
  adopted_apart =
      let left : View = left_by next (adopt b rest) e.view in
      let right : View = right_by (adopt b rest) e.view in
      All-push GroundApart (set (views_of m.state) id left) right
      (All-set GroundApart (views_of m.state) id left (λ g. may.share) c.apart) (no_ground right refl)

  adopt_carries : (t : State) (rem : List FrameBlock) → Happens m.key m.state (cuts id (adopt b rest)) t
      → views_of t ≡ set (views_of m.state) id (left_by next (adopt b rest) e.view) ++ right_by (adopt b rest) e.view ∷ []
      → Forgets m.key m.remembered b rem → Carries start (after_event m t rem)
  adopt_carries t rem h views f =
      let n : Moment = after_event m t rem in
      let less : (x : ℕ) → ground_at n x + covers b x ≡ ground_at m x =
      λ x. omega (
        arith,
        total_is m.key (grounded x) (views_of t),
        total_is m.key (grounded x) (views_of m.state),
        ap (sum_by (grounded x)) views,
        adopted_sum x,
      ) in
      let few : (x : ℕ) → x < frame_count m.key → ground_at m x ≤ 1 =
      λ x q. omega (arith, held_at m c x, once m.key m.shares m.state.words (views_of m.state) c.fits x q) in
      let unnamed : (x : ℕ) → covers b x ≡ 1 → boot m.key x ≡ 0 =
      λ x q. not_boot m.key x (c.is_key.unsealed not_sealed) (omega (arith, covered_inside b x q, may.inside)) in
      let either : (x : ℕ) → (covers b x ≡ 0) ⊎ (covers b x ≡ 1) =
      λ x. ⊎_elim (λ z. inl z) (λ p. inr (omega (arith, covers-le b x, p))) (cases_eq (covers b x) 0) in
      record {
        fits = event_fits m.key m.shares m.state (cuts id (adopt b rest)) t c.fits h;
        is_key = c.is_key;
        ended = c.ended;
        apart = subst (All GroundApart) (sym views) adopted_apart;
        are_blocks = f.are_blocks;
        remembered = λ x q.
            ⊎_elim
            (λ z. omega (arith, c.remembered x q, less x, f.elsewhere x z))
            (λ o. omega (arith, f.here x o, unnamed x o))
            (either x);
        abandoned = λ x q.
            ⊎_elim
            (λ z. omega (arith, c.abandoned x q, less x, f.elsewhere x z))
            (λ o. omega (arith, less x, few x q))
            (either x);
        count = omega (
          arith,
          c.count,
          range_le (λ x. ground_at n x - (holders x rem + boot m.key x))
              (λ x. ground_at m x - (holders x m.remembered + boot m.key x)) 0 (frame_count m.key)
              (λ x l q. ⊎_elim (λ z. omega (arith, less x, f.elsewhere x z)) (λ o. omega (arith, less x, few x (omega arith))) (either x)),
        );
      }

adopted_views : (s t : State) (id : ℕ) (w u : Eye)
    → t ≡ record { words = s.words; eyes = set s.eyes id w ++ u ∷ [] }
    → views_of t ≡ set (views_of s) id w.view ++ u.view ∷ []
adopted_views s t id w u is =
    ap views_of is ∙ map-append view_in (set s.eyes id w) (u ∷ [])
    ∙ ap (λ (vs : List View). vs ++ u.view ∷ []) (map-set view_in s.eyes id w)

event_carries : (start : Start) (m : Moment) (event : Event) (t : State) (rem : List FrameBlock) → Carries start m
    → Happens m.key m.state event t → Remembers m.key event m.remembered rem → Carries start (after_event m t rem)
event_carries start m (loads id word) t rem c h r =
    subst (λ (x : List FrameBlock). Carries start (after_event m t x)) (sym r) (plain_carries m (loads id word) t c tt h)
event_carries start m (makes id kind) t rem c h r =
    subst (λ (x : List FrameBlock). Carries start (after_event m t x)) (sym r) (plain_carries m (makes id kind) t c tt h)
event_carries start m (loses id kind) t rem c h r =
    subst (λ (x : List FrameBlock). Carries start (after_event m t x)) (sym r) (plain_carries m (loses id kind) t c tt h)
event_carries start m (loses_at_will id kind) t rem c h r =
    subst (λ (x : List FrameBlock). Carries start (after_event m t x)) (sym r) (plain_carries m (loses_at_will id kind) t c tt h)
event_carries start m (cuts id (part_share n)) t rem c h r =
    subst (λ (x : List FrameBlock). Carries start (after_event m t x)) (sym r) (plain_carries m (cuts id (part_share n)) t c tt h)
event_carries start m (cuts id (hand_out b rest)) t rem c h r =
    subst (λ (x : List FrameBlock). Carries start (after_event m t x)) (sym r) (plain_carries m (cuts id (hand_out b rest)) t c tt h)
event_carries start m (cuts id (recall b rest)) t rem c h r =
    subst (λ (x : List FrameBlock). Carries start (after_event m t x)) (sym r) (plain_carries m (cuts id (recall b rest)) t c tt h)
event_carries start m (cuts id part_ground) t rem c h r =
    subst (λ (x : List FrameBlock). Carries start (after_event m t x)) (sym r) (plain_carries m (cuts id part_ground) t c tt h)
event_carries start m (cuts id (adopt b rest)) t rem c (e, at, may, is) r =
    adopt_carries m c id b rest e at may t rem (e, at, may, is)
    (adopted_views m.state t id (eye (left_by next (adopt b rest) e.view) e.read)
    (eye (right_by (adopt b rest) e.view) []) is) r
event_carries start m (joins id other join) t rem c h r =
    subst (λ (x : List FrameBlock). Carries start (after_event m t x)) (sym r) (plain_carries m (joins id other join) t c tt h)

-- an event between stops
pub step_carries : (start : Start) (m n : Moment) (event : Event) → Carries start m → Steps event m n → Carries start n
step_carries start m n event c s =
    let same : n ≡ after_event m n.state n.remembered =
    (λ i. record {
      key = s.key i;
      shares = s.shares i;
      state = n.state;
      remembered = n.remembered;
      abandoned = s.abandoned i;
      stops = s.stops i;
    }) in
    subst (Carries start) (sym same) (event_carries start m event n.state n.remembered c s.happens s.remembers)
