-- Single frames that are taken into structs and given from them, one after another.
use Rattle.std.proofs.Common.{◌≡◌, ◌≢◌, ◌⊎◌, ℕ, ℤ, pos, ◌+◌, ◌+ℤ◌, ◌-ℤ◌, ◌<◌, ◌≤◌, List, [], ◌∷◌, ◌++◌, length, take, drop, set, slice_index_or, true, false, inl, inr, refl, sym, ◌∙◌, ap, ap₂, subst, arith}
use Rattle.std.specs.List.{All}
use Rattle.std.proofs.lemmas.Bool.{cases_order}
use Rattle.std.proofs.lemmas.Int.{ints}
use Rattle.std.proofs.lemmas.List.{take_more, take_more_set, take_all, drop-drop, drop-set-lt, get_or-drop, set-get_or, nil_from_length}
use Rattle.std.proofs.lemmas.List.Elements.{All-nil, All-push, All-same}
use Rattle.std.proofs.lemmas.List.Sums.{sum_by_push}
use Rattle.std.specs.Arc.{arc_value}
use Rattle.core_frames.specs.Cores.{lent_by}
use Rattle.core_frames.specs.declared.shared.allocator.Core.{Core}
use Rattle.frame_zones.proofs.Rounds.{some_zone}
use Rattle.frame_zones.specs.Zones.{zone_count, core_at}
use Rattle.frame_zones.specs.declared.zones.Zones.{Zones}
use Rattle.zone_slots.specs.Calls.{zones_of, SharesOne, KeepsAllInEach}
use Rattle.zone_slots.specs.FrameCalls.{resting_in, next_batch, KeepsRest, lent_out_in}
use Rattle.zone_slots.specs.Resting.{most_resting, refill_frames, flush_frames, one_in, singles_in}
use Rattle.zone_slots.specs.Uses.{EachLendsSame}
use Rattle.zone_slots.specs.declared.core_state.CoreState.{CoreState}
use Rattle.zone_slots.specs.declared.single_frame.SingleFrame.{SingleFrame}
use Rattle.llfree_c.specs.Batches.{CarriesNothing, CarriesSingle, CarriesSingleOf, carried_in, LendsTheseNoMore, RestFewer, RestMore, FillsFirst, TakesFrames, GivesFrames}
use Rattle.llfree_c.specs.Blocks.{IsEmptyOrOut}
use Rattle.llfree_c.specs.Frames.{TakesFrame, GivesFrame, FindsNoFrame, LosesFrame, RefusesFrameAs, KeepsFrameAs}
use Rattle.llfree_c.specs.Status.{ok, no_block, bad_order, not_held, contended}
use Rattle.llfree_c.specs.declared.block_handle.BlockHandle.{BlockHandle}
use Rattle.zone_slots.proofs.Rested.{then_keeps}
use Rattle.llfree_c.proofs.CarriedBlocks.{out_still}

-- of frames that are carried one more lies in the zone of its number
carried_more : (zs : Zones) (hs more : List BlockHandle) (h : BlockHandle) (z : ℕ) → more ≡ hs ++ h ∷ []
    → carried_in zs more z ≡ carried_in zs hs z + one_in zs z h.frame
carried_more zs hs more h z is =
    ap (λ (all : List BlockHandle). carried_in zs all z) is ∙ sum_by_push (λ (g : BlockHandle). one_in zs z g.frame) hs h

-- lists that are the same from n on are from n + 1 on
behind_one : {X : Type 0} (n : ℕ) (xs ys : List X) → drop n xs ≡ drop n ys → drop (n + 1) xs ≡ drop (n + 1) ys
behind_one n xs ys same = sym (drop-drop 1 n xs) ∙ ap (drop 1) same ∙ drop-drop 1 n ys

-- the first n structs got their frames
pub record Filled (n : ℕ) (before after : List BlockHandle) (s t : CoreState) : Type 0 where
  pub shared : SharesOne s t
  pub taken : FillsFirst n before after s t
  pub same : n ≡ 0 → t ≡ s
  pub enough : n ≤ length (resting_in s) → RestFewer n s t
  pub rests : length (resting_in s) < n → length (resting_in t) < refill_frames

-- none did yet
pub none_filled : (hs : List BlockHandle) (s : CoreState) → Filled 0 hs hs s s
none_filled hs s =
    let left : (l : ℤ) → l ≡ l +ℤ pos 0 = λ l. omega (arith, ints) in record {
      shared = refl;
      taken = record {
        within = omega arith;
        each = All-nil (CarriesSingleOf s);
        others = refl;
        lent = record { lent = λ z x within. left (lent_out_in s z x); kept = λ z a x within. refl };
      };
      same = λ zero. refl;
      enough = λ few. record { fewer = omega arith; core = refl };
      rests = λ less. absurd (omega (arith, less));
    }

-- fewer than may come at once
under_most : (t : CoreState) (n : ℕ) → n < next_batch t → n < refill_frames
under_most t n less = omega (arith, less, t.rest.few_next)

-- where none or some rest, one is taken: fewer than 16 rest then
still_few : (h : BlockHandle) (t u : CoreState) → length (resting_in t) < refill_frames → TakesFrame h t u
    → length (resting_in u) < refill_frames
still_few h t u few took =
    elim (cases_order (length (resting_in t)) 0) as (λ _. length (resting_in u) < refill_frames) [
      | inl none ↦ under_most t (length (resting_in u)) (took.few (nil_from_length (resting_in t) none))
      | inr less ↦ elim less as (λ _. length (resting_in u) < refill_frames) [
        | inl below ↦ absurd (omega (arith, below))
        | inr above ↦ omega (arith, (took.rested above).one, few)
      ]
    ]

-- one more got its frame
pub one_filled : (n : ℕ) (before items : List BlockHandle) (h : BlockHandle) (s t u : CoreState) → n < length items
    → length items ≡ length before → Filled n before items s t → SharesOne t u → TakesFrame h t u
    → Filled (n + 1) before (set items n h) s u
one_filled n before items h s t u inside long so shared took =
    let zones : zones_of t ≡ zones_of s = λ i. (arc_value (so.shared i)).zones in
    let first : List BlockHandle = take n items in
    let next : take (n + 1) (set items n h) ≡ first ++ h ∷ [] = take_more_set items n h inside in
    record {
      shared = shared ∙ so.shared;
      taken = record {
        within = omega (arith, inside, long);
        each = All-same (CarriesSingleOf s) (take (n + 1) (set items n h)) (first ++ h ∷ []) next
            (All-push (CarriesSingleOf s) first h so.taken.each
            (record { single = (took.live, took.order); out = out_still s t h so.shared took.out }));
        others = drop-set-lt (n + 1) items n h (omega arith) ∙ behind_one n items before so.taken.others;
        lent = record {
          lent = λ z x within.
              up (lent_out_in s z x) (lent_out_in t z x) (lent_out_in u z x) (carried_in (zones_of s) first z)
              (one_in (zones_of s) z h.frame) (carried_in (zones_of s) (take (n + 1) (set items n h)) z)
              (so.taken.lent.lent z x within)
              (took.lent.lent z x (subst (λ (zs : Zones). z < zone_count zs) (sym zones) within)
              ∙ ap (λ (zs : Zones). lent_out_in t z x +ℤ pos (one_in zs z h.frame)) zones)
              (carried_more (zones_of s) first (take (n + 1) (set items n h)) h z next);
          kept = then_keeps s t u so.shared so.taken.lent.kept took.lent.kept;
        };
      };
      same = λ zero. absurd (omega (arith, zero));
      enough = λ few.
          let was = so.enough (omega (arith, few)) in
          let hit = took.rested (omega (arith, few, was.fewer)) in
          record { fewer = omega (arith, was.fewer, hit.one); core = hit.core ∙ was.core };
      rests = λ less. elim (cases_order (length (resting_in s)) n) as (λ _. length (resting_in u) < refill_frames) [
        | inl same ↦
            let was = so.enough (omega (arith, same)) in
            under_most t (length (resting_in u)) (took.few (nil_from_length (resting_in t) (omega (arith, was.fewer, same))))
        | inr other ↦ elim other as (λ _. length (resting_in u) < refill_frames) [
          | inl below ↦ still_few h t u (so.rests below) took
          | inr above ↦ absurd (omega (arith, less, above))
        ]
      ];
    }
  where
    up : (a b c : ℤ) (k l m : ℕ) → b ≡ a +ℤ pos k → c ≡ b +ℤ pos l → m ≡ k + l → c ≡ a +ℤ pos m
    up a b c k l m first then all = omega (arith, ints, first, then, all)

-- all got theirs
pub all_filled : (n : ℕ) (before items : List BlockHandle) (s t : CoreState) → length items ≤ n → length items ≡ length before
    → Filled n before items s t → TakesFrames n before items s t
all_filled n before items s t done long so =
    let all : n ≡ length before = omega (arith, done, long, so.taken.within) in record {
      taken = so.taken;
      enough = λ few. (all, so.enough (omega (arith, few, all)));
      rests = λ less. so.rests (omega (arith, less, all));
      fewer = λ less. absurd (omega (arith, less, all));
    }

-- as many are lent out where each zone lends the same and the same rests
lends_same : (t u : CoreState) → SharesOne t u → KeepsRest t u → EachLendsSame (zones_of t) t.core u.core
    → (z : ℕ) (x : Core) → z < zone_count (zones_of t) → lent_out_in u z x ≡ lent_out_in t z x
lends_same t u shared rest same z x within =
    let zones : zones_of u ≡ zones_of t = λ i. (arc_value (shared i)).zones in
    ap₂ (λ (zs : Zones) (fs : List SingleFrame). lent_by (core_at u.core z x) -ℤ pos (singles_in zs fs z)) zones rest
    ∙ ap (λ (l : ℤ). l -ℤ pos (singles_in (zones_of t) (resting_in t) z)) (same z (some_zone (zones_of t) z within) x within)

-- none was found behind them: nothing is lent or kept for it
record FindsNone (t u : CoreState) : Type 0 where
  none : resting_in t ≡ []
  why : FindsNoFrame t u ⊎ LosesFrame t u
  lent : EachLendsSame (zones_of t) t.core u.core
  kept : KeepsAllInEach t u

found_none : (h : BlockHandle) (status : ℕ) (t u : CoreState) → CarriesNothing h → RefusesFrameAs h status t u
    → FindsNone t u
found_none h status t u nothing refused = elim refused.1 as (λ _. FindsNone t u) [
  | inl live ↦ absurd (let f : false ≡ true = sym nothing ∙ live.1 in cc)
  | inr other ↦ elim other as (λ _. FindsNone t u) [
    | inl none ↦ record { none = none.1; why = inl none.2; lent = none.2.lent; kept = none.2.kept }
    | inr lost ↦ record { none = lost.1; why = inr lost.2; lent = lost.2.lent; kept = lost.2.kept }
  ]
]

-- the first n got theirs, and for the next one there was none
pub stopped_short : (n : ℕ) (before items : List BlockHandle) (h : BlockHandle) (status : ℕ) (s t u : CoreState)
    → n < length before → CarriesNothing h → Filled n before items s t → SharesOne t u → RefusesFrameAs h status t u
    → TakesFrames n before items s u
stopped_short n before items h status s t u less nothing so shared refused =
    let zones : zones_of t ≡ zones_of s = λ i. (arc_value (so.shared i)).zones in
    let why = found_none h status t u nothing refused in
    let empty : length (resting_in t) ≡ 0 = ap length why.none in
    record {
      taken = record {
        within = so.taken.within;
        each = so.taken.each;
        others = so.taken.others;
        lent = record {
          lent = λ z x within.
              lends_same t u shared refused.0 why.lent z x
              (subst (λ (zs : Zones). z < zone_count zs) (sym zones) within)
              ∙ so.taken.lent.lent z x within;
          kept = then_keeps s t u so.shared so.taken.lent.kept why.kept;
        };
      };
      enough = λ few. absurd (omega (arith, few, less, empty, (so.enough (omega (arith, few, less))).fewer));
      rests = λ _. omega (arith, empty, ap length refused.0);
      fewer = λ _. record {
        core = t;
        shared = so.shared;
        lent = so.taken.lent;
        none = why.none;
        none_then = refused.0 ∙ why.none;
        why = why.why;
      };
    }

-- the next struct is as it was
next_is : (n : ℕ) (before items : List BlockHandle) (d : BlockHandle) → drop n items ≡ drop n before
    → slice_index_or items n d ≡ slice_index_or before n d
next_is n before items d same =
    let at : n ≡ n + 0 = omega arith in
    ap (λ k. slice_index_or items k d) at ∙ sym (get_or-drop n items 0 d)
    ∙ ap (λ (hs : List BlockHandle). slice_index_or hs 0 d) same ∙ get_or-drop n before 0 d
    ∙ ap (λ k. slice_index_or before k d) (sym at)

-- the same where what was refused is written back
pub short_of : (n i : ℕ) (before items : List BlockHandle) (h d : BlockHandle) (status : ℕ) (s t u : CoreState) → n ≡ i
    → i < length items → length items ≡ length before → All CarriesNothing before → h ≡ slice_index_or items i d
    → Filled n before items s t → SharesOne t u → RefusesFrameAs (slice_index_or items i d) status t u
    → TakesFrames n before (set items i h) s u
short_of n i before items h d status s t u at inside long all same so shared refused =
    let back : set items i h ≡ items = ap (λ (g : BlockHandle). set items i g) same ∙ set-get_or items i d in
    let next : slice_index_or items i d ≡ slice_index_or before i d =
    next_is i before items d (subst (λ k. drop k items ≡ drop k before) at so.taken.others) in
    let nothing : CarriesNothing (slice_index_or items i d) =
    subst CarriesNothing (sym next) (all i d (omega (arith, inside, long))) in
    subst (λ (hs : List BlockHandle). TakesFrames n before hs s u) (sym back)
    (stopped_short n before items (slice_index_or items i d) status s t u (omega (arith, at, inside, long)) nothing so shared
    refused)

-- why it was
pub is_refusal : (n i : ℕ) (before items : List BlockHandle) (d : BlockHandle) (status : ℕ) (s t u : CoreState) → n ≡ i
    → i < length items → length items ≡ length before → All CarriesNothing before → Filled n before items s t
    → RefusesFrameAs (slice_index_or items i d) status t u → (status ≡ ok) ⊎ (status ≡ no_block) ⊎ (status ≡ contended)
is_refusal n i before items d status s t u at inside long all so refused =
    let next : slice_index_or items i d ≡ slice_index_or before i d =
    next_is i before items d (subst (λ k. drop k items ≡ drop k before) at so.taken.others) in
    let nothing : CarriesNothing (slice_index_or items i d) =
    subst CarriesNothing (sym next) (all i d (omega (arith, inside, long))) in
    elim refused.1 as (λ _. (status ≡ ok) ⊎ (status ≡ no_block) ⊎ (status ≡ contended)) [
      | inl live ↦ absurd (let f : false ≡ true = sym nothing ∙ live.1 in cc)
      | inr other ↦ elim other as (λ _. (status ≡ ok) ⊎ (status ≡ no_block) ⊎ (status ≡ contended)) [
        | inl none ↦ inr (inl none.0)
        | inr lost ↦ inr (inr lost.0)
      ]
    ]

-- the first n structs gave their frames
pub record Given (n : ℕ) (before after : List BlockHandle) (s t : CoreState) : Type 0 where
  pub shared : SharesOne s t
  pub empty : All CarriesNothing (take n after)
  pub others : drop n after ≡ drop n before
  pub lent : LendsTheseNoMore (take n before) s t
  pub room : length (resting_in s) + n ≤ most_resting → RestMore n s t
  pub full : most_resting < length (resting_in s) + n → most_resting < length (resting_in t) + flush_frames

-- none did yet
pub none_given : (hs : List BlockHandle) (s : CoreState) → Given 0 hs hs s s
none_given hs s =
    let left : (l : ℤ) → l ≡ l -ℤ pos 0 = λ l. omega (arith, ints) in record {
      shared = refl;
      empty = All-nil CarriesNothing;
      others = refl;
      lent = record { lent = λ z x within. left (lent_out_in s z x); kept = λ z a x within. refl };
      room = λ few. record { more = omega arith; core = refl };
      full = λ many. absurd (omega (arith, many, s.rest.few));
    }

-- a single frame is never refused
pub is_given : (h : BlockHandle) (status : ℕ) (t u : CoreState) → CarriesSingle h
    → (status ≡ ok) ⊎ (status ≡ bad_order) ⊎ (status ≡ not_held) → (status ≢ ok → KeepsFrameAs h status t u) → status ≡ ok
is_given h status t u single known kept = elim known as (λ _. status ≡ ok) [
  | inl given ↦ given
  | inr other ↦
      let wrong : status ≢ ok = λ e. elim other as (λ _. ⊥) [
        | inl order ↦ absurd (omega (arith, order, e))
        | inr held ↦ absurd (omega (arith, held, e))
      ] in
      elim (kept wrong).2 as (λ _. status ≡ ok) [
        | inl none ↦ absurd (let f : false ≡ true = sym none.1 ∙ single.0 in cc)
        | inr large ↦ absurd (omega (arith, large.1, single.1))
      ]
]

-- the next one is still of the allocator
pub still_out : (n : ℕ) (before items : List BlockHandle) (d : BlockHandle) (s t : CoreState) → n < length items
    → length items ≡ length before → All (IsEmptyOrOut s) before → Given n before items s t
    → IsEmptyOrOut t (slice_index_or items n d)
still_out n before items d s t inside long all so live =
    let h : BlockHandle = slice_index_or items n d in
    let was : IsEmptyOrOut s h = subst (IsEmptyOrOut s) (sym (next_is n before items d so.others)) (all n d (omega (arith, inside, long)))
    in out_still t s h (sym so.shared) (was live)

-- and has a single frame
pub still_single : (n : ℕ) (before items : List BlockHandle) (d : BlockHandle) (s t : CoreState) → n < length items
    → length items ≡ length before → All CarriesSingle before → Given n before items s t
    → CarriesSingle (slice_index_or items n d)
still_single n before items d s t inside long all so =
    subst CarriesSingle (sym (next_is n before items d so.others)) (all n d (omega (arith, inside, long)))

-- one more gave its own
pub one_given : (n : ℕ) (before items : List BlockHandle) (h empty d : BlockHandle) (s t u : CoreState) → n < length items
    → length items ≡ length before → h ≡ slice_index_or items n d → CarriesNothing empty → Given n before items s t
    → SharesOne t u → GivesFrame h.frame t u → Given (n + 1) before (set items n empty) s u
one_given n before items h empty d s t u inside long at nothing so shared gave =
    let is : h ≡ slice_index_or before n d = at ∙ next_is n before items d so.others in
    let zones : zones_of t ≡ zones_of s = λ i. (arc_value (so.shared i)).zones in
    let next : take (n + 1) (set items n empty) ≡ take n items ++ empty ∷ [] = take_more_set items n empty inside in
    let more : take (n + 1) before ≡ take n before ++ h ∷ [] =
    take_more before n d (omega (arith, inside, long)) ∙ ap (λ (g : BlockHandle). take n before ++ g ∷ []) (sym is) in
    record {
      shared = shared ∙ so.shared;
      empty = All-same CarriesNothing (take (n + 1) (set items n empty)) (take n items ++ empty ∷ []) next
          (All-push CarriesNothing (take n items) empty so.empty nothing);
      others = drop-set-lt (n + 1) items n empty (omega arith) ∙ behind_one n items before so.others;
      lent = record {
        lent = λ z x within.
            down (lent_out_in s z x) (lent_out_in t z x) (lent_out_in u z x) (carried_in (zones_of s) (take n before) z)
            (one_in (zones_of s) z h.frame) (carried_in (zones_of s) (take (n + 1) before) z)
            (so.lent.lent z x within)
            (gave.lent.lent z x (subst (λ (zs : Zones). z < zone_count zs) (sym zones) within)
            ∙ ap (λ (zs : Zones). lent_out_in t z x -ℤ pos (one_in zs z h.frame)) zones)
            (carried_more (zones_of s) (take n before) (take (n + 1) before) h z more);
        kept = then_keeps s t u so.shared so.lent.kept gave.lent.kept;
      };
      room = λ few.
          let was = so.room (omega (arith, few)) in
          let rests = gave.rests (omega (arith, few, was.more)) in
          record { more = omega (arith, was.more, rests.one); core = rests.core ∙ was.core };
      full = λ many. elim (cases_order (length (resting_in t)) most_resting) as (λ _. most_resting < length (resting_in u) + flush_frames) [
        | inl same ↦ omega (arith, gave.full same)
        | inr other ↦ elim other as (λ _. most_resting < length (resting_in u) + flush_frames) [
          | inl below ↦ elim (cases_order (length (resting_in s) + n) most_resting) as (λ _. most_resting < length (resting_in u) + flush_frames) [
            | inl same ↦ absurd (omega (arith, below, same, (so.room (omega (arith, same))).more))
            | inr order ↦ elim order as (λ _. most_resting < length (resting_in u) + flush_frames) [
              | inl less ↦ absurd (omega (arith, less, many))
              | inr past ↦ omega (arith, so.full past, (gave.rests below).one)
            ]
          ]
          | inr above ↦ absurd (omega (arith, above, t.rest.few))
        ]
      ];
    }
  where
    down : (a b c : ℤ) (k l m : ℕ) → b ≡ a -ℤ pos k → c ≡ b -ℤ pos l → m ≡ k + l → c ≡ a -ℤ pos m
    down a b c k l m first then all = omega (arith, ints, first, then, all)

-- all gave theirs
pub all_given : (n : ℕ) (before items : List BlockHandle) (s t : CoreState) → length items ≤ n → length items ≡ length before
    → n ≤ length items → All CarriesSingle before → Given n before items s t → GivesFrames before items s t
all_given n before items s t done long within singles so =
    let all : n ≡ length before = omega (arith, done, long, within) in record {
      singles = singles;
      empty = All-same CarriesNothing items (take n items) (sym (take_all n items done)) so.empty;
      lent = subst (λ (hs : List BlockHandle). LendsTheseNoMore hs s t) (take_all n before (omega (arith, all))) so.lent;
      room = λ few. subst (λ k. RestMore k s t) all (so.room (omega (arith, few, all)));
      full = λ many. so.full (omega (arith, many, all));
    }
