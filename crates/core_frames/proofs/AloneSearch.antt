-- What the search finds and leaves where nobody else steps, from what its parts do.
use Rattle.std.proofs.Common.{◌≡◌, ◌≢◌, ◌⊎◌, inl, inr, ⊎_elim, ℕ, ◌+◌, ◌-◌, ◌%◌, ◌^◌, ◌<◌, ◌≤◌, List, length, get_or, set, Option, None}
use Rattle.std.proofs.Common.{Some, refl, ap, sym, subst, ◌∙◌, arith}
use Rattle.std.specs.Prelude.{IfSome, Bool, true, false, not, ◌||◌, slice_index}
use Rattle.std.specs.Option.{is_some}
use Rattle.std.proofs.lemmas.Bool.{cases_lt, cases_eq}
use Rattle.std.proofs.Math.ListN.{length-set}
use Rattle.std.proofs.lemmas.List.{set-set, set-get_or, get_or-set_same, get_or-set_other, get_or_past}
use Rattle.frame_words.specs.Words.{entry_word, free_in, flag_in, rest_in, local_word}
use Rattle.frame_words.proofs.WordLemmas.{rest_in-local_none, rest_in-zero}
use Rattle.frame_model.specs.declared.key.Key.{Key}
use Rattle.frame_model.specs.declared.view.View.{View}
use Rattle.frame_model.specs.Key.{tree_count}
use Rattle.frame_model.specs.Words.{tree_place, local_place, word_count, tree_word_of, tree_free_of, reserved_of, rest_of, AreInRange}
use Rattle.frame_model.specs.Steps.{Kind, place, reserve, unreserve, swap_local, words_after}
use Rattle.frame_core.specs.Moves.{Changes, Exchanges}
use Rattle.frame_model.specs.View.{IsIdle}
use Rattle.frame_model.proofs.Words.{tree-lt-local}
use Rattle.frame_model.proofs.Steps.Shared.{free_is, flag_is, tree_free_is, reserved_is, rest_of_is}
use Rattle.low_frames.specs.Alone.{Turns, FindsOf, HasNoneOfTree}
use Rattle.low_frames.proofs.AloneLemmas.{if_known, at_known, IsFirstTry, IsSeen, exchange_made, made_first, then_found}
use Rattle.low_frames.proofs.RoomLemmas.{FitsAlone, range_alone}
use Rattle.core_frames.specs.Alone.{SameFrames, KeepsFrames, IsPassedBy, IsReserved, WasTried, WereTried, IsDrainedOf, IsDrained}
use Rattle.core_frames.specs.Alone.{FindsNoBlock}
use Rattle.core_frames.proofs.KeptFrames.{IsUpper, upper_tree, upper_local, kept_after, same_frames, same_held, frames_then, turns_then}
use Rattle.core_frames.proofs.KeptFrames.{turns_as, covered_inside}
use Rattle.core_frames.proofs.Exhausted.{exhausted}

-- where nobody else steps, no try is lost
pub none_lost : (i : ℕ) (P : List ℕ → Type 0) (old now : Option (List ℕ)) → 0 < i → IsFirstTry i old now → FindsOf P old now
none_lost i P None now h first = tt
none_lost i P (Some ws) now h first = absurd (omega (arith, h, first.0))

-- and an exchange is not lost
pub lost_first : (key : Key) (kind : Kind) (seen j : ℕ) (old now new : Option (List ℕ)) → IsSeen (place key kind) seen old now
    → Exchanges key kind seen false now new → IsFirstTry j old new
lost_first key kind seen j None now new load exchange = tt
lost_first key kind seen j (Some ws) now new load exchange =
    let e : false ≡ true = (exchange_made key kind seen false ws now new load.1 load.0 exchange).0 in absurd (cc)

-- what a swap leaves of the words
pub swap_changes : (key : Key) (kind : Kind) (A : List ℕ → Type 0) (old new : Option (List ℕ))
    → IfSome old (λ ws. A ws × Changes key kind (Some ws) new) → Changes key kind old new
swap_changes key kind A None new h = tt
swap_changes key kind A (Some ws) new h = h.1

-- Reservations.

tree_word_is : (key : Key) (ws : List ℕ) (t : ℕ) → tree_word_of key ws t ≡ get_or ws (tree_place key t) 0
unfolding tree_word_of
tree_word_is key ws t = refl

-- a reservation at the first try
pub reserved_first : (key mid was : Key) (tree seen free : ℕ) (made : Bool) (old now new : Option (List ℕ)) → key ≡ mid → mid ≡ was
    → free ≡ free_in seen → flag_in seen ≡ 0 → IsSeen (tree_place mid tree) seen old now
    → Exchanges key (reserve tree seen) seen made now new → Turns (IsReserved was tree free) old new
reserved_first key mid was tree seen free made old now new k j is flag load made_if =
    if_known old (λ ws. (slice_index ws (tree_place key tree) ≡ seen) × (new ≡ Some (words_after key (reserve tree seen) ws)))
    (λ ws. (us : List ℕ) × ((new ≡ Some us) × IsReserved was tree free ws us))
    (made_first key (reserve tree seen) seen made old now new (subst (λ i. IsSeen (tree_place i tree) seen old now) (sym k) load) made_if)
    (λ ws e h.
    let there : get_or ws (tree_place was tree) 0 ≡ seen = ap (λ (i : Key). get_or ws (tree_place i tree) 0) (sym (k ∙ j)) ∙ h.0 in (
      words_after key (reserve tree seen) ws,
      (
        h.1,
        record {
          no_flag = reserved_is was ws tree ∙ ap flag_in there ∙ flag;
          all = tree_free_is was ws tree ∙ ap free_in there ∙ sym is;
          words = ap (λ i. words_after i (reserve tree seen) ws) (k ∙ j)
              ∙ ap (λ s. words_after was (reserve tree s) ws) (sym (tree_word_is was ws tree ∙ there));
        },
      ),
    ))

-- a tree word that is reserved, or counts too few or too many
pub passed_first : (mid was : Key) (tree seen free least most : ℕ) (old now : Option (List ℕ)) → mid ≡ was → free ≡ free_in seen
    → (0 < flag_in seen) ⊎ ((free < least) ⊎ (most < free)) → IsSeen (tree_place mid tree) seen old now
    → FindsOf (IsPassedBy was tree least most) old now
passed_first mid was tree seen free least most old now j is why load =
    if_known old (λ ws. (slice_index ws (tree_place mid tree) ≡ seen) × (now ≡ Some ws))
    (λ ws. (now ≡ Some ws) × IsPassedBy was tree least most ws) load
    (λ ws e h.
    let there : get_or ws (tree_place was tree) 0 ≡ seen = ap (λ (i : Key). get_or ws (tree_place i tree) 0) (sym j) ∙ h.0 in
    let flag : reserved_of was ws tree ≡ flag_in seen = reserved_is was ws tree ∙ ap flag_in there in
    let count : tree_free_of was ws tree ≡ free = tree_free_is was ws tree ∙ ap free_in there ∙ sym is in (
      h.1,
      ⊎_elim
          (λ (f : 0 < flag_in seen). inl (omega (arith, f, flag)))
          (λ counts. inr (⊎_elim (λ (f : free < least). inl (omega (arith, f, count)))
          (λ (f : most < free). inr (omega (arith, f, count))) counts))
          why,
    ))

-- a reservation that is ended leaves the words as they were
unreserve_back : (key : Key) (ws us : List ℕ) (tree free : ℕ) → AreInRange key ws → tree < tree_count key → IsReserved key tree free ws us
    → words_after key (unreserve tree free) us ≡ ws
unfolding tree_place word_count entry_word
unreserve_back key ws us tree free r inside is =
    let p : ℕ = tree_place key tree in
    let seen : ℕ = tree_word_of key ws tree in
    let was : get_or ws p 0 ≡ seen = sym (tree_word_is key ws tree) in
    let room : p < length ws = omega (arith, r.count) in
    let found : get_or us p 0 ≡ 32768 = ap (λ (l : List ℕ). get_or l p 0) is.words ∙ get_or-set_same ws p 32768 0 room in
    let whole : seen ≡ free = omega (
      arith,
      is.no_flag,
      is.all,
      reserved_is key ws tree,
      tree_free_is key ws tree,
      free_is (get_or ws p 0),
      flag_is (get_or ws p 0),
      was,
    ) in
    let few : free ≤ 4096 = omega (arith, is.all, r.tree_free tree inside) in
    let value : (get_or us p 0 + (2 ^ 64 - (32768 - free))) % 2 ^ 64 ≡ get_or ws p 0 = omega (arith, found, few, whole, was) in
    ap (set us p) value ∙ ap (λ (l : List ℕ). set l p (get_or ws p 0)) is.words ∙ set-set ws p 32768 (get_or ws p 0) ∙ set-get_or ws p 0

pub reserved_keeps : (key : Key) (tree free : ℕ) (old new : Option (List ℕ))
    → tree < tree_count key → Turns (IsReserved key tree free) old new
    → KeepsFrames key old new
reserved_keeps key tree free None new h a = tt
reserved_keeps key tree free (Some ws) new h a = (
  a.0,
  (
    a.1.0,
    subst (SameFrames key ws) (sym a.1.1.words)
        (kept_after key (reserve tree (tree_word_of key ws tree)) ws (upper_tree key tree h)),
  ),
)

-- Trees, one after the other.

-- what was passed by was tried
pub passed_tried : (key : Key) (order least most tree : ℕ) (old new : Option (List ℕ)) → FindsOf (IsPassedBy key tree least most) old new
    → FindsOf (WasTried key order least most tree) old new
passed_tried key order least most tree None new a = tt
passed_tried key order least most tree (Some ws) new a = (a.0, inl a.1)

-- what is free in a tree is free before steps that leave the frames as they were
none_before : (key : Key) (ws us : List ℕ) (tree order : ℕ) → SameFrames key ws us → HasNoneOfTree key tree order us
    → HasNoneOfTree key tree order ws
none_before key ws us tree order same none b is free =
    none b is (λ x e. same_held key ws us x same (covered_inside key b x is.is_block e) ∙ free x e)

-- a tree that was reserved, in which there was no block, and that is reserved no more
pub reserved_tried : (A : Type 0) (key mid now : Key) (v : View) (order least most tree free : ℕ) (old one two new : Option (List ℕ))
    → ((ws : List ℕ) → old ≡ Some ws → FitsAlone A key ws v) → mid ≡ key → now ≡ key → tree < tree_count key
    → Turns (IsReserved key tree free) old one → FindsOf (HasNoneOfTree mid tree order) one two → Changes now (unreserve tree free) two new
    → FindsOf (WasTried key order least most tree) old new
reserved_tried A key mid now v order least most tree free None one two new fits k j inside reserved none back = tt
reserved_tried A key mid now v order least most tree free (Some ws) one two new fits k j inside reserved none back =
    let us : List ℕ = reserved.0 in
    let f = at_known one (λ us. (two ≡ Some us) × HasNoneOfTree mid tree order us) us reserved.1.0 none in
    let b = at_known two (λ us. new ≡ Some (words_after now (unreserve tree free) us)) us f.0 back in
    let same : SameFrames key ws us = subst (SameFrames key ws) (sym reserved.1.1.words)
    (kept_after key (reserve tree (tree_word_of key ws tree)) ws (upper_tree key tree inside)) in (
      b ∙ ap (λ i. Some (words_after i (unreserve tree free) us)) j
          ∙ ap Some (unreserve_back key ws us tree free (range_alone A key ws v (fits ws refl)) inside reserved.1.1),
      inr (none_before key ws us tree order same (subst (λ i. HasNoneOfTree i tree order us) k f.1)),
    )

-- one tree more
pub tried_more : (key now : Key) (E : Type 0) (order from i least most : ℕ) (old mid new : Option (List ℕ)) → now ≡ key
    → (E → (least ≡ 2 ^ order) × (most ≡ 4096)) → FindsOf (λ ws. E → WereTried key order from i ws) old mid
    → FindsOf (WasTried now order least most i) mid new → FindsOf (λ ws. E → WereTried key order from (i + 1) ws) old new
tried_more key now E order from i least most old mid new k bounds below here =
    then_found (λ ws. E → WereTried key order from i ws) (WasTried now order least most i) (λ ws. E → WereTried key order from (i + 1) ws)
    old mid new
    (λ ws were was e t l h.
    ⊎_elim
    (λ (low : t < i). were e t l low)
    (λ high. subst (λ j. WasTried key order (2 ^ order) 4096 j ws) (omega (arith, high, h))
    (subst (λ m. WasTried key order (2 ^ order) m i ws) (bounds e).1
    (subst (λ n. WasTried key order n most i ws) (bounds e).0 (subst (λ j. WasTried j order least most i ws) k was))))
    (cases_lt t i))
    below here

-- as far as was tried
pub tried_as_far : (key : Key) (E : Type 0) (order from i to : ℕ) (old new : Option (List ℕ)) → to ≤ i
    → FindsOf (λ ws. E → WereTried key order from i ws) old new → FindsOf (λ ws. E → WereTried key order from to ws) old new
tried_as_far key E order from i to None new h a = tt
tried_as_far key E order from i to (Some ws) new h a = (a.0, λ e t l q. a.1 e t l (omega arith))

-- up to a tree, and on from it
pub tried_on : (key mid : Key) (E : Type 0) (order from i to : ℕ) (old one two : Option (List ℕ)) → mid ≡ key
    → FindsOf (λ ws. E → WereTried key order from i ws) old one → FindsOf (λ ws. E → WereTried mid order i to ws) one two
    → FindsOf (λ ws. E → WereTried key order from to ws) old two
tried_on key mid E order from i to old one two k low high =
    then_found (λ ws. E → WereTried key order from i ws) (λ ws. E → WereTried mid order i to ws)
    (λ ws. E → WereTried key order from to ws) old one two
    (λ ws a b e t l h.
    ⊎_elim
    (λ (below : t < i). a e t l below)
    (λ above. subst (λ j. WasTried j order (2 ^ order) 4096 t ws) k (b e t above h))
    (cases_lt t i))
    low high

-- from the core's first tree on, and up to it
pub tried_all : (key mid : Key) (E : Type 0) (order start trees : ℕ) (old one two : Option (List ℕ)) → mid ≡ key → trees ≡ tree_count key
    → FindsOf (λ ws. E → WereTried key order start trees ws) old one → FindsOf (λ ws. E → WereTried mid order 0 start ws) one two
    → FindsOf (λ ws. E → WereTried key order 0 (tree_count key) ws) old two
tried_all key mid E order start trees old one two k all high low =
    then_found (λ ws. E → WereTried key order start trees ws) (λ ws. E → WereTried mid order 0 start ws)
    (λ ws. E → WereTried key order 0 (tree_count key) ws) old one two
    (λ ws a b e t l h.
    ⊎_elim
    (λ (below : t < start). subst (λ i. WasTried i order (2 ^ order) 4096 t ws) k (b e t l below))
    (λ above. a e t above (omega (arith, h, all)))
    (cases_lt t start))
    high low

-- The drain.

-- each frame is held or free as before, and the cores below one have no reservation
pub record IsDrainedBelow (key : Key) (core : ℕ) (old new : List ℕ) : Type 0 where
  pub frames : SameFrames key old new
  pub below : (k : ℕ) → k < core → k < key.cores → rest_of key new k ≡ None

pub drained_more : (key now : Key) (core : ℕ) (old mid new : Option (List ℕ)) → now ≡ key → Turns (IsDrainedBelow key core) old mid
    → Turns (IsDrainedOf now core) mid new → Turns (IsDrainedBelow key (core + 1)) old new
drained_more key now core old mid new k below here =
    turns_then (IsDrainedBelow key core) (IsDrainedOf key core) (IsDrainedBelow key (core + 1)) old mid new
    (λ ws us vs a b. record {
      frames = frames_then key ws us vs a.frames b.frames;
      below = λ i h l.
          ⊎_elim
          (λ (e : i ≡ core). ap (rest_of key vs) e ∙ b.nothing_rests)
          (λ ne. b.others i l ne ∙ a.below i (omega arith) l)
          (cases_eq i core);
    })
    below (subst (λ i. Turns (IsDrainedOf i core) mid new) k here)

pub drained_all : (key : Key) (cores : ℕ) (old new : Option (List ℕ)) → key.cores ≤ cores → Turns (IsDrainedBelow key cores) old new
    → Turns (IsDrained key) old new
drained_all key cores None new h a = tt
drained_all key cores (Some ws) new h a =
    (a.0, (a.1.0, record { frames = a.1.1.frames; nothing_rests = λ k l. a.1.1.below k (omega arith) l }))

-- a load leaves the words
pub seen_leaves : (place seen : ℕ) (old new : Option (List ℕ)) → IsSeen place seen old new → IfSome old (λ ws. new ≡ Some ws)
seen_leaves place seen None new load = tt
seen_leaves place seen (Some ws) new load = load.1

-- twice nothing was written
pub leaves_twice : (old mid new : Option (List ℕ)) → IfSome old (λ ws. mid ≡ Some ws) → IfSome mid (λ ws. new ≡ Some ws)
    → IfSome old (λ ws. new ≡ Some ws)
leaves_twice None mid new a b = tt
leaves_twice (Some ws) mid new a b = at_known mid (λ us. new ≡ Some us) ws a b

-- both of two are false where one of them or the other is not true
pub or_left : (x y : Bool) → (x || y) ≡ false → x ≡ false
or_left false y e = refl
or_left true y e = absurd (cc)

pub or_right : (x y : Bool) → (x || y) ≡ false → y ≡ false
or_right false y e = e
or_right true y e = absurd (cc)

-- what is none
pub is_nothing : (o : Option (ℕ × ℕ)) (b : Bool) → is_some o ≡ not b → b ≡ true → o ≡ None
is_nothing None b e t = refl
is_nothing (Some r) b e t = let f : true ≡ false = e ∙ ap not t in absurd (cc)

-- the local word of the core tells no reservation
pub nothing_there : (mid was : Key) (core seen : ℕ) (old new : Option (List ℕ)) → mid ≡ was → rest_in seen ≡ None
    → IsSeen (local_place mid core) seen old new → Turns (IsDrainedOf was core) old new
nothing_there mid was core seen None new j is load = tt
nothing_there mid was core seen (Some ws) new j is load = (
  ws,
  (
    load.1,
    record {
      frames = same_frames was ws;
      nothing_rests = rest_of_is was ws core ∙ ap rest_in (ap (λ (i : Key). get_or ws (local_place i core) 0) (sym j) ∙ load.0) ∙ is;
      others = λ k h ne. refl;
    },
  ),
)

empty_there : (ws : List ℕ) (p : ℕ) → rest_in (get_or (set ws p (local_word None)) p 0) ≡ None
empty_there ws p =
    ⊎_elim
    (λ (h : p < length ws). ap rest_in (get_or-set_same ws p (local_word None) 0 h) ∙ rest_in-local_none)
    (λ (h : length ws ≤ p). ap rest_in (get_or_past (set ws p (local_word None)) p 0 (omega (arith, length-set ws p (local_word None))))
    ∙ rest_in-zero)
    (cases_lt p (length ws))

local_apart : (key : Key) (j k : ℕ) → j ≢ k → local_place key j ≢ local_place key k
unfolding local_place
local_apart key j k ne e = ne (omega arith)

-- an emptied local word
pub emptied : (now was : Key) (core : ℕ) (old new : Option (List ℕ))
    → now ≡ was → core < was.cores → Changes now (swap_local core None) old new
    → Turns (IsDrainedOf was core) old new
emptied now was core None new k h a = tt
emptied now was core (Some ws) new k h a =
    let us : List ℕ = words_after was (swap_local core None) ws in (
      us,
      (
        a ∙ ap (λ i. Some (words_after i (swap_local core None) ws)) k,
        record {
          frames = kept_after was (swap_local core None) ws (upper_local was core h);
          nothing_rests = rest_of_is was us core ∙ empty_there ws (local_place was core);
          others = λ j l ne. rest_of_is was us j
              ∙ ap rest_in (get_or-set_other ws (local_place was core) (local_place was j) (local_word None) 0 (local_apart was j core ne))
              ∙ sym (rest_of_is was ws j);
        },
      ),
    )

-- after a load
pub loaded_then : (R : List ℕ → List ℕ → Type 0) (place seen : ℕ) (old mid new : Option (List ℕ)) → IsSeen place seen old mid
    → Turns R mid new → Turns R old new
loaded_then R place seen None mid new load a = tt
loaded_then R place seen (Some ws) mid new load a = subst (λ o. Turns R o new) load.1 a

-- the reservation that came out is ended
pub drained_then : (key now : Key) (core : ℕ) (kind : Kind) (tree : ℕ) (old mid new : Option (List ℕ)) → now ≡ key → tree < tree_count key
    → place key kind ≡ tree_place key tree → Turns (IsDrainedOf key core) old mid → Changes now kind mid new
    → Turns (IsDrainedOf key core) old new
drained_then key now core kind tree None mid new k h at a b = tt
drained_then key now core kind tree (Some ws) mid new k h at a b =
    let us : List ℕ = a.0 in
    let vs : List ℕ = words_after key kind us in
    let e = at_known mid (λ us. new ≡ Some (words_after now kind us)) us a.1.0 b in
    let up : IsUpper key (place key kind) = inl (tree, (h, at)) in
    let rest_still : (j : ℕ) → rest_of key vs j ≡ rest_of key us j = (λ j. rest_of_is key vs j
    ∙ ap rest_in (get_or-set_other us (place key kind) (local_place key j) _ 0 (λ e. omega (arith, e, at, tree-lt-local key tree j h)))
    ∙ sym (rest_of_is key us j)) in (
      vs,
      (
        e ∙ ap (λ i. Some (words_after i kind us)) k,
        record {
          frames = frames_then key ws us vs a.1.1.frames (kept_after key kind us up);
          nothing_rests = rest_still core ∙ a.1.1.nothing_rests;
          others = λ j l ne. rest_still j ∙ a.1.1.others j l ne;
        },
      ),
    )

pub drained_keeps : (key now : Key) (old new : Option (List ℕ)) → now ≡ key → Turns (IsDrained now) old new → KeepsFrames key old new
drained_keeps key now old new k a =
    turns_as (IsDrained key) (SameFrames key) old new (λ ws us d. d.frames) (subst (λ i. Turns (IsDrained i) old new) k a)

-- The end of the search.

pub none_left : (A E : Type 0) (key : Key) (v : View) (order : ℕ) (old one two new : Option (List ℕ))
    → ((ws : List ℕ) → two ≡ Some ws → FitsAlone A key ws v) → A → IsIdle v → E → KeepsFrames key old one
    → Turns (IsDrained key) one two → FindsOf (λ ws. E → WereTried key order 0 (tree_count key) ws) two new
    → Turns (FindsNoBlock key order) old new
none_left A E key v order None one two new fits alone idle e keeps drained tried = tt
none_left A E key v order (Some ws) one two new fits alone idle e keeps drained tried =
    let us : List ℕ = keeps.0 in
    let d = at_known one (λ us. (vs : List ℕ) × ((two ≡ Some vs) × IsDrained key us vs)) us keeps.1.0 drained in
    let vs : List ℕ = d.0 in
    let t = at_known two (λ vs. (new ≡ Some vs) × (E → WereTried key order 0 (tree_count key) vs)) vs d.1.0 tried in (
      vs,
      (
        t.0,
        record {
          frames = frames_then key ws us vs keeps.1.1 d.1.1.frames;
          none = exhausted A key vs v (fits vs d.1.0) alone idle d.1.1.nothing_rests order (t.1 e);
        },
      ),
    )

-- nothing rested: the pass before the drain tried the words that stand there
pub none_left_before : (A E : Type 0) (key : Key) (v : View) (order : ℕ) (old mid one new : Option (List ℕ))
    → ((ws : List ℕ) → new ≡ Some ws → FitsAlone A key ws v) → A → IsIdle v → E → KeepsFrames key old mid
    → FindsOf (λ ws. E → WereTried key order 0 (tree_count key) ws) mid one
    → Turns (IsDrained key) one new → IfSome one (λ ws. new ≡ Some ws) → Turns (FindsNoBlock key order) old new
none_left_before A E key v order None mid one new fits alone idle e keeps tried drained same = tt
none_left_before A E key v order (Some ws) mid one new fits alone idle e keeps tried drained same =
    let us : List ℕ = keeps.0 in
    let t = at_known mid (λ us. (one ≡ Some us) × (E → WereTried key order 0 (tree_count key) us)) us keeps.1.0 tried in
    let there : new ≡ Some us = at_known one (λ us. new ≡ Some us) us t.0 same in
    let d = at_known one (λ us. (vs : List ℕ) × ((new ≡ Some vs) × IsDrained key us vs)) us t.0 drained in
    let vs : List ℕ = d.0 in
    let is : us ≡ vs = (cc) in (
      vs,
      (
        d.1.0,
        record {
          frames = frames_then key ws us vs keeps.1.1 d.1.1.frames;
          none = exhausted A key vs v (fits vs d.1.0) alone idle d.1.1.nothing_rests order
              (subst (WereTried key order 0 (tree_count key)) is (t.1 e));
        },
      ),
    )

-- a search of which the first part kept the frames
pub found_none_then : (key now : Key) (order : ℕ) (old one new : Option (List ℕ)) → now ≡ key → KeepsFrames key old one
    → Turns (FindsNoBlock now order) one new → Turns (FindsNoBlock key order) old new
found_none_then key now order None one new same keeps none = tt
found_none_then key now order (Some ws) one new same keeps none =
    let us : List ℕ = keeps.0 in
    let as_key = subst (λ k. Turns (FindsNoBlock k order) one new) same none in
    let t = at_known one (λ us. (vs : List ℕ) × ((new ≡ Some vs) × FindsNoBlock key order us vs)) us keeps.1.0 as_key in
    (t.0, (t.1.0, record { frames = frames_then key ws us t.0 keeps.1.1 t.1.1.frames; none = t.1.1.none }))
