-- What was read of the entries of the children, word by word, and what it counts where nobody else steps.
use Rattle.std.proofs.Common.{◌≡◌, ⊎_elim, ℕ, zero, suc, ◌+◌, ◌-◌, ◌*◌, ◌/◌, ◌^◌, ◌<◌, ◌≤◌, min, List, ◌∷◌, Option, Some}
use Rattle.std.proofs.Common.{refl, ap, sym, subst, ◌∙◌, arith}
use Rattle.std.specs.Prelude.{IfSome, slice_index, nat_eq, if◌then◌else◌}
use Rattle.std.specs.List.{sum_by, range_with_len}
use Rattle.std.proofs.Math.Logic.{∥∥₁_elim}
use Rattle.std.proofs.Math.Nat.{ℕ_set}
use Rattle.std.proofs.lemmas.Bool.{cases_lt}
use Rattle.std.proofs.lemmas.Bool.Decides.{nat_tests}
use Rattle.frame_model.specs.declared.key.Key.{Key}
use Rattle.frame_model.specs.declared.place.Place.TheVariants.{Entry}
use Rattle.frame_model.specs.declared.view.View.{View}
use Rattle.frame_core.specs.Mover.{Mover, Keeps, Loads}
use Rattle.frame_model.specs.Key.{frame_count}
use Rattle.frame_model.specs.Report.{held_at, held_within, clear_at, clear_within, free_frames, clear_blocks}
use Rattle.frame_model.specs.Steps.{next}
use Rattle.frame_model.specs.View.{charged_in, count_in, IsIdle}
use Rattle.frame_model.specs.Words.{bit_of, entry_place, entry_word_count, entry_of, free_of, huge_of, held_of}
use Rattle.frame_model.proofs.Amounts.{count_none}
use Rattle.frame_model.proofs.ReportLemmas.{held_within-child, held_frames-all, range_le, range_ones}
use Rattle.frame_model.proofs.Steps.Shared.{free_is, flag_is, past_set}
use Rattle.frame_model.proofs.Words.{held_is}
use Rattle.low_frames.specs.Takes.{IsAsBefore}
use Rattle.low_frames.proofs.AloneLemmas.{if_known, at_known}
use Rattle.low_frames.proofs.RoomLemmas.{FitsAlone, entries_alone, range_alone}
use Rattle.low_frames.proofs.TakeLemmas.{keeps_both}
use Rattle.core_frames.specs.declared.free_counts.FreeCounts.{FreeCounts}
use Rattle.core_frames.specs.FreeCounts.{free_at, is_whole, shows_whole, word_read, entry_read, frames_read, huge_read, AreExact, after_loads, LooksOver}
use Rattle.core_frames.proofs.PlainSums.{range_cons, range_same, range_parts}

-- The entries of a word, one after another.

pub range_last : (f : ℕ → ℕ) (a c : ℕ) → a ≤ c
    → sum_by f (range_with_len a (c + 1 - a)) ≡ sum_by f (range_with_len a (c - a)) + f c
range_last f a c h =
    let more : c + 1 - a ≡ c - a + 1 = omega (arith, h) in
    let place : a + (c - a) ≡ c = omega (arith, h) in
    let one : sum_by f (range_with_len c 1) ≡ f c = range_cons f c 0 ∙ omega arith in
    omega (
      arith,
      ap (λ k. sum_by f (range_with_len a k)) more,
      range_parts f a (c - a) 1,
      ap (λ k. sum_by f (range_with_len k 1)) place,
      one,
    )

-- The words, one after another.

-- the children whose entries stand in the first words
abbrev pub entries_in : Key → ℕ → ℕ
entries_in key words = min (4 * words) key.children

-- the words are as they were, and so many entries were read as they stand
abbrev AreRead : ℕ → (ℕ → Option ℕ) → List ℕ → Type 0
AreRead n read ws = (c : ℕ) → c < n → read (entry_place c) ≡ Some (slice_index ws (entry_place c))

abbrev AreReadStill : ℕ → (ℕ → Option ℕ) → Option (List ℕ) → List ℕ → Type 0
AreReadStill n read now ws = (now ≡ Some ws) × AreRead n read ws

-- so many words were loaded, and the counts are as was read
pub record LooksBelow {T H : Type 0} (t : ℕ → ℕ) (i f h : ℕ) (old new : Mover T H) : Type 0 where
  pub keeps : Keeps old new
  pub missed : new.missed ≡ old.missed
  pub view : new.view ≡ after_loads t i old.view
  pub each : (c : ℕ) → c < entries_in old.key i → (word : ℕ) × (new.read (entry_place c) ≡ Some word)
  pub frames : f ≡ frames_read new.read (entries_in old.key i)
  pub huge : h ≡ huge_read new.read (entries_in old.key i)
  pub alone : old.is_alone → IfSome old.words (AreReadStill (entries_in old.key i) new.read new.words)

-- a sum over what was read goes on with what is read of one word more
sum_more : (f : ℕ → ℕ → ℕ) (old new : ℕ → Option ℕ) (word n m total : ℕ)
    → ((c : ℕ) → c < n → new (entry_place c) ≡ old (entry_place c))
    → ((c : ℕ) → n ≤ c → c < n + m → new (entry_place c) ≡ Some word)
    → total ≡ sum_by (λ c. f (entry_read old c) c) (range_with_len 0 n) + sum_by (f word) (range_with_len n m)
    → total ≡ sum_by (λ c. f (entry_read new c) c) (range_with_len 0 (n + m))
unfolding word_read
sum_more f old new word n m total below here e =
    let start : 0 + n ≡ n = omega arith in
    omega (
      arith,
      e,
      range_parts (λ c. f (entry_read new c) c) 0 n m,
      ap (λ k. sum_by (λ c. f (entry_read new c) c) (range_with_len k m)) start,
      range_same (λ c. f (entry_read old c) c) (λ c. f (entry_read new c) c) 0 n
          (λ c l h. ap (λ o. f (word_read o) c) (below c (omega arith))),
      range_same (f word) (λ c. f (entry_read new c) c) n m
          (λ c l h. ap (λ o. f (word_read o) c) (here c l h)),
    )

-- one word more is loaded
module _ {T H : Type 0} (t : ℕ → ℕ) (m u w : Mover T H) (i word frames huge : ℕ) (still : u.is_alone → u.is_undisturbed)
    (some : 4 * i < m.key.children) (was : LooksBelow t i frames huge m u) (load : Loads t (Entry (4 * i)) word u w) where
  same_below : (c : ℕ) → c < entries_in m.key i → w.read (entry_place c) ≡ u.read (entry_place c)
  unfolding entry_place
  same_below c h = load.reads (entry_place c) (λ e. omega (arith, e, h))

  same_place : (c : ℕ) → entries_in m.key i ≤ c → c < entries_in m.key (i + 1) → entry_place c ≡ entry_place (4 * i)
  unfolding entry_place
  same_place c l h = omega (arith, l, h, some)

  read_here : (c : ℕ) → entries_in m.key i ≤ c → c < entries_in m.key (i + 1) → w.read (entry_place c) ≡ Some word
  read_here c l h = ap w.read (same_place c l h) ∙ load.here

  each_more : (c : ℕ) → c < entries_in m.key (i + 1) → (found : ℕ) × (w.read (entry_place c) ≡ Some found)
  each_more c h =
      ⊎_elim
      (λ (l : c < entries_in m.key i). let old = was.each c l in (old.0, same_below c l ∙ old.1))
      (λ (l : entries_in m.key i ≤ c). (word, read_here c l h))
      (cases_lt c (entries_in m.key i))

  still_read : m.is_alone → IfSome m.words (AreReadStill (entries_in m.key (i + 1)) w.read w.words)
  still_read alone =
      if_known m.words (AreReadStill (entries_in m.key i) u.read u.words) (AreReadStill (entries_in m.key (i + 1)) w.read w.words)
      (was.alone alone)
      (λ ws e h.
      let found = at_known u.words (λ us. (slice_index us (entry_place (4 * i)) ≡ word) × (w.words ≡ Some us)) ws h.0
      (load.words (still (was.keeps.stays_alone alone))) in
      (found.1, (λ c l. stands ws (h.1) found.0 c l)))
    where
      stands : (ws : List ℕ) → AreRead (entries_in m.key i) u.read ws → slice_index ws (entry_place (4 * i)) ≡ word
          → (c : ℕ) → c < entries_in m.key (i + 1) → w.read (entry_place c) ≡ Some (slice_index ws (entry_place c))
      stands ws before found c l =
          ⊎_elim
          (λ (h : c < entries_in m.key i). same_below c h ∙ before c h)
          (λ (h : entries_in m.key i ≤ c). read_here c h l ∙ ap Some (sym found ∙ ap (slice_index ws) (sym (same_place c h l))))
          (cases_lt c (entries_in m.key i))

  pub looks_more : (f h end : ℕ) → end ≡ entries_in m.key (i + 1)
      → f ≡ frames + sum_by (free_at word) (range_with_len (4 * i) (end - 4 * i))
      → h ≡ huge + sum_by (shows_whole word) (range_with_len (4 * i) (end - 4 * i)) → LooksBelow t (i + 1) f h m w
  looks_more f h end e frames_are huge_are =
      let one_more : suc i ≡ i + 1 = omega arith in
      let here : entries_in m.key i ≡ 4 * i = omega (arith, some) in
      let rest : ℕ = end - 4 * i in
      let whole : entries_in m.key i + rest ≡ entries_in m.key (i + 1) = omega (arith, some, e) in
      let inside : (c : ℕ) → entries_in m.key i ≤ c → c < entries_in m.key i + rest → w.read (entry_place c) ≡ Some word =
      λ c l r. read_here c l (omega (arith, r, whole)) in
      record {
        keeps = keeps_both was.keeps load.keeps;
        missed = load.missed ∙ was.missed;
        view = load.view ∙ ap (λ (v : View). record v { moves = t v.moves }) was.view ∙ ap (λ n. after_loads t n m.view) one_more;
        each = each_more;
        frames = sum_more free_at u.read w.read word (entries_in m.key i) rest f same_below inside
            (omega (arith, frames_are, was.frames, ap (λ n. sum_by (free_at word) (range_with_len n rest)) here))
            ∙ ap (frames_read w.read) whole;
        huge = sum_more shows_whole u.read w.read word (entries_in m.key i) rest h same_below inside
            (omega (arith, huge_are, was.huge, ap (λ n. sum_by (shows_whole word) (range_with_len n rest)) here))
            ∙ ap (huge_read w.read) whole;
        alone = still_read;
      }

-- Loads leave of a view all but its count of moves.

-- after loads the view is as before, but for its count of moves
pub loads_before : (t : ℕ → ℕ) (n : ℕ) (v : View) → IsAsBefore v (after_loads t n v)
loads_before t zero v = refl
loads_before t (suc n) v = ap (λ (u : View). record u { moves = t (after_loads t n v).moves }) (loads_before t n v)

pub loads_idle : (t : ℕ → ℕ) (n : ℕ) (v w : View) → w ≡ after_loads t n v → IsIdle v → IsIdle w
loads_idle t n v w e idle =
    let same : w ≡ record v { moves = (after_loads t n v).moves; lost = (after_loads t n v).lost } = e ∙ loads_before t n v in
    record {
      share = omega (arith, ap (λ (x : View). x.share) same, idle.share);
      paid = ap (λ (x : View). x.paid) same ∙ idle.paid;
      charged = ap (λ (x : View). x.charged) same ∙ idle.charged;
      reserving = ap (λ (x : View). x.reserving) same ∙ idle.reserving;
      own = ap (λ (x : View). x.own) same ∙ idle.own;
    }

-- Where nobody else steps and nothing is in flight.

range_full : (f g : ℕ → ℕ) (a n : ℕ) → ((d : ℕ) → a ≤ d → d < a + n → f d + g d ≡ 512)
    → sum_by f (range_with_len a n) + sum_by g (range_with_len a n) ≡ 512 * n
range_full f g a zero all = refl
range_full f g a (suc n) all =
    omega (
      arith,
      range_cons f a n,
      range_cons g a n,
      all a (omega arith) (omega arith),
      range_full f g (a + 1) n (λ d l h. all d (omega arith) (omega arith)),
    )

range_times : (f g : ℕ → ℕ) (a n : ℕ) → ((d : ℕ) → a ≤ d → d < a + n → 512 * f d ≤ g d)
    → 512 * sum_by f (range_with_len a n) ≤ sum_by g (range_with_len a n)
range_times f g a zero all = omega arith
range_times f g a (suc n) all =
    omega (
      arith,
      range_cons f a n,
      range_cons g a n,
      all a (omega arith) (omega arith),
      range_times f g (a + 1) n (λ d l h. all d (omega arith) (omega arith)),
    )

module _ (A : Type 0) (key : Key) (ws : List ℕ) (v : View) (fits : FitsAlone A key ws v) (alone : A) (idle : IsIdle v) where
  entry_sum : (c : ℕ) → c < key.children → free_of ws c + held_of key ws c ≡ 512
  entry_sum c h =
      let nothing : charged_in c v ≡ 0 = ap (count_in c) idle.charged ∙ count_none c in
      omega (arith, entries_alone A key ws v fits alone c h, nothing)

  -- the entries together count the frames of which nothing is held
  frames_exact : sum_by (free_of ws) (range_with_len 0 key.children) ≡ free_frames key ws
  frames_exact =
      omega (
        arith,
        range_full (free_of ws) (held_of key ws) 0 key.children (λ c l h. entry_sum c (omega (arith, h))),
        held_frames-all key ws (range_alone A key ws v fits),
      )

  -- an entry shows its child free as a whole just where nothing of it is held
  whole_exact : (c : ℕ) → c < key.children
      → shows_whole (slice_index ws (entry_place c)) c ≡ (if nat_eq (held_within key ws (512 * c) 512) 0 then 1 else 0)
  unfolding is_whole entry_of free_of huge_of
  whole_exact c h =
      let sums = entry_sum c h in
      let held = held_within-child key ws (range_alone A key ws v fits) c h in
      grind (arith, nat_tests, sums, held, held_is key ws c, free_is (entry_of ws c), flag_is (entry_of ws c))

  huge_exact : sum_by (λ c. shows_whole (slice_index ws (entry_place c)) c) (range_with_len 0 key.children) ≡ clear_blocks key ws 9
  unfolding clear_within clear_at
  huge_exact =
      let children : 512 * key.children / 2 ^ 9 ≡ key.children = omega arith in
      range_same (λ i. if nat_eq (held_within key ws (0 + 2 ^ 9 * i) (2 ^ 9)) 0 then 1 else 0)
      (λ c. shows_whole (slice_index ws (entry_place c)) c) 0 key.children
      (λ c l h.
      let begins : 512 * c ≡ 0 + 2 ^ 9 * c = omega arith in
      whole_exact c (omega (arith, h)) ∙ ap (λ x. if nat_eq (held_within key ws x 512) 0 then 1 else 0) begins)
      ∙ ap (λ n. sum_by (λ i. if nat_eq (held_within key ws (0 + 2 ^ 9 * i) (2 ^ 9)) 0 then 1 else 0) (range_with_len 0 n)) (sym children)

  -- past the end each frame is held
  past_held : (x : ℕ) → key.frames ≤ x → x < frame_count key → 1 ≤ held_at key ws x
  unfolding held_at
  past_held x p h =
      let is_set : bit_of key ws x ≡ 1 = ∥∥₁_elim fits (ℕ_set _ _) (λ f. past_set key f.0 ws (v ∷ f.1.0) f.1.1.0 x p h) in
      omega (arith, is_set)

  -- so no more frames are free than there are
  free_inside : free_frames key ws ≤ key.frames
  unfolding held_within
  free_inside =
      ⊎_elim
      (λ (h : frame_count key < key.frames). omega (arith, h))
      (λ (h : key.frames ≤ frame_count key).
      let past : ℕ = frame_count key - key.frames in
      let whole : key.frames + past ≡ frame_count key = omega (arith, h) in
      let start : 0 + key.frames ≡ key.frames = omega arith in
      omega (
        arith,
        whole,
        ap (λ n. sum_by (held_at key ws) (range_with_len 0 n)) whole,
        range_parts (held_at key ws) 0 key.frames past,
        ap (λ n. sum_by (held_at key ws) (range_with_len n past)) start,
        range_le (λ _. 1) (held_at key ws) key.frames past (λ x l r. past_held x l (omega (arith, r, whole))),
        range_ones key.frames past,
      ))
      (cases_lt (frame_count key) key.frames)

  -- a child that is free as a whole counts 512 free frames
  whole_counts : (c : ℕ) → 512 * shows_whole (slice_index ws (entry_place c)) c ≤ free_of ws c
  unfolding is_whole entry_of free_of
  whole_counts c = grind (arith, nat_tests, free_is (entry_of ws c))

  fewer_huge : 512 * clear_blocks key ws 9 ≤ free_frames key ws
  fewer_huge = omega (
    arith,
    huge_exact,
    frames_exact,
    range_times (λ c. shows_whole (slice_index ws (entry_place c)) c) (free_of ws) 0 key.children (λ c l h. whole_counts c),
  )

  -- what was read as it stands is exact
  pub exact_of : (counts : FreeCounts) (read : ℕ → Option ℕ) → AreRead key.children read ws
      → counts.frames ≡ frames_read read key.children → counts.huge ≡ huge_read read key.children → AreExact key counts ws
  unfolding word_read free_of entry_of
  exact_of counts read are frames huge =
      let free : counts.frames ≡ free_frames key ws = frames
      ∙ range_same (free_of ws) (λ c. free_at (entry_read read c) c) 0 key.children
      (λ c l h. ap (λ o. free_at (word_read o) c) (are c (omega (arith, h))))
      ∙ frames_exact in
      let whole : counts.huge ≡ clear_blocks key ws 9 = huge
      ∙ range_same (λ c. shows_whole (slice_index ws (entry_place c)) c) (λ c. shows_whole (entry_read read c) c) 0 key.children
      (λ c l h. ap (λ o. shows_whole (word_read o) c) (are c (omega (arith, h))))
      ∙ huge_exact in
      record {
        frames = free;
        huge = whole;
        inside = omega (arith, free, free_inside);
        fewer = omega (arith, free, whole, fewer_huge);
      }

-- all words were loaded
pub looks_all : {T H : Type 0} (t : ℕ → ℕ) (m u : Mover T H) (i : ℕ) (counts : FreeCounts) → i ≡ entry_word_count m.key
    → ((ws : List ℕ) → u.words ≡ Some ws → FitsAlone u.is_alone u.key ws u.view) → IsIdle m.view
    → LooksBelow t i counts.frames counts.huge m u → LooksOver t counts m u
looks_all t m u i counts e fits idle was =
    let all : entries_in m.key i ≡ m.key.children = omega (arith, e) in
    record {
      keeps = was.keeps;
      missed = was.missed;
      view = was.view ∙ ap (λ n. after_loads t n m.view) e;
      as_read = record {
        each = λ c h. was.each c (omega (arith, h, all));
        frames = was.frames ∙ ap (frames_read u.read) all;
        huge = was.huge ∙ ap (huge_read u.read) all;
      };
      alone = λ alone.
          if_known m.words (AreReadStill (entries_in m.key i) u.read u.words) (λ ws. (u.words ≡ Some ws) × AreExact m.key counts ws)
          (was.alone alone)
          (λ ws known h.
          let key : u.key ≡ m.key = was.keeps.same_key in
          let children : u.key.children ≡ m.key.children = ap (λ (k : Key). k.children) key in (
            h.0,
            subst (λ (k : Key). AreExact k counts ws) key
                (exact_of u.is_alone u.key ws u.view (fits ws h.0) (was.keeps.stays_alone alone)
                (loads_idle t i m.view u.view was.view idle) counts u.read
                (λ c l. h.1 c (omega (arith, l, children, all)))
                (was.frames ∙ ap (frames_read u.read) (all ∙ sym children))
                (was.huge ∙ ap (huge_read u.read) (all ∙ sym children))),
          ));
    }

-- Counts of moves that go up by exactly one.
pub loads_counted : (n : ℕ) (v : View) → after_loads next n v ≡ record v { moves = v.moves + n }
loads_counted zero v = ap (λ k. record v { moves = k }) (omega arith)
loads_counted (suc n) v =
    ap (λ (u : View). record u { moves = next u.moves }) (loads_counted n v) ∙ ap (λ k. record v { moves = k }) (omega arith)
