-- A split where nobody else steps: every frame is held or free as before, and the halves hold what the block held.
use Rattle.std.proofs.Common.{◌≡◌, ⊎_elim, ℕ, zero, suc, ◌+◌, ◌-◌, ◌*◌, ◌/◌, ◌%◌, ◌^◌, ◌<◌, ◌≤◌, max, List, [], ◌∷◌, Option, None, Some}
use Rattle.std.proofs.Common.{Bool, true, false, refl, ap, sym, subst, ◌∙◌, arith}
use Rattle.std.specs.Prelude.{slice_index, if◌then◌else◌}
use Rattle.std.specs.List.{All, sum_by}
use Rattle.std.proofs.lemmas.List.Elements.{All-head, All-tail, All-cons}
use Rattle.std.proofs.lemmas.List.Sums.{sum_by-cons}
use Rattle.std.specs.Int.Bits.{bit_or}
use Rattle.std.proofs.Math.Bridge.{le_prop}
use Rattle.std.proofs.Math.Logic.{∥∥₁_elim}
use Rattle.std.proofs.Math.Nat.{ℕ_set}
use Rattle.std.proofs.lemmas.Bool.{cases_eq, cases_lt}
use Rattle.std.proofs.lemmas.Bool.Decides.{nat_tests}
use Rattle.frame_words.specs.Words.{lane_in, lane_put, lane_shift}
use Rattle.frame_model.specs.declared.block.FrameBlock.{FrameBlock}
use Rattle.frame_model.specs.declared.key.Key.{Key}
use Rattle.frame_model.specs.declared.view.View.{View}
use Rattle.frame_model.specs.Key.{frame_count}
use Rattle.frame_model.specs.Block.{block, IsBlock, small_at, whole_at, wholes}
use Rattle.frame_model.specs.Words.{entry_place, bits_place, entry_of, huge_of, bit_of, with_entry, with_bits, AreInRange}
use Rattle.frame_model.specs.View.{names, marks, small_in, spent, ground_with, boot_blocks, fixed_ground, IsIdle, IsViewOf}
use Rattle.frame_model.specs.Fit.{Fit}
use Rattle.frame_model.specs.Report.{held_at}
use Rattle.frame_model.specs.Steps.{fill_word, words_after}
use Rattle.frame_core.specs.Moves.{Changes, drop_whole, IsAtRest}
use Rattle.frame_model.proofs.Blocks.{not_whole, whole_here, whole_else, halves, halves_here, halves_else}
use Rattle.frame_model.proofs.Amounts.{names_none}
use Rattle.frame_model.proofs.Keeps.{total_is}
use Rattle.frame_model.proofs.Steps.Joining.{idle_unfilled}
use Rattle.frame_model.proofs.Lanes.{lane_taken}
use Rattle.frame_model.proofs.Words.{BitsWritten, bits_written, EntryWritten, entry_written, child-has-lane}
use Rattle.frame_model.proofs.Steps.Shared.{bit-le, as_bits, as_entry, entry_of_is, huge_of_is, flag_is, bit_filled}
use Rattle.low_frames.proofs.AloneLemmas.{at_known}
use Rattle.low_frames.proofs.RoomLemmas.{FitsAlone, range_alone}
use Rattle.low_frames.proofs.FlightLemmas.{whole_entry}
use Rattle.low_frames.specs.Alone.{Turns}
use Rattle.core_frames.specs.Search.{HasLentOne}
use Rattle.core_frames.specs.Splits.{AreHalves, HoldsSame, HoldsHalves, LosesFlag, SameWords}
use Rattle.core_frames.proofs.SplitLemmas.{as_child}

-- every frame is held or free as before, and no flag has changed
pub record KeepsFlags (key : Key) (old new : List ℕ) : Type 0 where
  pub frames : HoldsSame key old new
  pub flags : (c : ℕ) → c < key.children → huge_of new c ≡ huge_of old c

held_is : (key : Key) (ws : List ℕ) (x : ℕ) → held_at key ws x ≡ max (bit_of key ws x) (huge_of ws (x / 512))
unfolding held_at
held_is key ws x = refl

-- Words.

-- a word of a huge frame is filled
fill_same : (key : Key) (ws : List ℕ) (c word : ℕ) → AreInRange key ws → c < key.children → word / 8 ≡ c → huge_of ws c ≡ 1
    → KeepsFlags key ws (words_after key (fill_word word) ws)
fill_same key ws c word r h at flag =
    let n : ℕ = bit_or (slice_index ws (bits_place key word)) (2 ^ 64 - 1) in
    let us : List ℕ = with_bits key ws word n in
    let z : BitsWritten key ws word n us = bits_written key ws word n r (omega (arith, h, at)) in
    subst (KeepsFlags key ws) (as_bits key ws word n n refl) (record { frames = λ x inside. same us z x inside; flags = z.huge })
  where
    same : (us : List ℕ) → BitsWritten key ws word (bit_or (slice_index ws (bits_place key word)) (2 ^ 64 - 1)) us
        → (x : ℕ) → x < frame_count key → held_at key us x ≡ held_at key ws x
    same us z x inside =
        ⊎_elim
        (λ e. omega (
          arith,
          held_is key us x,
          held_is key ws x,
          bit-le key us x,
          bit-le key ws x,
          z.huge (x / 512) (omega arith),
          ap (huge_of ws) e,
          flag,
        ))
        (λ ne. omega (
          arith,
          held_is key us x,
          held_is key ws x,
          z.bits_else x (λ e. ne (omega (arith, e, at))),
          z.huge (x / 512) (omega arith),
        ))
        (cases_eq (x / 512) c)

-- a huge frame, all of whose bits are set, loses its flag
drop_same : (key : Key) (ws : List ℕ) (c : ℕ) → AreInRange key ws → c < key.children → entry_of ws c ≡ 32768
    → ((x : ℕ) → x / 512 ≡ c → bit_of key ws x ≡ 1) → LosesFlag key (block (512 * c) 9) ws (words_after key (drop_whole c) ws)
drop_same key ws c r h entry set =
    let found : ℕ = slice_index ws (entry_place c) in
    let us : List ℕ = with_entry ws c 0 in
    let z : EntryWritten key ws c 0 us = entry_written key ws c 0 r h (omega arith) in
    let below : found < 2 ^ 64 = r.entry_words c (child-has-lane key c h) in
    let lane : lane_in found c ≡ 32768 = sym (entry_of_is ws c) ∙ entry in
    subst (LosesFlag key (block (512 * c) 9) ws) (as_entry ws c 0 ((found + (2 ^ 64 - 32768 * lane_shift c)) % 2 ^ 64)
    (lane_taken found c 32768 below (omega (arith, lane)) ∙ ap (λ m. lane_put found c (m - 32768)) lane))
    (record { frames = λ x inside. same us z x inside; flags = λ d inside. flag us z d })
  where
    same : (us : List ℕ) → EntryWritten key ws c 0 us → (x : ℕ) → x < frame_count key → held_at key us x ≡ held_at key ws x
    same us z x inside =
        ⊎_elim
        (λ e. omega (
          arith,
          held_is key us x,
          held_is key ws x,
          z.bits x,
          set x e,
          ap (huge_of us) e,
          z.huge_here,
          flag_is 0,
          r.huge (x / 512) (omega arith),
        ))
        (λ ne. omega (arith, held_is key us x, held_is key ws x, z.bits x, z.huge_else (x / 512) ne))
        (cases_eq (x / 512) c)

    flag : (us : List ℕ) → EntryWritten key ws c 0 us → (d : ℕ) → huge_of us d + whole_at d (block (512 * c) 9) ≡ huge_of ws d
    flag us z d =
        ⊎_elim
        (λ e. omega (
          arith,
          ap (huge_of us) e,
          ap (huge_of ws) e,
          ap (λ k. whole_at k (block (512 * c) 9)) e,
          whole_here c,
          z.huge_here,
          flag_is 0,
          huge_of_is ws c,
          flag_is (entry_of ws c),
          entry,
        ))
        (λ ne. omega (arith, z.huge_else d ne, whole_else c d ne))
        (cases_eq d c)

-- What a huge frame in flight says of the words.

module _ (alone : Type 0) (key : Key) (ws : List ℕ) (v : View) (fits : FitsAlone alone key ws v) (c : ℕ) (h : c < key.children)
    (own : 0 < wholes c v.own) where
  is_flagged : huge_of ws c ≡ 1
  is_flagged = omega (arith, whole_entry alone key ws v fits c h own, huge_of_is ws c, flag_is (entry_of ws c))

  is_filled : (x : ℕ) → x / 512 ≡ c → bit_of key ws x ≡ names (x / 64) v.filled
  is_filled x e = ∥∥₁_elim fits (ℕ_set _ _) (λ a. bit_filled key a.0 ws (v ∷ a.1.0) 0 v a.1.1.0 refl c x h own e)

-- Where nothing is in flight.

none_filled_by : (key : Key) (u : View) → IsViewOf key u → IsAtRest u → (k : ℕ) → names k u.filled ≡ 0
none_filled_by key u is rest k =
    ⊎_elim (λ (z : u.share ≡ 0). ap (names k) (is.no_part z).filled ∙ names_none k)
    (λ some. idle_unfilled key u is (rest (omega (arith, some))) k) (cases_eq u.share 0)

marks_smalls : (key : Key) (x : ℕ) (us : List View) → All (IsViewOf key) us → All IsAtRest us
    → sum_by (marks x) us ≡ sum_by (small_in x) us
marks_smalls key x [] are rest = refl
marks_smalls key x (u ∷ us) are rest = omega (
  arith,
  sum_by-cons (marks x) u us,
  sum_by-cons (small_in x) u us,
  none_filled_by key u (All-head (IsViewOf key) u us are) (All-head IsAtRest u us rest) (x / 64),
  marks_smalls key x us (All-tail (IsViewOf key) u us are) (All-tail IsAtRest u us rest),
)

fixed_unfilled : (key : Key) (k : ℕ) → names k (fixed_ground key).filled ≡ 0
unfolding fixed_ground
fixed_unfilled key k = by key.sealed
  where
    by : (b : Bool) → names k (if b then ground_with key (boot_blocks key) else spent).filled ≡ 0
    by true = names_none k
    by false = names_none k

-- a frame is held by its bit or by the flag of its child
never_both : (alone : Type 0) (key : Key) (ws : List ℕ) (v : View) → FitsAlone alone key ws v → alone → IsIdle v
    → (x : ℕ) → x < frame_count key → bit_of key ws x + huge_of ws (x / 512) ≤ 1
never_both alone key ws v fits calm idle x h =
    ∥∥₁_elim fits le_prop
    (λ (a : (shares : ℕ) × ((others : List View) × (Fit key shares ws (v ∷ others) × (alone → All IsAtRest others)))).
    let fit = a.1.1.0 in
    let views : List View = v ∷ a.1.0 in
    omega (
      arith,
      fit.apart x h,
      fit.bits x h,
      total_is key (marks x) views,
      total_is key (small_in x) views,
      fixed_unfilled key (x / 64),
      marks_smalls key x views fit.each (All-cons IsAtRest v a.1.0 (λ some. idle) (a.1.1.1 calm)),
    ))

-- a view that lent one block more has nothing in flight still
lent_idle : (v w : View) → IsIdle v → HasLentOne v w → IsIdle w
lent_idle v w idle e = record {
  share = omega (arith, ap (λ (x : View). x.share) e, idle.share);
  paid = ap (λ (x : View). x.paid) e ∙ idle.paid;
  charged = ap (λ (x : View). x.charged) e ∙ idle.charged;
  reserving = ap (λ (x : View). x.reserving) e ∙ idle.reserving;
  own = ap (λ (x : View). x.own) e ∙ idle.own;
}

-- Halves.

small_none : (x : ℕ) (b : FrameBlock) → 9 ≤ b.order → small_at x b ≡ 0
unfolding small_at
small_none x b h = grind (arith, nat_tests)

-- the halves of a block hold what it holds by bits or by the flag of its child
pub both_halves : (key : Key) (b : FrameBlock) (x : ℕ) → IsBlock key b → 0 < b.order
    → small_at x (block b.frame (b.order - 1)) + small_at x (block (b.frame + 2 ^ (b.order - 1)) (b.order - 1))
    ≡ small_at x b + whole_at (x / 512) b
both_halves key b x is some = ⊎_elim (λ (l : b.order < 9). small b.order refl l) (λ (n : 9 ≤ b.order). huge n) (cases_lt b.order 9)
  where
    small : (o : ℕ) → o ≡ b.order → b.order < 9
        → small_at x (block b.frame (b.order - 1)) + small_at x (block (b.frame + 2 ^ (b.order - 1)) (b.order - 1))
        ≡ small_at x b + whole_at (x / 512) b
    small zero e l = absurd (omega (arith, e, some))
    small (suc o) e l =
        let less : b.order - 1 ≡ o = omega (arith, e) in
        let same : small_at x (block b.frame (suc o)) ≡ small_at x b = ap (λ k. small_at x (block b.frame k)) e in
        omega (
          arith,
          halves x b.frame o (omega (arith, e, l)),
          same,
          not_whole (x / 512) b l,
          ap (λ k. small_at x (block b.frame k) + small_at x (block (b.frame + 2 ^ k) k)) less,
        )

    huge : 9 ≤ b.order
        → small_at x (block b.frame (b.order - 1)) + small_at x (block (b.frame + 2 ^ (b.order - 1)) (b.order - 1))
        ≡ small_at x b + whole_at (x / 512) b
    huge n =
        let c : ℕ = b.frame / 512 in
        let there : b ≡ block (512 * c) 9 = as_child key b is n in
        let two = ap (λ (d : FrameBlock). small_at x (block d.frame (d.order - 1))
        + small_at x (block (d.frame + 2 ^ (d.order - 1)) (d.order - 1))) there in
        let whole = ap (whole_at (x / 512)) there in
        ⊎_elim
        (λ (e : x / 512 ≡ c). omega (
          arith,
          two,
          whole,
          small_none x b n,
          halves_here c x e,
          whole_here c,
          ap (λ k. whole_at k (block (512 * c) 9)) e,
        ))
        (λ ne. omega (arith, two, whole, small_none x b n, halves_else c x ne, whole_else c (x / 512) ne))
        (cases_eq (x / 512) c)

-- where a frame is held once before and after, bits and flags are those of the halves
pub into_halves : (key : Key) (b first second : FrameBlock) (ws us : List ℕ) → IsBlock key b → AreHalves b first second
    → ((x : ℕ) → x < frame_count key → bit_of key ws x + huge_of ws (x / 512) ≤ 1)
    → ((x : ℕ) → x < frame_count key → bit_of key us x + huge_of us (x / 512) ≤ 1)
    → LosesFlag key b ws us → HoldsHalves key b first second ws us
into_halves key b first second ws us is are once again lost = record {
  frames = lost.frames;
  bits = λ x h. omega (
    arith,
    lost.frames x h,
    held_is key us x,
    held_is key ws x,
    once x h,
    again x h,
    lost.flags (x / 512) (omega (arith, h)),
    both_halves key b x is are.some,
    ap (small_at x) are.lower,
    ap (small_at x) are.upper,
  );
  flags = λ c h. omega (
    arith,
    lost.flags c h,
    not_whole c first (omega (arith, small, ap (λ (d : FrameBlock). d.order) are.lower)),
    not_whole c second (omega (arith, small, ap (λ (d : FrameBlock). d.order) are.upper)),
  );
}
  where
    small : b.order - 1 < 9
    small = omega (arith, is.order)

-- Steps.

-- where the words were known, they are as they were
pub still_same : (old new : Option (List ℕ)) → new ≡ old → Turns SameWords old new
still_same None new e = tt
still_same (Some ws) new e = (ws, (e, refl))

-- taking a block in that is no child as a whole changes no frame and no flag
pub none_lost : (key : Key) (b : FrameBlock) (old new : Option (List ℕ)) → b.order < 9 → new ≡ old → Turns (LosesFlag key b) old new
none_lost key b None new low e = tt
none_lost key b (Some ws) new low e =
    (ws, (e, record { frames = λ x h. refl; flags = λ c h. omega (arith, not_whole c b low) }))

-- a child as a whole that was taken in is broken up
pub then_lost : (key now : Key) (b : FrameBlock) (c : ℕ) (old mid new : Option (List ℕ)) → now ≡ key → mid ≡ old → b ≡ block (512 * c) 9
    → Turns (LosesFlag now (block (512 * c) 9)) mid new → Turns (LosesFlag key b) old new
then_lost key now b c old mid new k e is lost =
    subst (λ (d : FrameBlock). Turns (LosesFlag key d) old new) (sym is)
    (subst (λ o. Turns (LosesFlag key (block (512 * c) 9)) o new) e
    (subst (λ i. Turns (LosesFlag i (block (512 * c) 9)) mid new) k lost))

twice : (key : Key) (ws us vs : List ℕ) → KeepsFlags key ws us → KeepsFlags key us vs → KeepsFlags key ws vs
twice key ws us vs a b = record {
  frames = λ x h. b.frames x h ∙ a.frames x h;
  flags = λ c h. b.flags c h ∙ a.flags c h;
}

pub filled_same : (key was : Key) (v : View) (alone : Type 0) (c word : ℕ) (old mid new : Option (List ℕ)) → key ≡ was
    → c < was.children → word / 8 ≡ c → 0 < wholes c v.own → ((us : List ℕ) → mid ≡ Some us → FitsAlone alone key us v)
    → Changes key (fill_word word) mid new → Turns (KeepsFlags was) old mid → Turns (KeepsFlags was) old new
filled_same key was v alone c word None mid new k h at own fits step before = tt
filled_same key was v alone c word (Some ws) mid new k h at own fits step before =
    let us : List ℕ = before.0 in
    let known : FitsAlone alone was us v = subst (λ (i : Key). FitsAlone alone i us v) k (fits us before.1.0) in
    let there : new ≡ Some (words_after key (fill_word word) us) =
    at_known mid (λ l. new ≡ Some (words_after key (fill_word word) l)) us before.1.0 step in (
      words_after was (fill_word word) us,
      (
        there ∙ ap (λ i. Some (words_after i (fill_word word) us)) k,
        twice was ws us (words_after was (fill_word word) us) before.1.1
            (fill_same was us c word (range_alone alone was us v known) h at (is_flagged alone was us v known c h own)),
      ),
    )

pub dropped_same : (key was : Key) (v : View) (alone : Type 0) (c : ℕ) (old mid new : Option (List ℕ)) → key ≡ was → c < was.children
    → 0 < wholes c v.own → ((n : ℕ) → 8 * c ≤ n → n < 8 * c + 8 → names n v.filled ≡ 1)
    → ((us : List ℕ) → mid ≡ Some us → FitsAlone alone key us v) → Changes key (drop_whole c) mid new → Turns (KeepsFlags was) old mid
    → Turns (LosesFlag was (block (512 * c) 9)) old new
dropped_same key was v alone c None mid new k h own filled fits step before = tt
dropped_same key was v alone c (Some ws) mid new k h own filled fits step before =
    let us : List ℕ = before.0 in
    let known : FitsAlone alone was us v = subst (λ (i : Key). FitsAlone alone i us v) k (fits us before.1.0) in
    let there : new ≡ Some (words_after key (drop_whole c) us) =
    at_known mid (λ l. new ≡ Some (words_after key (drop_whole c) l)) us before.1.0 step in
    let end : LosesFlag was (block (512 * c) 9) us (words_after was (drop_whole c) us) =
    drop_same was us c (range_alone alone was us v known) h (whole_entry alone was us v known c h own)
    (λ x e. is_filled alone was us v known c h own x e ∙ filled (x / 64) (omega (arith, e)) (omega (arith, e))) in (
      words_after was (drop_whole c) us,
      (
        there ∙ ap (λ i. Some (words_after i (drop_whole c) us)) k,
        record {
          frames = λ x inside. end.frames x inside ∙ before.1.1.frames x inside;
          flags = λ d inside. end.flags d inside ∙ before.1.1.flags d inside;
        },
      ),
    )

-- a split as a whole
pub halved_words : (key last : Key) (b first second : FrameBlock) (v w : View) (A B : Type 0) (old mid new : Option (List ℕ))
    → last ≡ key → IsBlock key b → AreHalves b first second → IsIdle v → HasLentOne v w → A → B
    → ((ws : List ℕ) → old ≡ Some ws → FitsAlone A key ws v) → ((ws : List ℕ) → new ≡ Some ws → FitsAlone B last ws w)
    → Turns (LosesFlag key b) old mid → Turns SameWords mid new → Turns (HoldsHalves key b first second) old new
halved_words key last b first second v w A B None mid new k is are idle lent calm still fits later lost same = tt
halved_words key last b first second v w A B (Some ws) mid new k is are idle lent calm still fits later lost same =
    let us : List ℕ = lost.0 in
    let there : (vs : List ℕ) × ((new ≡ Some vs) × (vs ≡ us)) =
    at_known mid (λ l. (vs : List ℕ) × ((new ≡ Some vs) × (vs ≡ l))) us lost.1.0 same in
    let known : new ≡ Some us = there.1.0 ∙ ap (λ l. Some l) there.1.1 in
    let after : FitsAlone B key us w = subst (λ (i : Key). FitsAlone B i us w) k (later us known) in (
      us,
      (
        known,
        into_halves key b first second ws us is are (never_both A key ws v (fits ws refl) calm idle)
            (never_both B key us w after still (lent_idle v w idle lent)) lost.1.1,
      ),
    )
