-- Takes of just one block, from what their parts do.
use Rattle.std.proofs.Common.{◌≡◌, ◌↔◌, ⊎_elim, ℕ, ◌+◌, ◌*◌, ◌/◌, ◌%◌, ◌^◌, ◌<◌, ◌≤◌, List, ◌∷◌, Option, None, Some, refl, ap, sym, subst}
use Rattle.std.proofs.Common.{◌∙◌, arith}
use Rattle.std.specs.Prelude.{IfSome, IfNone, slice_index}
use Rattle.std.specs.Int.{bit_at}
use Rattle.std.specs.Int.Bits.{bit_and}
use Rattle.std.proofs.lemmas.Bool.{cases_lt}
use Rattle.std.proofs.lemmas.Nat.{pow_pos}
use Rattle.std.proofs.lemmas.Nat.Bits.{bit_at_and, bit_at-lt, bit_at-zero}
use Rattle.frame_words.specs.Runs.{IsClearRun}
use Rattle.frame_model.specs.declared.block.FrameBlock.{FrameBlock}
use Rattle.frame_model.specs.declared.key.Key.{Key}
use Rattle.frame_model.specs.declared.view.View.{View}
use Rattle.frame_model.specs.Block.{block, IsBlock}
use Rattle.frame_model.specs.Steps.{refund, words_after}
use Rattle.frame_model.specs.Steps.Amounts.{less, IsRun}
use Rattle.frame_model.specs.View.{charged_in, paid_on}
use Rattle.frame_model.specs.Words.{bits_place, bit_word_of, huge_of, AreInRange}
use Rattle.frame_model.specs.Report.{held_at}
use Rattle.frame_model.proofs.Steps.Shared.{bit_word_is}
use Rattle.frame_core.specs.Moves.{Changes, ReadsBut}
use Rattle.frame_core.specs.Mover.{Mover, Ticks}
use Rattle.low_frames.specs.Bounds.{most_in_whole, most_at_place}
use Rattle.low_frames.specs.Takes.{HasCharged, HasClaimed, HasClaimedIn, HasHandedOut, IsBlockIn}
use Rattle.low_frames.specs.Alone.{IsFreeIn, Turns, FindsOf, WordsTake, HoldsMore, NoneIsFree, HasNoneIn, IsCharged}
use Rattle.low_frames.specs.Groups.{WasReadClear, AreFree, HoldsMoreWords, HasTakenWords, WhereFree}
use Rattle.low_frames.specs.Outcomes.{Takes, TakesOut, TakesNothing}
use Rattle.low_frames.specs.Places.{IsNotClear, AreNotFree}
use Rattle.low_frames.proofs.Counts.{at_most}
use Rattle.low_frames.proofs.AloneLemmas.{IsSeen, if_known, at_known}
use Rattle.low_frames.proofs.GiveLemmas.{aligned_in_word, size_in_words, begins_in_words}
use Rattle.low_frames.proofs.RoomLemmas.{FitsAlone, range_alone, is_covered, free_is_run, refund_back}
use Rattle.low_frames.proofs.FlightLemmas.{charged_no_flag}
use Rattle.low_frames.proofs.HeldLemmas.{AreSame, held_same, charge_same, free_word, clear_word_is_free, words_as_block}
use Rattle.low_frames.proofs.WideLemmas.{two_or_four, some_in_group, bits_apart}

-- Blocks.

-- a block lies in its child
pub lies_in_child : (key : Key) (child frame order : ℕ) → child ≡ frame / 512 → IsBlock key (block frame order)
    → IsBlockIn key child order (block frame order)
lies_in_child key child frame order at is = record { is_block = is; has_order = refl; in_child = sym at }

pub child_inside : (key : Key) (child frame order : ℕ) → child ≡ frame / 512 → IsBlock key (block frame order) → child < key.children
child_inside key child frame order at is = omega (arith, at, is.inside, pow_pos order)

-- a block of an order up to 6 is a run of its bit word
pub run_of_block : (key : Key) (frame order : ℕ) → order ≤ 6 → IsBlock key (block frame order) → IsRun key (frame / 64) (frame % 64) order
run_of_block key frame order few is =
    let here : (frame % 64 % 2 ^ order ≡ 0) × (frame % 64 + 2 ^ order ≤ 64) = aligned_in_word frame order few is.aligned in
    record { inside = omega (arith, is.inside, pow_pos order); small = few; aligned = here.0; fits = here.1 }

-- where a block of order 7 or 8 lies in its child, by bit words
pub record IsPlaceOfWords (key : Key) (child frame order first count : ℕ) : Type 0 where
  pub in_memory : child < key.children
  pub size : 64 * count ≡ 2 ^ order
  pub some : 0 < count
  pub few : count ≤ 4
  pub aligned : first % count ≡ 0
  pub inside : first + count ≤ 8
  pub begins : 512 * child + 64 * first ≡ frame

pub place_of_words : (key : Key) (child frame order n : ℕ) → 7 ≤ order → order ≤ 8 → child ≡ frame / 512 → n ≡ 2 ^ order
    → IsBlock key (block frame order) → IsPlaceOfWords key child frame order (frame / 64 % 8) (n / 64)
place_of_words key child frame order n l h at e is =
    let first : ℕ = frame / 64 % 8 in
    let size : 64 * (n / 64) ≡ 2 ^ order = ap (λ k. 64 * (k / 64)) e ∙ sym (size_in_words order l h) in
    let two_four = two_or_four order (n / 64) l h size in
    let lies : (first % (n / 64) ≡ 0) × (first + n / 64 ≤ 8) =
    ⊎_elim
    (λ k. let z : frame % 128 ≡ 0 = subst (λ o. frame % 2 ^ o ≡ 0) k.0 is.aligned in
    subst (λ n. (first % n ≡ 0) × (first + n ≤ 8)) (sym k.1) (omega arith, omega arith))
    (λ k. let z : frame % 256 ≡ 0 = subst (λ o. frame % 2 ^ o ≡ 0) k.0 is.aligned in
    subst (λ n. (first % n ≡ 0) × (first + n ≤ 8)) (sym k.1) (omega arith, omega arith))
    two_four in
    record {
      in_memory = child_inside key child frame order at is;
      size = size;
      some = some_in_group order (n / 64) size;
      few = ⊎_elim (λ k. omega (arith, k.1)) (λ k. omega (arith, k.1)) two_four;
      aligned = lies.0;
      inside = lies.1;
      begins = omega (arith, at, begins_in_words frame order l h is.aligned);
    }

-- Views.

-- a claim of the run of a block is one in its child
pub claimed_at : (child frame order : ℕ) (u w : View) → child ≡ frame / 512 → HasClaimed (frame / 64) (frame % 64) order u w
    → HasClaimedIn child frame order u w
claimed_at child frame order u w at e =
    let F : ℕ → ℕ → ℕ → View = (λ c t f. record u {
      charged = less c (2 ^ order) u.charged;
      paid = less t (2 ^ order) u.paid;
      own = block f order ∷ u.own;
      moves = w.moves;
      lost = w.lost;
    }) in
    let c : frame / 64 / 8 ≡ child = omega (arith, at) in
    let t : frame / 64 / 64 ≡ child / 8 = omega (arith, at) in
    let f : 64 * (frame / 64) + frame % 64 ≡ frame = omega arith in
    e ∙ ap (λ k. F k (frame / 64 / 64) (64 * (frame / 64) + frame % 64)) c ∙ ap (λ k. F child k (64 * (frame / 64) + frame % 64)) t
    ∙ ap (F child (child / 8)) f

-- what is paid on the tree of a frame still is after a charge
pub paid_at : (child n need tree other : ℕ) (v u : View) → HasCharged child n v u → tree ≡ other → need ≤ paid_on tree v
    → need ≤ paid_on other u
paid_at child n need tree other v u charged e paid =
    subst (λ t. need ≤ paid_on t u) e (subst (λ (x : View). need ≤ paid_on tree x) (sym charged) paid)

-- a block of the child's tree was handed out
pub handed_out_at : (child frame order : ℕ) (v w : View) → child ≡ frame / 512 → HasHandedOut (child / 8) order v w
    → HasHandedOut (frame / 4096) order v w
handed_out_at child frame order v w at out =
    let t : child / 8 ≡ frame / 4096 = omega (arith, at) in
    subst (λ tree. HasHandedOut tree order v w) t out

-- Runs of bits.

-- a run that has no bit of the word is clear
pub clear_where_apart : (seen order bit mask : ℕ) → bit % 2 ^ order ≡ 0 → bit + 2 ^ order ≤ 64
    → ((i : ℕ) → (bit_at mask i ≡ 1) ↔ ((bit ≤ i) × (i < bit + 2 ^ order))) → bit_and seen mask ≡ 0 → IsClearRun seen order bit
clear_where_apart seen order bit mask al fits bits none = record {
  aligned = al;
  bits = record {
    inside = fits;
    clear = λ i l h.
        omega (arith, bit_at_and seen mask i, (bits i).1 (l, h), ap (λ n. bit_at n i) none, bit_at-zero i, bit_at-lt seen i);
  };
}

-- a bit word of which a bit of the run is set
pub not_clear_seen : (key was : Key) (word seen bit order : ℕ) (old now : Option (List ℕ)) → key ≡ was → ¬ IsClearRun seen order bit
    → IsSeen (bits_place key word) seen old now → FindsOf (IsNotClear was word bit order) old now
not_clear_seen key was word seen bit order old now k some load =
    if_known old (λ ws. (slice_index ws (bits_place key word) ≡ seen) × (now ≡ Some ws))
    (λ ws. (now ≡ Some ws) × IsNotClear was word bit order ws) load
    (λ ws e h. (
      h.1,
      subst (λ w. ¬ IsClearRun w order bit)
          (sym (bit_word_is was ws word ∙ ap (λ (k : Key). slice_index ws (bits_place k word)) (sym k) ∙ h.0)) some,
    ))

-- Bit words, one after the other.

-- so many bit words, from this one on, are clear
abbrev pub AreClear : Key → ℕ → ℕ → List ℕ → Type 0
AreClear key first count ws = (w : ℕ) → first ≤ w → w < first + count → bit_word_of key ws w ≡ 0

-- what a load of a bit word found stands there
word_seen : (key was : Key) (word found : ℕ) (ws : List ℕ) → key ≡ was → slice_index ws (bits_place key word) ≡ found
    → bit_word_of was ws word ≡ found
word_seen key was word found ws k e = bit_word_is was ws word ∙ ap (λ (k : Key). slice_index ws (bits_place k word)) (sym k) ∙ e

-- one bit word more
pub clear_more : (key was : Key) (first i found : ℕ) (old mid new : Option (List ℕ)) → key ≡ was → found ≡ 0
    → FindsOf (AreClear was first i) old mid
    → IfSome mid (λ ws. (slice_index ws (bits_place key (first + i)) ≡ found) × (new ≡ Some ws))
    → FindsOf (AreClear was first (i + 1)) old new
clear_more key was first i found None mid new k z before load = tt
clear_more key was first i found (Some ws) mid new k z before load =
    let here : (slice_index ws (bits_place key (first + i)) ≡ found) × (new ≡ Some ws) =
    at_known mid (λ ws. (slice_index ws (bits_place key (first + i)) ≡ found) × (new ≡ Some ws)) ws before.0 load in (
      here.1,
      λ w l h.
          ⊎_elim
          (λ (low : w < first + i). before.1 w l low)
          (λ high.
          let at : first + i ≡ w = omega (arith, high, h) in
          subst (λ j. bit_word_of was ws j ≡ 0) at (word_seen key was (first + i) found ws k here.0 ∙ z))
          (cases_lt w (first + i)),
    )

-- a bit word that is not clear
pub word_not_free : (key was : Key) (v : View) (alone : Type 0) (first count i found : ℕ) (old mid new : Option (List ℕ)) → key ≡ was
    → 0 < found → i < count → first + count ≤ 8 * was.children → ((ws : List ℕ) → mid ≡ Some ws → FitsAlone alone key ws v)
    → FindsOf (AreClear was first i) old mid
    → IfSome mid (λ ws. (slice_index ws (bits_place key (first + i)) ≡ found) × (new ≡ Some ws))
    → FindsOf (AreNotFree was first count) old new
word_not_free key was v alone first count i found None mid new k some h inside fits before load = tt
word_not_free key was v alone first count i found (Some ws) mid new k some h inside fits before load =
    let here : (slice_index ws (bits_place key (first + i)) ≡ found) × (new ≡ Some ws) =
    at_known mid (λ ws. (slice_index ws (bits_place key (first + i)) ≡ found) × (new ≡ Some ws)) ws before.0 load in
    let known : FitsAlone alone was ws v = subst (λ (k : Key). FitsAlone alone k ws v) k (fits ws before.0) in
    let range : AreInRange was ws = range_alone alone was ws v known in (
      here.1,
      λ free.
          let clear : bit_word_of was ws (first + i) ≡ 0 =
          free_word was ws (first + i) (range.bits (first + i) (omega arith)) (λ x e. free x (omega arith) (omega arith)) in
          absurd (omega (arith, clear, word_seen key was (first + i) found ws k here.0)),
    )

-- clear bit words of a child of which frames are charged are free
pub words_tried : (key was : Key) (v : View) (alone : Type 0) (child first count i : ℕ) (old now : Option (List ℕ)) (P : Type 0)
    → key ≡ was → count ≤ i → child < was.children → first + count ≤ 8 → 0 < charged_in child v
    → ((ws : List ℕ) → now ≡ Some ws → FitsAlone alone key ws v) → FindsOf (AreClear was (8 * child + first) i) old now
    → WhereFree key now (8 * child + first) count P → IfSome old (λ ws. (now ≡ Some ws) × P)
words_tried key was v alone child first count i old now P same all inside within some_charged fits clear tried =
    if_known old (λ ws. (now ≡ Some ws) × AreClear was (8 * child + first) i ws) (λ ws. (now ≡ Some ws) × P) clear
    (λ ws at e.
    let known : FitsAlone alone was ws v = subst (λ (k : Key). FitsAlone alone k ws v) same (fits ws e.0) in
    let flag : huge_of ws child ≡ 0 = charged_no_flag alone was ws v known child inside some_charged in
    let free : AreFree was ws (8 * child + first) count =
    λ x p q.
    let there : x / 64 / 8 ≡ child = omega arith in
    clear_word_is_free was ws (x / 64) x (ap (huge_of ws) there ∙ flag) (e.1 (x / 64) (omega arith) (omega arith)) refl in (
      e.0,
      at_known now (λ us. AreFree key us (8 * child + first) count → P) ws e.0 tried
          (subst (λ (k : Key). AreFree k ws (8 * child + first) count) (sym same) free),
    ))

-- clear bit words were taken
pub words_taken : (key was : Key) (first count : ℕ) (old now new : Option (List ℕ)) (P Q : Type 0) → key ≡ was
    → IfSome old (λ ws. (now ≡ Some ws) × (P × (HasTakenWords key now new first count × Q)))
    → Turns (λ ws us. HoldsMoreWords was ws us first count) old new
words_taken key was first count old now new P Q same done =
    if_known old (λ ws. (now ≡ Some ws) × (P × (HasTakenWords key now new first count × Q)))
    (λ ws. (us : List ℕ) × ((new ≡ Some us) × HoldsMoreWords was ws us first count)) done
    (λ ws at e.
    let taken : (us : List ℕ) × ((new ≡ Some us) × HoldsMoreWords key ws us first count) =
    at_known now (λ ws. (us : List ℕ) × ((new ≡ Some us) × HoldsMoreWords key ws us first count)) ws e.0 e.1.1.0 in
    (taken.0, (taken.1.0, subst (λ (k : Key). HoldsMoreWords k ws taken.0 first count) same taken.1.1)))

-- what was read of the words, one more
pub read_more : (key was : Key) (first i found : ℕ) (old new : ℕ → Option ℕ) → key ≡ was → found ≡ 0
    → new (bits_place key (first + i)) ≡ Some found → ReadsBut (bits_place key (first + i)) old new → WasReadClear was old first i
    → WasReadClear was new first (i + 1)
read_more key was first i found old new k z here but before w l h =
    ⊎_elim
    (λ (low : w < first + i).
    subst (λ (x : Key). ReadsBut (bits_place x (first + i)) old new) k but (bits_place was w)
    (bits_apart was w (first + i) (λ e. absurd (omega arith))) ∙ before w l low)
    (λ high.
    let at : first + i ≡ w = omega (arith, high, h) in
    subst (λ j. new (bits_place was j) ≡ Some 0) at
    (subst (λ (x : Key). new (bits_place x (first + i)) ≡ Some found) k here ∙ ap Some z))
    (cases_lt w (first + i))

-- Refusals.

-- where no block of its child is free, the block is not
pub none_at : (key : Key) (child order : ℕ) (b : FrameBlock) (old now : Option (List ℕ)) → IsBlockIn key child order b
    → FindsOf (HasNoneIn key child order) old now → FindsOf (NoneIsFree key (λ d. d ≡ b)) old now
none_at key child order b None now is none = tt
none_at key child order b (Some ws) now is none = (none.0, λ d e. none.1 d (subst (IsBlockIn key child order) (sym e) is))

-- nor where its run is not clear
pub none_of_run : (key : Key) (frame order : ℕ) (old now : Option (List ℕ)) → order ≤ 6 → IsBlock key (block frame order)
    → FindsOf (IsNotClear key (frame / 64) (frame % 64) order) old now → FindsOf (NoneIsFree key (λ d. d ≡ block frame order)) old now
none_of_run key frame order None now few is found = tt
none_of_run key frame order (Some ws) now few is found = (
  found.0,
  λ d e free. found.1 (free_is_run key ws (frame / 512) order (block frame order) few (lies_in_child key (frame / 512) frame order refl is)
      (subst (IsFreeIn key ws) e free)),
)

-- nor where a frame of its bit words is held
pub none_of_words : (key : Key) (first count : ℕ) (b : FrameBlock) (old now : Option (List ℕ)) → b.frame ≡ 64 * first
    → 64 * count ≡ 2 ^ b.order → FindsOf (AreNotFree key first count) old now → FindsOf (NoneIsFree key (λ d. d ≡ b)) old now
none_of_words key first count b None now at size found = tt
none_of_words key first count b (Some ws) now at size found = (
  found.0,
  λ d e free. found.1 (λ x l h. subst (IsFreeIn key ws) e free x (is_covered b x (omega (arith, at, l)) (omega (arith, at, size, h)))),
)

-- a charge, a refusal, and a refund
pub refused_at : (key mid_key last_key : Key) (v : View) (alone : Type 0) (child n : ℕ) (In : FrameBlock → Type 0)
    (old mid now new : Option (List ℕ)) → mid_key ≡ key → last_key ≡ key → child < key.children
    → ((ws : List ℕ) → old ≡ Some ws → FitsAlone alone key ws v) → Turns (IsCharged key child n) old mid
    → FindsOf (NoneIsFree mid_key In) mid now → Changes last_key (refund child n) now new → FindsOf (NoneIsFree key In) old new
refused_at key mid_key last_key v alone child n In old mid now new same last inside fits charged none back =
    if_known old (λ ws. (us : List ℕ) × ((mid ≡ Some us) × IsCharged key child n ws us))
    (λ ws. (new ≡ Some ws) × NoneIsFree key In ws) charged
    (λ ws e h.
    let us : List ℕ = h.0 in
    let range : AreInRange key ws = range_alone alone key ws v (fits ws e) in
    let held : (x : ℕ) → held_at key us x ≡ held_at key ws x =
    held_same key ws us (subst (AreSame key ws) (sym h.1.1.words) (charge_same key ws child n range inside h.1.1.no_flag)) in
    let found : (now ≡ Some us) × NoneIsFree mid_key In us =
    at_known mid (λ us. (now ≡ Some us) × NoneIsFree mid_key In us) us h.1.0 none in
    let there : new ≡ Some (words_after last_key (refund child n) us) =
    at_known now (λ us. new ≡ Some (words_after last_key (refund child n) us)) us found.0 back in
    let none_there : NoneIsFree key In us = subst (λ k. NoneIsFree k In us) same found.1 in (
      there ∙ ap (λ k. Some (words_after k (refund child n) us)) last ∙ ap Some (refund_back key ws us child n range inside h.1.1),
      λ b is free. none_there b is (λ x c. held x ∙ free x c),
    ))

-- bit words that were taken are their block
pub taken_as_block : (key : Key) (first count : ℕ) (b : FrameBlock) (old new : Option (List ℕ)) → b.order < 9 → b.frame ≡ 64 * first
    → 2 ^ b.order ≡ 64 * count → Turns (λ ws us. HoldsMoreWords key ws us first count) old new → WordsTake key old new b
taken_as_block key first count b old new low at size taken =
    if_known old (λ ws. (us : List ℕ) × ((new ≡ Some us) × HoldsMoreWords key ws us first count))
    (λ ws. (us : List ℕ) × ((new ≡ Some us) × HoldsMore key ws us b)) taken
    (λ ws e h. (h.0, (h.1.0, words_as_block key ws h.0 first count b low at size h.1.1)))

-- Takes.

-- a take in a wider bound
pub takes_at_most : {T H : Type 0} {t : ℕ → ℕ} {block_of : H → FrameBlock} {exact : ℕ → Type 0} {n k : ℕ} {In : FrameBlock → Type 0}
    {V : View → View → Type 0} {answer : Option H} {old new : Mover T H} → Ticks t exact → n ≤ k
    → Takes block_of exact n In V answer old new → Takes block_of exact k In V answer old new
takes_at_most ticks h took = record {
  keeps = took.keeps;
  counts = at_most ticks took.counts h;
  sure = took.sure;
  some = took.some;
  none = took.none;
}

-- the one block of order 9 in a child
one_whole : (key : Key) (child frame order : ℕ) (b : FrameBlock) → order ≡ 9 → child ≡ frame / 512 → IsBlock key (block frame order)
    → IsBlockIn key child 9 b → b ≡ block frame order
one_whole key child frame order b e at is one =
    let low : frame % 512 ≡ 0 = subst (λ k. frame % 2 ^ k ≡ 0) e is.aligned in
    let also : b.frame % 512 ≡ 0 = subst (λ k. b.frame % 2 ^ k ≡ 0) one.has_order one.is_block.aligned in
    let here : b.frame ≡ frame = omega (arith, one.in_child, at, low, also) in
    ap (λ f. block f b.order) here ∙ ap (block frame) (one.has_order ∙ sym e)

if_none : {X : Type 0} (o : Option X) (P Q : Type 0) → IfNone o P → (P → Q) → IfNone o Q
if_none None P Q h f = f h
if_none (Some x) P Q h f = tt

-- a take of its child as a whole is one of the block
pub takes_child_at : {T H : Type 0} {t : ℕ → ℕ} {block_of : H → FrameBlock} {exact : ℕ → Type 0} (child frame order : ℕ)
    (answer : Option H) (old new : Mover T H) → Ticks t exact → order ≡ 9 → child ≡ frame / 512 → IsBlock old.key (block frame order)
    → Takes block_of exact most_in_whole (IsBlockIn old.key child 9) (HasHandedOut (child / 8) 9) answer old new
    → Takes block_of exact most_at_place (λ b. b ≡ block frame order) (HasHandedOut (frame / 4096) order) answer old new
takes_child_at {block_of = block_of} child frame order answer old new ticks e at is took = record {
  keeps = took.keeps;
  counts = at_most ticks took.counts (omega arith);
  sure = took.sure;
  some = if_known answer (λ held. TakesOut block_of (IsBlockIn old.key child 9) (HasHandedOut (child / 8) 9) held old new)
      (λ held. TakesOut block_of (λ b. b ≡ block frame order) (HasHandedOut (frame / 4096) order) held old new) took.some
      (λ held same out. record {
        view = subst (λ o. HasHandedOut (frame / 4096) o old.view new.view) (sym e)
            (handed_out_at child frame 9 old.view new.view at out.view);
        is_out = out.is_out;
        is_one = one_whole old.key child frame order (block_of held) e at is out.is_one;
        apart = out.apart;
        no_boot_frame = out.no_boot_frame;
        inside = out.inside;
        alone = out.alone;
      });
  none = if_none answer (TakesNothing (IsBlockIn old.key child 9) old new) (TakesNothing (λ b. b ≡ block frame order) old new) took.none
      (λ refused. record {
        view = refused.view;
        alone = λ h.
            none_at old.key child 9 (block frame order) old.words new.words
            (record { is_block = is; has_order = e; in_child = sym at }) (refused.alone h);
      });
}
