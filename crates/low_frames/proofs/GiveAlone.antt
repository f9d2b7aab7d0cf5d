-- What gives do to the words where nobody else steps.
use Rattle.std.proofs.Common.{◌≡◌, ℕ, ◌+◌, ◌-◌, ◌*◌, ◌/◌, ◌%◌, ◌^◌, ◌<◌, ◌≤◌, List, [], ◌∷◌, Option, None, Some, refl, ap, sym, subst}
use Rattle.std.proofs.Common.{◌∙◌, arith}
use Rattle.std.proofs.lemmas.Nat.{pow_pos}
use Rattle.frame_model.specs.declared.key.Key.{Key}
use Rattle.frame_model.specs.declared.view.View.{View}
use Rattle.frame_model.specs.declared.block.FrameBlock.{FrameBlock}
use Rattle.frame_model.specs.Block.{block, IsBlock, covers, smalls, wholes}
use Rattle.frame_model.specs.Words.{huge_of}
use Rattle.frame_core.specs.Moves.{Changes, release_run, give_whole}
use Rattle.frame_model.specs.Steps.Amounts.{IsRun}
use Rattle.frame_model.specs.Steps.{refund, words_after}
use Rattle.frame_model.specs.Steps.Conditions.{CanRefund, CanGiveHuge}
use Rattle.frame_model.proofs.Blocks.{smalls_cons, in_block, whole_here}
use Rattle.low_frames.specs.Alone.{HoldsMore, WordsGive}
use Rattle.low_frames.specs.Groups.{HoldsWords, HoldsMoreWords, HasGivenWords}
use Rattle.low_frames.proofs.AloneLemmas.{at_known}
use Rattle.low_frames.proofs.RoomLemmas.{FitsAlone, range_alone, is_covered, covered_from}
use Rattle.low_frames.proofs.GiveLemmas.{aligned_in_word, size_in_words, begins_in_words}
use Rattle.low_frames.proofs.FlightLemmas.{charged_has_room, owned_no_flag, owned_is_set, whole_entry, whole_is_clear, is_word}
use Rattle.low_frames.proofs.HeldLemmas.{block_as_words, words_as_block, released_run, no_more_words, words_down, less_then_same}
use Rattle.low_frames.proofs.HeldLemmas.{refund_same, given_whole}

-- one word more was released
word_released : (key : Key) (us : List ℕ) (v : View) (alone : Type 0) (k n : ℕ) → k < 8 * key.children → 0 < n
    → HoldsWords key v.own k n → FitsAlone alone key us v → HoldsMoreWords key (words_after key (release_run k 0 6) us) us k 1
word_released key us v alone k n h some_more own fits =
    let b : FrameBlock = block (64 * k + 0) 6 in
    let child : 64 * k / 512 ≡ k / 8 = omega arith in
    let flag : huge_of us (k / 8) ≡ 0 =
    sym (ap (huge_of us) child) ∙ owned_no_flag alone key us v fits (64 * k) (omega arith)
    (omega (arith, own.inside (64 * k) (omega arith) (omega arith))) in
    block_as_words key (words_after key (release_run k 0 6) us) us k 1 b (omega arith) (omega arith) (omega arith) (omega arith)
    (released_run key us k 0 6 (range_alone alone key us v fits) (is_word key k h) flag
    (λ x e. let c = covered_from b x e in owned_is_set alone key us v fits x (omega (arith, c.1))
    (omega (arith, own.inside x (omega (arith, c.0)) (omega (arith, c.1))))))

pub none_given : (key : Key) (old : Option (List ℕ)) (first : ℕ) → HasGivenWords key old old first 0
none_given key None first = tt
none_given key (Some ws) first = (ws, (refl, no_more_words key ws first))

pub given_more : (key was : Key) (v : View) (alone : Type 0) (first count i : ℕ) (old mid new : Option (List ℕ)) → key ≡ was
    → first + count ≤ 8 * was.children → i < count → HoldsWords was v.own (first + i) (count - i)
    → ((us : List ℕ) → mid ≡ Some us → FitsAlone alone key us v) → Changes key (release_run (first + i) 0 6) mid new
    → HasGivenWords was old mid first i → HasGivenWords was old new first (i + 1)
given_more key was v alone first count i None mid new same inside h own fits step before = tt
given_more key was v alone first count i (Some ws) mid new same inside h own fits step before =
    let us : List ℕ = before.0 in
    let vs : List ℕ = words_after was (release_run (first + i) 0 6) us in
    let known : FitsAlone alone was us v = subst (λ (k : Key). FitsAlone alone k us v) same (fits us before.1.0) in
    let there : new ≡ Some (words_after key (release_run (first + i) 0 6) us) =
    at_known mid (λ ws. new ≡ Some (words_after key (release_run (first + i) 0 6) ws)) us before.1.0 step in (
      vs,
      (
        there ∙ ap (λ k. Some (words_after k (release_run (first + i) 0 6) us)) same,
        words_down was vs us ws first i (omega arith) before.1.1
            (word_released was us v alone (first + i) (count - i) (omega arith) (omega arith) own known),
      ),
    )

-- the one block in flight, of an order up to 6, was released
pub block_given : (key : Key) (v : View) (alone : Type 0) (frame order : ℕ) (old new : Option (List ℕ)) → order ≤ 6
    → IsBlock key (block frame order) → v.own ≡ block frame order ∷ [] → ((ws : List ℕ) → old ≡ Some ws → FitsAlone alone key ws v)
    → Changes key (release_run (frame / 64) (frame % 64) order) old new → WordsGive key old new (block frame order)
block_given key v alone frame order None new h is own fits step = tt
block_given key v alone frame order (Some ws) new h is own fits step =
    let b : FrameBlock = block frame order in
    let k : ℕ = frame / 64 in
    let from : ℕ = frame % 64 in
    let vs : List ℕ = words_after key (release_run k from order) ws in
    let at : 64 * k + from ≡ frame = omega arith in
    let known : FitsAlone alone key ws v = fits ws refl in
    let run : IsRun key k from order =
    record {
      inside = omega (arith, is.inside, pow_pos order);
      small = h;
      aligned = (aligned_in_word frame order h is.aligned).0;
      fits = (aligned_in_word frame order h is.aligned).1;
    } in
    let owned : (x : ℕ) → covers b x ≡ 1 → 0 < smalls x v.own =
    λ x e. let c = covered_from b x e in omega (arith, ap (smalls x) own, smalls_cons x b [], in_block x b (omega arith) c.0 c.1) in
    let first : 0 < smalls frame v.own = owned frame (is_covered b frame (omega arith) (omega (arith, pow_pos order))) in
    let child : frame / 512 ≡ k / 8 = omega arith in
    let flag : huge_of ws (k / 8) ≡ 0 =
    sym (ap (huge_of ws) child) ∙ owned_no_flag alone key ws v known frame (omega (arith, is.inside, pow_pos order)) first in (
      vs,
      (
        step,
        subst (λ f. HoldsMore key vs ws (block f order)) at
            (released_run key ws k from order (range_alone alone key ws v known) run flag
            (λ x e. let e2 : covers b x ≡ 1 = subst (λ f. covers (block f order) x ≡ 1) at e in
            owned_is_set alone key ws v known x (omega (arith, (covered_from b x e2).1, is.inside)) (owned x e2))),
      ),
    )

-- the one block in flight, of whole words, was released
pub words_given : (key : Key) (frame order child n : ℕ) (old new : Option (List ℕ)) → 7 ≤ order → order ≤ 8
    → IsBlock key (block frame order) → child ≡ frame / 512 → n ≡ 2 ^ order → HasGivenWords key old new (8 * child + frame / 64 % 8)
    (n / 64) → WordsGive key old new (block frame order)
words_given key frame order child n None new l h is c e given = tt
words_given key frame order child n (Some ws) new l h is c e given =
    let size : 2 ^ order ≡ 64 * (n / 64) = size_in_words order l h ∙ ap (λ k. 64 * (k / 64)) (sym e) in
    let from : frame ≡ 64 * (8 * child + frame / 64 % 8) =
    begins_in_words frame order l h is.aligned ∙ ap (λ k. 64 * (8 * k + frame / 64 % 8)) (sym c) in (
      given.0,
      (
        given.1.0,
        words_as_block key given.0 ws (8 * child + frame / 64 % 8) (n / 64) (block frame order) (omega (arith, h)) from
            size given.1.1,
      ),
    )

-- the block was released, and its frames were refunded
pub small_given : (key mid_key was : Key) (y : View) (alone : Type 0) (b d : FrameBlock) (child n : ℕ)
    (old in_flight low new : Option (List ℕ)) → key ≡ was → mid_key ≡ was → d ≡ b → in_flight ≡ old → CanRefund key y child n
    → ((us : List ℕ) → low ≡ Some us → FitsAlone alone key us y) → WordsGive mid_key in_flight low d
    → Changes key (refund child n) low new → WordsGive was old new b
small_given key mid_key was y alone b d child n None in_flight low new same mid_same is flight can fits given step = tt
small_given key mid_key was y alone b d child n (Some ws) in_flight low new same mid_same is flight can fits given step =
    let there : (us : List ℕ) × ((low ≡ Some us) × HoldsMore mid_key us ws d) =
    at_known in_flight (λ ws. (us : List ℕ) × ((low ≡ Some us) × HoldsMore mid_key us ws d)) ws flight given in
    let us : List ℕ = there.0 in
    let vs : List ℕ = words_after key (refund child n) us in
    let known : FitsAlone alone key us y = fits us there.1.0 in
    let held : HoldsMore key us ws b =
    subst (λ b. HoldsMore key us ws b) is (subst (λ (k : Key). HoldsMore k us ws d) (mid_same ∙ sym same) there.1.1) in (
      vs,
      (
        at_known low (λ us. new ≡ Some (words_after key (refund child n) us)) us there.1.0 step,
        subst (λ (k : Key). HoldsMore k vs ws b) same
            (less_then_same key vs us ws b (refund_same key us child n (range_alone alone key us y known) can.inside
            (charged_has_room alone key us y known child n can.inside can.charged)) held),
      ),
    )

-- the huge frame in flight was given
pub huge_given : (key was : Key) (v : View) (alone : Type 0) (b : FrameBlock) (frame order child : ℕ) (rest : List FrameBlock)
    (old mid new : Option (List ℕ)) → key ≡ was → IsBlock was b → frame ≡ b.frame → order ≡ b.order → order ≡ 9 → child ≡ frame / 512
    → mid ≡ old → CanGiveHuge key v child rest → ((us : List ℕ) → mid ≡ Some us → FitsAlone alone key us v)
    → Changes key (give_whole child) mid new → WordsGive was old new b
huge_given key was v alone b frame order child rest None mid new same is f o nine c flight can fits step = tt
huge_given key was v alone b frame order child rest (Some ws) mid new same is f o nine c flight can fits step =
    let z : b.frame % 512 ≡ 0 = subst (λ i. b.frame % 2 ^ i ≡ 0) (sym o ∙ nine) is.aligned in
    let whole : block (512 * child) 9 ≡ b =
    sym (ap (λ i. block i b.order) (omega (arith, z, f, c)) ∙ ap (block (512 * child)) (sym o ∙ nine)) in
    let known : FitsAlone alone key ws v = fits ws flight in
    let vs : List ℕ = words_after key (give_whole child) ws in
    let own : 0 < wholes child v.own = omega (arith, can.leaves.wholes child, whole_here child) in (
      vs,
      (
        at_known mid (λ us. new ≡ Some (words_after key (give_whole child) us)) ws flight step,
        subst (λ (k : Key). HoldsMore k vs ws b) same
            (subst (λ d. HoldsMore key vs ws d) whole
            (given_whole key ws child (range_alone alone key ws v known) can.inside
            (whole_entry alone key ws v known child can.inside own)
            (λ x e. whole_is_clear alone key ws v known child x can.inside own (can.unfilled (x / 64) (omega arith)) e))),
      ),
    )
