-- What takes of whole words do to the words where nobody else steps.
use Rattle.std.proofs.Common.{◌≡◌, inr, ⊎_elim, length, Bool, true, ℕ, ◌+◌, ◌-◌, ◌*◌, ◌/◌, ◌%◌, ◌^◌, ◌<◌, ◌≤◌, List, Option, None, Some}
use Rattle.std.proofs.Common.{refl, ap, sym, subst, ◌∙◌, arith}
use Rattle.std.specs.Prelude.{IfSome, slice_index, slice_set}
use Rattle.std.proofs.lemmas.Bool.{cases_lt}
use Rattle.std.proofs.lemmas.List.{get_or-set_same, get_or-set_other}
use Rattle.frame_words.specs.Runs.{IsClearGroup, HasNoClearGroup}
use Rattle.frame_model.specs.declared.key.Key.{Key}
use Rattle.frame_model.specs.declared.view.View.{View}
use Rattle.frame_model.specs.declared.block.FrameBlock.{FrameBlock}
use Rattle.frame_model.specs.Block.{block}
use Rattle.frame_model.specs.Words.{bits_place, bit_word_of, huge_of, AreInRange}
use Rattle.frame_model.specs.Report.{held_at}
use Rattle.frame_model.specs.View.{charged_in}
use Rattle.frame_core.specs.Moves.{Changes, Exchanges}
use Rattle.frame_model.specs.Steps.{refund, claim, words_after}
use Rattle.frame_model.proofs.Steps.Shared.{bit_word_is}
use Rattle.low_frames.specs.Alone.{IsFreeIn, HoldsMore, Turns, IsCharged, WordsTake, HasNoneIn, FindsOf}
use Rattle.frame_core.specs.Mover.{Mover}
use Rattle.low_frames.specs.Takes.{IsBlockIn, LosesNone}
use Rattle.low_frames.specs.Groups.{HoldsMoreWords, HasTakenWords, WhereFree, AreFree, AreWordsOf}
use Rattle.low_frames.proofs.AloneLemmas.{if_known, at_known, exchange_made}
use Rattle.low_frames.proofs.RoomLemmas.{FitsAlone, range_alone, is_covered, refund_back}
use Rattle.low_frames.proofs.GiveLemmas.{size_in_words, begins_in_words}
use Rattle.low_frames.proofs.WideLemmas.{two_or_four, group_is}
use Rattle.low_frames.proofs.FlightLemmas.{charged_no_flag, is_word}
use Rattle.low_frames.proofs.HeldLemmas.{AreSame, held_same, words_else, free_word, charge_same, same_then_more, clear_word_is_free}
use Rattle.low_frames.proofs.HeldLemmas.{claimed_run, block_as_words, words_as_block, no_more_words, words_up}

-- the list has the first of the bit words of the child
abbrev pub AreFirstOf : Key → ℕ → ℕ → List ℕ → List ℕ → Type 0
AreFirstOf key child i list words = (j : ℕ) → j < i → slice_index list j ≡ bit_word_of key words (8 * child + j)

-- one word more was loaded
pub loaded_more : (key was : Key) (child i found : ℕ) (list : List ℕ) (old mid new : Option (List ℕ)) → key ≡ was → i < 8
    → length list ≡ 8 → IfSome mid (λ ws. (slice_index ws (bits_place key (8 * child + i)) ≡ found) × (new ≡ Some ws))
    → FindsOf (AreFirstOf was child i list) old mid → FindsOf (AreFirstOf was child (i + 1) (slice_set list i found)) old new
loaded_more key was child i found list None mid new same h size load before = tt
loaded_more key was child i found list (Some ws) mid new same h size load before =
    let here : (slice_index ws (bits_place key (8 * child + i)) ≡ found) × (new ≡ Some ws) =
    at_known mid (λ ws. (slice_index ws (bits_place key (8 * child + i)) ≡ found) × (new ≡ Some ws)) ws before.0 load in
    let last : found ≡ bit_word_of was ws (8 * child + i) =
    sym here.0 ∙ ap (λ (k : Key). slice_index ws (bits_place k (8 * child + i))) same ∙ sym (bit_word_is was ws (8 * child + i)) in (
      here.1,
      λ j l.
          ⊎_elim
          (λ q. get_or-set_other list i j found 0 (λ e. omega arith) ∙ before.1 j q)
          (λ q. let e : i ≡ j = omega arith in subst (λ k. slice_index (slice_set list i found) k ≡ bit_word_of was ws (8 * child + k))
          e (get_or-set_same list i found 0 (omega arith) ∙ last))
          (cases_lt j i),
    )

-- where the frames of a word were free, the first try to claim it is made
pub word_claimed : (key was : Key) (v : View) (alone : Type 0) (word i : ℕ) (made : Bool) (old mid new : Option (List ℕ)) → key ≡ was
    → word < 8 * was.children → 0 < charged_in (word / 8) v → ((ws : List ℕ) → mid ≡ Some ws → FitsAlone alone key ws v)
    → WhereFree was old word 1 ((i ≡ 0) × (mid ≡ old)) → Exchanges key (claim word 0 0 6) 0 made mid new
    → WhereFree was old word 1 ((made ≡ true) × HasTakenWords was old new word 1)
word_claimed key was v alone word i made None mid new same inside some_charged fits first claims = tt
word_claimed key was v alone word i made (Some ws) mid new same inside some_charged fits first claims =
    λ free.
    let now : mid ≡ Some ws = (first free).1 in
    let known : FitsAlone alone was ws v = subst (λ (k : Key). FitsAlone alone k ws v) same (fits ws now) in
    let range : AreInRange was ws = range_alone alone was ws v known in
    let clear : bit_word_of was ws word ≡ 0 =
    free_word was ws word (range.bits word inside) (λ x e. free x (omega arith) (omega arith)) in
    let there : slice_index ws (bits_place key word) ≡ 0 =
    ap (λ (k : Key). slice_index ws (bits_place k word)) same ∙ sym (bit_word_is was ws word) ∙ clear in
    let flag : huge_of ws (word / 8) ≡ 0 = charged_no_flag alone was ws v known (word / 8) (omega arith) some_charged in
    let us : List ℕ = words_after was (claim word 0 0 6) ws in
    let done : (made ≡ true) × (new ≡ Some (words_after key (claim word 0 0 6) ws)) =
    exchange_made key (claim word 0 0 6) 0 made ws mid new now there claims in (
      done.0,
      (
        us,
        (
          done.1 ∙ ap (λ (k : Key). Some (words_after k (claim word 0 0 6) ws)) same,
          block_as_words was ws us word 1 (block (64 * word + 0) 6) (omega arith) (omega arith) (omega arith) (omega arith)
              (claimed_run was ws word 0 6 0 range (is_word was word inside) flag (sym (bit_word_is was ws word) ∙ clear) refl),
        ),
      ),
    )

-- where the words are free, what follows from what holds
pub then_holds : (key : Key) (old : Option (List ℕ)) (first count : ℕ) (P Q : Type 0) → WhereFree key old first count P → (P → Q)
    → WhereFree key old first count Q
then_holds key None first count P Q h f = tt
then_holds key (Some ws) first count P Q h f = λ free. f (h free)

pub both_hold : (key : Key) (old : Option (List ℕ)) (first count : ℕ) (P Q : Type 0) → WhereFree key old first count P
    → WhereFree key old first count Q → WhereFree key old first count (P × Q)
both_hold key None first count P Q g h = tt
both_hold key (Some ws) first count P Q g h = λ free. (g free, h free)

pub none_taken : {T H : Type 0} (m : Mover T H) (first count : ℕ)
    → WhereFree m.key m.words first count (HasTakenWords m.key m.words m.words first 0 × LosesNone m m)
none_taken m first count = by_words m.words
  where
    by_words : (old : Option (List ℕ)) → WhereFree m.key old first count (HasTakenWords m.key old old first 0 × LosesNone m m)
    by_words None = tt
    by_words (Some ws) = λ free. ((ws, (refl, no_more_words m.key ws first)), record { missed = refl; lost = refl })

-- one word more was claimed, and none was lost
pub taken_more : (key was : Key) (first count i : ℕ) (r : Option ℕ) (old mid new : Option (List ℕ)) (P Q : Type 0) → key ≡ was
    → first + count ≤ 8 * was.children → i < count → WhereFree was old first count (HasTakenWords was old mid first i × P)
    → WhereFree key mid (first + i) 1 ((r ≡ None) × (HasTakenWords key mid new (first + i) 1 × Q))
    → WhereFree was old first count ((r ≡ None) × (HasTakenWords was old new first (i + 1) × (P × Q)))
taken_more key was first count i r None mid new P Q same inside h before step = tt
taken_more key was first count i r (Some ws) mid new P Q same inside h before step =
    λ free.
    let taken : (us : List ℕ) × ((mid ≡ Some us) × HoldsMoreWords was ws us first i) = (before free).0 in
    let us : List ℕ = taken.0 in
    let still : AreFree was us (first + i) 1 = λ x l m. words_else was ws us first i x taken.1.1 (omega arith) (inr l)
    ∙ free x (omega arith) (omega arith) in
    let made : (r ≡ None) × (HasTakenWords key mid new (first + i) 1 × Q) =
    at_known mid (λ us. AreFree key us (first + i) 1 → (r ≡ None) × (HasTakenWords key mid new (first + i) 1 × Q)) us taken.1.0 step
    (subst (λ k. AreFree k us (first + i) 1) (sym same) still) in
    let there : (vs : List ℕ) × ((new ≡ Some vs) × HoldsMoreWords key us vs (first + i) 1) =
    at_known mid (λ us. (vs : List ℕ) × ((new ≡ Some vs) × HoldsMoreWords key us vs (first + i) 1)) us taken.1.0 made.1.0 in
    let more : HoldsMoreWords was us there.0 (first + i) 1 = subst (λ k. HoldsMoreWords k us there.0 (first + i) 1) same there.1.1 in
    let all : HasTakenWords was (Some ws) new first (i + 1) =
    (there.0, (there.1.0, words_up was ws us there.0 first i (omega arith) taken.1.1 more)) in
    (made.0, (all, ((before free).1, made.1.1)))

-- nothing that was free was lost
pub not_lost : {X : Type 0} (x : X) (P : Type 0) → Some x ≡ None → P
not_lost x P e = absurd (cc)

-- Groups of words.

-- where the words were known, no try was lost, they are as they were, and the list has those of the child
abbrev pub IsFirstLook : Key → ℕ → ℕ → List ℕ → Option (List ℕ) → Option (List ℕ) → Type 0
IsFirstLook key child tries list old now = IfSome old (λ ws. (tries ≡ 0) × (now ≡ Some ws) × AreWordsOf key child list ws)

pub first_look : (key : Key) (child : ℕ) (list : List ℕ) (old now : Option (List ℕ)) → FindsOf (AreWordsOf key child list) old now
    → IsFirstLook key child 0 list old now
first_look key child list None now loaded = tt
first_look key child list (Some ws) now loaded = (refl, loaded.0, loaded.1)

-- a free block of whole words is a clear group
free_is_group : (key : Key) (ws list : List ℕ) (child order : ℕ) → 7 ≤ order → order ≤ 8 → AreInRange key ws
    → AreWordsOf key child list ws → (b : FrameBlock) → IsBlockIn key child order b → IsFreeIn key ws b
    → IsClearGroup list order (b.frame / 64 % 8)
free_is_group key ws list child order l h r words b is free =
    let first : ℕ = b.frame / 64 % 8 in
    let count : ℕ = 2 ^ order / 64 in
    let size : 64 * count ≡ 2 ^ order = sym (size_in_words order l h) in
    let group : 2 ^ (order - 6) ≡ count = group_is order count l h size in
    let al : b.frame % 2 ^ order ≡ 0 = subst (λ o. b.frame % 2 ^ o ≡ 0) is.has_order is.is_block.aligned in
    let long : 2 ^ b.order ≡ 2 ^ order = ap (λ o. 2 ^ o) is.has_order in
    let from : b.frame ≡ 64 * (8 * (b.frame / 512) + first) = begins_in_words b.frame order l h al in
    let lies : (first % count ≡ 0) × (first + count ≤ 8) =
    ⊎_elim
    (λ k. let z : b.frame % 128 ≡ 0 = subst (λ o. b.frame % 2 ^ o ≡ 0) k.0 al in
    subst (λ n. (first % n ≡ 0) × (first + n ≤ 8)) (sym k.1) (omega arith, omega arith))
    (λ k. let z : b.frame % 256 ≡ 0 = subst (λ o. b.frame % 2 ^ o ≡ 0) k.0 al in
    subst (λ n. (first % n ≡ 0) × (first + n ≤ 8)) (sym k.1) (omega arith, omega arith))
    (two_or_four order count l h size) in
    record {
      aligned = subst (λ n. first % n ≡ 0) (sym group) lies.0;
      inside = omega (arith, group, lies.1);
      clear = λ i p q.
          let below : i < 8 = omega (arith, group, lies.1) in
          words i below
          ∙ free_word key ws (8 * child + i) (r.bits (8 * child + i) (omega (arith, is.in_child, is.is_block.inside, long, size)))
          (λ x e. free x (is_covered b x (omega (arith, from, is.in_child)) (omega (arith, from, is.in_child, long, size, group))));
    }

-- no group of the order is clear
pub group_none : (key was : Key) (v : View) (alone : Type 0) (child order tries : ℕ) (list : List ℕ) (old now : Option (List ℕ))
    → key ≡ was → 7 ≤ order → order ≤ 8 → ((ws : List ℕ) → now ≡ Some ws → FitsAlone alone key ws v)
    → IsFirstLook was child tries list old now → HasNoClearGroup list order → FindsOf (HasNoneIn was child order) old now
group_none key was v alone child order tries list old now same l h fits look none =
    if_known old (λ ws. (tries ≡ 0) × (now ≡ Some ws) × AreWordsOf was child list ws)
    (λ ws. (now ≡ Some ws) × HasNoneIn was child order ws) look
    (λ ws at e.
    let known : FitsAlone alone was ws v = subst (λ (k : Key). FitsAlone alone k ws v) same (fits ws e.1) in (
      e.1,
      λ b is free. none (b.frame / 64 % 8) (free_is_group was ws list child order l h (range_alone alone was ws v known)
          e.2 b is free),
    ))

-- the words of a clear group are free
pub group_tried : (key was : Key) (v : View) (alone : Type 0) (child order count first tries : ℕ) (list : List ℕ)
    (old now : Option (List ℕ)) (P : Type 0) → key ≡ was → 7 ≤ order → order ≤ 8 → 64 * count ≡ 2 ^ order → child < was.children
    → 0 < charged_in child v → ((ws : List ℕ) → now ≡ Some ws → FitsAlone alone key ws v) → IsFirstLook was child tries list old now
    → IsClearGroup list order first → WhereFree key now (8 * child + first) count P → IfSome old (λ ws. (now ≡ Some ws) × P)
group_tried key was v alone child order count first tries list old now P same l h size inside some_charged fits look group tried =
    if_known old (λ ws. (tries ≡ 0) × (now ≡ Some ws) × AreWordsOf was child list ws) (λ ws. (now ≡ Some ws) × P) look
    (λ ws at e.
    let known : FitsAlone alone was ws v = subst (λ (k : Key). FitsAlone alone k ws v) same (fits ws e.1) in
    let flag : huge_of ws child ≡ 0 = charged_no_flag alone was ws v known child inside some_charged in
    let long : 2 ^ (order - 6) ≡ count = group_is order count l h size in
    let within : first + 2 ^ (order - 6) ≤ 8 = group.inside in
    let free : AreFree was ws (8 * child + first) count =
    λ x p q.
    let k : ℕ = x / 64 in
    let i : ℕ = k - 8 * child in
    let at : 8 * child + i ≡ k = omega arith in
    let there : k / 8 ≡ child = omega arith in
    clear_word_is_free was ws k x (ap (huge_of ws) there ∙ flag)
    (sym (ap (bit_word_of was ws) at) ∙ sym (e.2 i (omega arith)) ∙ group.clear i (omega arith) (omega arith)) refl in (
      e.1,
      at_known now (λ us. AreFree key us (8 * child + first) count → P) ws e.1 tried
          (subst (λ (k : Key). AreFree k ws (8 * child + first) count) (sym same) free),
    ))

-- a clear group was taken
pub group_taken : (key was : Key) (child order count first : ℕ) (old now new : Option (List ℕ)) (P Q : Type 0) → key ≡ was
    → order ≤ 8 → 64 * count ≡ 2 ^ order
    → IfSome old (λ ws. (now ≡ Some ws) × (P × (HasTakenWords key now new (8 * child + first) count × Q)))
    → WordsTake was old new (block (512 * child + 64 * first) order)
group_taken key was child order count first old now new P Q same high size done =
    if_known old (λ ws. (now ≡ Some ws) × (P × (HasTakenWords key now new (8 * child + first) count × Q)))
    (λ ws. (us : List ℕ) × ((new ≡ Some us) × HoldsMore was ws us (block (512 * child + 64 * first) order))) done
    (λ ws at e.
    let taken : (us : List ℕ) × ((new ≡ Some us) × HoldsMoreWords key ws us (8 * child + first) count) =
    at_known now (λ ws. (us : List ℕ) × ((new ≡ Some us) × HoldsMoreWords key ws us (8 * child + first) count)) ws e.0 e.1.1.0 in (
      taken.0,
      (
        taken.1.0,
        words_as_block was ws taken.0 (8 * child + first) count (block (512 * child + 64 * first) order) (omega (arith, high))
            (omega arith) (sym size)
            (subst (λ (k : Key). HoldsMoreWords k ws taken.0 (8 * child + first) count) same taken.1.1),
      ),
    ))

-- not all tries are lost
pub some_try : (order count tries : ℕ) → 7 ≤ order → order ≤ 8 → 64 * count ≡ 2 ^ order → 8 / count ≤ tries → 0 < tries
some_try order count tries l h size e =
    ⊎_elim
    (λ k. let p : 8 / 2 ≤ tries = subst (λ n. 8 / n ≤ tries) k.1 e in omega arith)
    (λ k. let p : 8 / 4 ≤ tries = subst (λ n. 8 / n ≤ tries) k.1 e in omega arith)
    (two_or_four order count l h size)

pub look_again : (key : Key) (child tries : ℕ) (list : List ℕ) (old now : Option (List ℕ)) (P : List ℕ → Type 0) → 0 < tries
    → IsFirstLook key child tries list old now → IfSome old P
look_again key child tries list old now P h look =
    if_known old (λ ws. (tries ≡ 0) × (now ≡ Some ws) × AreWordsOf key child list ws) P look (λ ws at e. absurd (omega (arith, e.0)))

pub look_lost : {X : Type 0} (old now : Option (List ℕ)) (x : X) (P : Type 0) (Q : List ℕ → Type 0)
    → IfSome old (λ ws. (now ≡ Some ws) × ((Some x ≡ None) × P)) → IfSome old Q
look_lost old now x P Q h = if_known old (λ ws. (now ≡ Some ws) × ((Some x ≡ None) × P)) Q h (λ ws at e. not_lost x (Q ws) e.1.0)

-- Takes of blocks of whole words.

-- a charge, a claim of a group and a handing out
pub wide_taken : (key mid_key : Key) (v : View) (alone : Type 0) (child n : ℕ) (b d : FrameBlock) (old mid now new : Option (List ℕ))
    → mid_key ≡ key → child < key.children → d ≡ b → ((ws : List ℕ) → old ≡ Some ws → FitsAlone alone key ws v)
    → Turns (IsCharged key child n) old mid → WordsTake mid_key mid now b → new ≡ now → WordsTake key old new d
wide_taken key mid_key v alone child n b d old mid now new same inside is fits charged taken out =
    if_known old (λ ws. (us : List ℕ) × ((mid ≡ Some us) × IsCharged key child n ws us))
    (λ ws. (vs : List ℕ) × ((new ≡ Some vs) × HoldsMore key ws vs d)) charged
    (λ ws e h.
    let us : List ℕ = h.0 in
    let held : AreSame key ws us =
    subst (AreSame key ws) (sym h.1.1.words) (charge_same key ws child n (range_alone alone key ws v (fits ws e)) inside h.1.1.no_flag) in
    let there : (vs : List ℕ) × ((now ≡ Some vs) × HoldsMore mid_key us vs b) =
    at_known mid (λ us. (vs : List ℕ) × ((now ≡ Some vs) × HoldsMore mid_key us vs b)) us h.1.0 taken in (
      there.0,
      (
        out ∙ there.1.0,
        subst (HoldsMore key ws there.0) (sym is)
            (same_then_more key ws us there.0 b held (subst (λ k. HoldsMore k us there.0 b) same there.1.1)),
      ),
    ))

-- a charge, no clear group, and a refund
pub wide_none : (key mid_key last_key : Key) (v : View) (alone : Type 0) (child order n : ℕ) (old mid now new : Option (List ℕ))
    → mid_key ≡ key → last_key ≡ key → child < key.children → ((ws : List ℕ) → old ≡ Some ws → FitsAlone alone key ws v)
    → Turns (IsCharged key child n) old mid → FindsOf (HasNoneIn mid_key child order) mid now
    → Changes last_key (refund child n) now new → FindsOf (HasNoneIn key child order) old new
wide_none key mid_key last_key v alone child order n old mid now new same last inside fits charged none back =
    if_known old (λ ws. (us : List ℕ) × ((mid ≡ Some us) × IsCharged key child n ws us))
    (λ ws. (new ≡ Some ws) × HasNoneIn key child order ws) charged
    (λ ws e h.
    let us : List ℕ = h.0 in
    let range : AreInRange key ws = range_alone alone key ws v (fits ws e) in
    let held : (x : ℕ) → held_at key us x ≡ held_at key ws x =
    held_same key ws us (subst (AreSame key ws) (sym h.1.1.words) (charge_same key ws child n range inside h.1.1.no_flag)) in
    let found : (now ≡ Some us) × HasNoneIn mid_key child order us =
    at_known mid (λ us. (now ≡ Some us) × HasNoneIn mid_key child order us) us h.1.0 none in
    let there : new ≡ Some (words_after last_key (refund child n) us) =
    at_known now (λ us. new ≡ Some (words_after last_key (refund child n) us)) us found.0 back in
    let none_there : HasNoneIn key child order us = subst (λ k. HasNoneIn k child order us) same found.1 in (
      there ∙ ap (λ k. Some (words_after k (refund child n) us)) last ∙ ap Some (refund_back key ws us child n range inside h.1.1),
      λ b is free. none_there b is (λ x c. held x ∙ free x c),
    ))
