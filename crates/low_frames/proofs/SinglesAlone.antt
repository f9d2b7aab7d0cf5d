-- What takes of several single frames do to the words where nobody else steps.
use Rattle.std.proofs.Common.{◌≡◌, ⊎_elim, ℕ, ◌+◌, ◌-◌, ◌*◌, ◌/◌, ◌%◌, ◌^◌, ◌<◌, ◌≤◌, max, List, [], ◌∷◌, ◌++◌, set, Option, None, Some, refl, ap, sym, subst, ◌∙◌, arith}
use Rattle.std.specs.Prelude.{Bool, slice_index}
use Rattle.std.specs.Int.{bit_at}
use Rattle.std.specs.Int.Bits.{bit_and, bit_or}
use Rattle.std.specs.Int.Count.{ones}
use Rattle.std.proofs.lemmas.List.{set-get_or}
use Rattle.std.proofs.lemmas.Nat.{and_le_r, or_disjoint}
use Rattle.std.proofs.lemmas.Nat.Bits.{bit_at_and, bit_at_or, bit_at-lt, bit_at-zero}
use Rattle.std.proofs.lemmas.Bool.{cases_lt, cases_eq}
use Rattle.frame_words.specs.Words.{free_in, lane_in}
use Rattle.frame_model.specs.declared.block.FrameBlock.{FrameBlock}
use Rattle.frame_model.specs.declared.key.Key.{Key}
use Rattle.frame_model.specs.declared.view.View.{View}
use Rattle.frame_model.specs.Block.{block, small_at, smalls, single_blocks}
use Rattle.frame_model.specs.Words.{entry_place, bits_place, bit_of, free_of, huge_of, bit_word_of, AreInRange}
use Rattle.frame_model.specs.View.{charged_in}
use Rattle.frame_model.specs.Report.{held_at}
use Rattle.frame_model.specs.Steps.{Kind, refund, claim_singles, words_after}
use Rattle.frame_model.proofs.Blocks.{smalls_cons, smalls_none, smalls_both, in_block}
use Rattle.frame_model.proofs.Chosen.{frame_else, singles_at}
use Rattle.frame_model.proofs.Sets.{bit-le-ones, bit_at_full}
use Rattle.frame_model.proofs.Words.{BitsWritten, bits_written}
use Rattle.frame_model.proofs.Steps.Shared.{bit-le, bit_is, bit_word_is, as_bits}
use Rattle.frame_core.specs.Moves.{Changes, Exchanges}
use Rattle.low_frames.specs.Alone.{Turns, FindsOf, IsCharged, HasTooFew}
use Rattle.low_frames.specs.SinglesAlone.{AreHeld, HoldsMoreOf, TakesUpTo, ClaimsUpTo, SetsBits}
use Rattle.low_frames.proofs.AloneLemmas.{IsSeen, at_known, if_known, made_first, free_seen}
use Rattle.low_frames.proofs.BitLemmas.{IsLowest, lowest_gone, others_stay}
use Rattle.low_frames.proofs.ViewLemmas.{covered_from}
use Rattle.low_frames.proofs.RoomLemmas.{FitsAlone, range_alone, none_of_few}
use Rattle.low_frames.proofs.RoomLemmas.Charged.{charge_written, charge_flags}
use Rattle.low_frames.proofs.HeldLemmas.{AreSame, refund_same}
use Rattle.low_frames.proofs.FlightLemmas.{charged_has_room}

-- Words that may be known.

pub turns_here : (R : List ℕ → List ℕ → Type 0) (o : Option (List ℕ)) → ((ws : List ℕ) → R ws ws) → Turns R o o
turns_here R None f = tt
turns_here R (Some ws) f = (ws, (refl, f ws))

pub turns_same : (R : List ℕ → List ℕ → Type 0) (old new : Option (List ℕ)) → new ≡ old → ((ws : List ℕ) → R ws ws) → Turns R old new
turns_same R None new e f = tt
turns_same R (Some ws) new e f = (ws, (e, f ws))

pub turns_both : {R S T : List ℕ → List ℕ → Type 0} (a b c : Option (List ℕ)) → Turns R a b → Turns S b c
    → ((ws us vs : List ℕ) → a ≡ Some ws → b ≡ Some us → c ≡ Some vs → R ws us → S us vs → T ws vs) → Turns T a c
turns_both None b c r s f = tt
turns_both {S = S} (Some ws) b c r s f =
    let t = at_known b (λ us. (vs : List ℕ) × ((c ≡ Some vs) × S us vs)) r.0 r.1.0 s in
    (t.0, (t.1.0, f ws r.0 t.0 refl r.1.0 t.1.0 r.1.1 t.1.1))

pub turns_into : {R S : List ℕ → List ℕ → Type 0} (old new : Option (List ℕ)) → Turns R old new
    → ((ws us : List ℕ) → old ≡ Some ws → new ≡ Some us → R ws us → S ws us) → Turns S old new
turns_into None new t f = tt
turns_into (Some ws) new t f = (t.0, (t.1.0, f ws t.0 refl t.1.0 t.1.1))

pub found_here : (P : List ℕ → Type 0) (old new : Option (List ℕ)) → FindsOf P old new → Turns (λ ws us. (us ≡ ws) × P us) old new
found_here P None new f = tt
found_here P (Some ws) new f = (ws, (f.0, (refl, f.1)))

-- the free frames of an entry that was seen
pub free_here : (child seen entry f : ℕ) (old now : Option (List ℕ)) → IsSeen (entry_place child) seen old now → entry ≡ lane_in seen child
    → f ≡ free_in entry → Turns (λ ws us. (us ≡ ws) × (free_of ws child ≡ f)) old now
free_here child seen entry f None now s lane e = tt
free_here child seen entry f (Some ws) now s lane e =
    (ws, (s.1, (refl, sym (free_seen ws child seen entry s.0 lane) ∙ sym e)))

pub changed_here : (key : Key) (kind : Kind) (old new : Option (List ℕ)) → Changes key kind old new
    → Turns (λ ws us. us ≡ words_after key kind ws) old new
changed_here key kind None new c = tt
changed_here key kind (Some ws) new c = (words_after key kind ws, (c, refl))

-- Frames that are held.

held_is : (key : Key) (ws : List ℕ) (x : ℕ) → held_at key ws x ≡ max (bit_of key ws x) (huge_of ws (x / 512))
unfolding held_at
held_is key ws x = refl

pub holds_none : (key : Key) (ws us : List ℕ) → ((x : ℕ) → bit_of key us x ≡ bit_of key ws x)
    → ((c : ℕ) → huge_of us c ≡ huge_of ws c) → HoldsMoreOf key [] ws us
holds_none key ws us bits flags = record {
  were_free = λ x h some. absurd (omega (arith, some, smalls_none x));
  bits = λ x h. omega (arith, bits x, smalls_none x);
  flags = λ c h. flags c;
}

pub holds_both : (key : Key) (es bs : List FrameBlock) (ws us vs : List ℕ) → HoldsMoreOf key es ws us → HoldsMoreOf key bs us vs
    → HoldsMoreOf key (es ++ bs) ws vs
holds_both key es bs ws us vs f g = record {
  were_free = λ x h some.
      ⊎_elim
      (λ (none : smalls x es < 1). omega (
        arith,
        g.were_free x h (omega (arith, some, smalls_both x es bs)),
        held_is key us x,
        held_is key ws x,
        f.bits x h,
        f.flags (x / 512) (omega arith),
      ))
      (λ first. f.were_free x h (omega (arith, first)))
      (cases_lt (smalls x es) 1);
  bits = λ x h. omega (arith, f.bits x h, g.bits x h, smalls_both x es bs);
  flags = λ c h. g.flags c h ∙ f.flags c h;
}

-- what is held stays so
pub still_held : (key : Key) (bs : List FrameBlock) (ws us : List ℕ) (from count : ℕ) → HoldsMoreOf key bs ws us
    → AreHeld key from count ws → AreHeld key from count us
still_held key bs ws us from count f held x l m h =
    omega (arith, held_is key us x, held_is key ws x, f.bits x h, f.flags (x / 512) (omega arith), held x l m h)

pub none_held : (key : Key) (from : ℕ) (ws : List ℕ) → AreHeld key from 0 ws
none_held key from ws x l m h = absurd (omega arith)

-- so many, and so many behind them
pub both_held : (key : Key) (from count next more all : ℕ) (ws : List ℕ) → next ≡ from + count → all ≡ count + more
    → AreHeld key from count ws → AreHeld key next more ws → AreHeld key from all ws
both_held key from count next more all ws e f one two x l m h =
    ⊎_elim
    (λ (low : x < from + count). one x l low h)
    (λ high. two x (omega (arith, high)) (omega arith) h)
    (cases_lt x (from + count))

-- frames past the last child do not count
pub past_held : (key : Key) (from count all child : ℕ) (ws : List ℕ) → key.children ≤ child → from + count ≡ 512 * child
    → AreHeld key from count ws → AreHeld key from all ws
past_held key from count all child ws past e one x l m h = one x l (omega arith) h

-- a child whose entry shows no free frame
pub child_held : (A : Type 0) (key : Key) (ws : List ℕ) (v : View) → FitsAlone A key ws v → A → (child : ℕ) → child < key.children
    → v.charged ≡ None → HasTooFew child 1 ws → AreHeld key (512 * child) 512 ws
child_held A key ws v fits alone child inside none few x l m h =
    let b : FrameBlock = block x 0 in
    ⊎_elim
    (λ (z : held_at key ws x ≡ 0). absurd (none_of_few A key ws v fits alone child inside none 0 few b
    (record { is_block = record { order = omega arith; aligned = omega arith; inside = omega arith }; has_order = refl; in_child = omega arith })
    (λ y c. let w = covered_from b y c in
    let same : x ≡ y = omega (arith, w.0, w.1) in
    subst (λ k. held_at key ws k ≡ 0) same z)))
    (λ some. omega (arith, some))
    (cases_eq (held_at key ws x) 0)

-- What the parts change.

-- a charge holds no frame
pub charge_holds : (key : Key) (ws us : List ℕ) (child n : ℕ) → AreInRange key ws → child < key.children → IsCharged key child n ws us
    → HoldsMoreOf key [] ws us
charge_holds key ws us child n r inside charged =
    holds_none key ws us (charge_written key ws us child n r inside charged).bits (charge_flags key ws us child n r inside charged)

-- bits that were set, and their frames
pub sets_hold : (key : Key) (ws us : List ℕ) (word mask n : ℕ) (blocks : List FrameBlock) → AreInRange key ws → word < 8 * key.children
    → (0 < ones mask → huge_of ws (word / 8) ≡ 0) → SetsBits key word mask n ws us
    → ((x : ℕ) → smalls x blocks ≡ smalls x (single_blocks word mask)) → ClaimsUpTo key (64 * word) 64 (ones mask) n blocks ws us
sets_hold key ws us word mask n blocks r inside flag sets of_mask =
    let seen : ℕ = bit_word_of key ws word in
    let new : ℕ = bit_or seen mask in
    let are = singles_at key word mask inside in
    let written : BitsWritten key ws word new us =
    subst (BitsWritten key ws word new) (as_bits key ws word new new refl ∙ sym sets.words) (bits_written key ws word new r inside) in
    let bits : (x : ℕ) → bit_of key us x ≡ bit_of key ws x + smalls x blocks =
    λ x.
    ⊎_elim
    (λ e. omega (
      arith,
      written.bits_here x e,
      of_mask x,
      are.here x e,
      bit_is key ws x word e,
      bit_at_or seen mask (x % 64),
      bit_at_and seen mask (x % 64),
      ap (λ a. bit_at a (x % 64)) sets.were_clear,
      bit_at-zero (x % 64),
      bit_at-lt seen (x % 64),
      bit_at-lt mask (x % 64),
    ))
    (λ ne. omega (arith, written.bits_else x ne, of_mask x, are.elsewhere x ne))
    (cases_eq (x / 64) word) in
    record {
      takes = record {
        holds = record {
          were_free = λ x h some.
              let here : x / 64 ≡ word =
              ⊎_elim (λ e. e) (λ ne. absurd (omega (arith, some, of_mask x, are.elsewhere x ne))) (cases_eq (x / 64) word) in
              let child : x / 512 ≡ word / 8 = omega (arith, here) in
              let clear : huge_of ws (word / 8) ≡ 0 =
              flag (omega (arith, some, of_mask x, are.here x here, bit-le-ones (x % 64) mask)) in
              omega (arith, held_is key ws x, ap (huge_of ws) child, clear, bits x, some, bit-le key us x);
          bits = λ x h. bits x;
          flags = λ c h. written.huge c h;
        };
        none_left = λ few x l m h.
            let here : x / 64 ≡ word = omega arith in
            omega (
              arith,
              held_is key us x,
              written.bits_here x here,
              ap (λ a. bit_at a (x % 64)) (sets.none_left few),
              bit_at_full (x % 64) (omega arith),
            );
      };
      entries = λ c h. written.free c h;
    }

-- a refund holds no frame
pub refund_holds : (A : Type 0) (key : Key) (ws us : List ℕ) (v : View) (child n : ℕ) → FitsAlone A key ws v → child < key.children
    → n ≤ charged_in child v → us ≡ words_after key (refund child n) ws → HoldsMoreOf key [] ws us
refund_holds A key ws us v child n fits inside enough e =
    let same : AreSame key ws us =
    subst (AreSame key ws) (sym e) (refund_same key ws child n (range_alone A key ws v fits) inside
    (charged_has_room A key ws v fits child n inside enough)) in
    holds_none key ws us same.bits same.flags

-- What is taken, and what is found.

pub claims_none : (key : Key) (from k n : ℕ) (ws : List ℕ) → ClaimsUpTo key from 0 k n [] ws ws
claims_none key from k n ws = record {
  takes = record { holds = holds_none key ws ws (λ x. refl) (λ c. refl); none_left = λ h. none_held key from ws };
  entries = λ c h. refl;
}

-- the words stay as they are, and this is found of them
pub claims_at : (key : Key) (bs : List FrameBlock) (ws us vs : List ℕ) (from count k n : ℕ) {c d i j : ℕ}
    → ClaimsUpTo key c d i j bs ws us → vs ≡ us
    → (k < n → AreHeld key from count vs) → ClaimsUpTo key from count k n bs ws vs
claims_at key bs ws us vs from count k n f e found = record {
  takes = record { holds = subst (HoldsMoreOf key bs ws) (sym e) f.takes.holds; none_left = found };
  entries = λ c h. ap (λ l. free_of l c) e ∙ f.entries c h;
}

-- more is claimed
pub claims_both : (key : Key) (es bs : List FrameBlock) (ws us vs : List ℕ) (from count k n : ℕ) {c d i j e f h l : ℕ}
    → ClaimsUpTo key c d i j es ws us → ClaimsUpTo key e f h l bs us vs → (k < n → AreHeld key from count vs)
    → ClaimsUpTo key from count k n (es ++ bs) ws vs
claims_both key es bs ws us vs from count k n f g found = record {
  takes = record { holds = holds_both key es bs ws us vs f.takes.holds g.takes.holds; none_left = found };
  entries = λ c h. g.entries c h ∙ f.entries c h;
}

pub takes_none : (key : Key) (from k n : ℕ) (ws : List ℕ) → TakesUpTo key from 0 k n [] ws ws
takes_none key from k n ws = (claims_none key from k n ws).takes

-- What was seen of a bit word, and its bits that were set.

or_none : (n : ℕ) → bit_or n 0 ≡ n
or_none n = omega (arith, or_disjoint n 0 (omega (arith, and_le_r n 0)))

module _ (key was : Key) (word seen mask n : ℕ) (same : key ≡ was) (clear : bit_and seen mask ≡ 0)
    (full : ones mask < n → bit_or seen mask ≡ 2 ^ 64 - 1) where
  sets : (ws us : List ℕ) → slice_index ws (bits_place key word) ≡ seen → us ≡ words_after key (claim_singles word seen mask) ws
      → SetsBits was word mask n ws us
  sets ws us e is =
      let there : bit_word_of was ws word ≡ seen =
      bit_word_is was ws word ∙ ap (λ (k : Key). slice_index ws (bits_place k word)) (sym same) ∙ e in
      record {
        were_clear = ap (λ s. bit_and s mask) there ∙ clear;
        words = is ∙ ap (λ k. words_after k (claim_singles word seen mask) ws) same
            ∙ ap (λ s. words_after was (claim_singles word s mask) ws) (sym there);
        none_left = λ few. ap (λ s. bit_or s mask) there ∙ full few;
      }

  -- at the first try
  pub sets_first : (made : Bool) (old now new : Option (List ℕ)) → IsSeen (bits_place key word) seen old now
      → Exchanges key (claim_singles word seen mask) seen made now new → Turns (SetsBits was word mask n) old new
  sets_first made old now new load made_if =
      if_known old
      (λ ws. (slice_index ws (bits_place key word) ≡ seen) × (new ≡ Some (words_after key (claim_singles word seen mask) ws)))
      (λ ws. (us : List ℕ) × ((new ≡ Some us) × SetsBits was word mask n ws us))
      (made_first key (claim_singles word seen mask) seen made old now new load made_if)
      (λ ws d h. (words_after key (claim_singles word seen mask) ws, (h.1, sets ws (words_after key (claim_singles word seen mask) ws) h.0 refl)))

  -- there was none to set
  pub sets_none : (old now : Option (List ℕ)) → mask ≡ 0 → IsSeen (bits_place key word) seen old now
      → Turns (SetsBits was word mask n) old now
  sets_none old now none load =
      if_known old (λ ws. (slice_index ws (bits_place key word) ≡ seen) × (now ≡ Some ws))
      (λ ws. (us : List ℕ) × ((now ≡ Some us) × SetsBits was word mask n ws us)) load
      (λ ws d h. (
        ws,
        (
          h.1,
          sets ws ws h.0 (sym (ap (set ws (bits_place key word)) (ap (bit_or seen) none ∙ or_none seen ∙ sym h.0)
              ∙ set-get_or ws (bits_place key word) 0)),
        ),
      ))

-- Single frames, one after the other.

-- the blocks hold the frames of the bit word at the bits of a mask, but not those of the rest
abbrev pub AreBut : ℕ → ℕ → ℕ → List FrameBlock → Type 0
AreBut k rest mask blocks = (x : ℕ) → smalls x blocks + smalls x (single_blocks k rest) ≡ smalls x (single_blocks k mask)

pub none_but : (k mask : ℕ) → AreBut k mask mask []
none_but k mask x = omega (arith, smalls_none x)

pub all_but : (key : Key) (k mask : ℕ) (blocks : List FrameBlock) → k < 8 * key.children → AreBut k 0 mask blocks → (x : ℕ)
    → smalls x blocks ≡ smalls x (single_blocks k mask)
all_but key k mask blocks inside are x =
    let none = singles_at key k 0 inside in
    ⊎_elim
    (λ e. omega (arith, are x, none.here x e, bit_at-zero (x % 64)))
    (λ ne. omega (arith, are x, none.elsewhere x ne))
    (cases_eq (x / 64) k)

module _ (key : Key) (k n i : ℕ) (inside : k < 8 * key.children) (low : IsLowest n i) where
  lowest_out : (x : ℕ) → smalls x (single_blocks k n) ≡ small_at x (block (64 * k + i) 0) + smalls x (single_blocks k (bit_and n (n - 1)))
  lowest_out x =
      let m : ℕ = bit_and n (n - 1) in
      let b : FrameBlock = block (64 * k + i) 0 in
      let all = singles_at key k n inside in
      let others = singles_at key k m inside in
      ⊎_elim
      (λ e.
      ⊎_elim
      (λ (q : x % 64 ≡ i). omega (
        arith,
        all.here x e,
        others.here x e,
        ap (bit_at n) q,
        ap (bit_at m) q,
        low.is_set,
        lowest_gone n i low,
        in_block x b (omega arith) (omega (arith, e, q)) (omega (arith, e, q)),
      ))
      (λ ne. omega (
        arith,
        all.here x e,
        others.here x e,
        others_stay n i (x % 64) low ne,
        frame_else x (64 * k + i) (λ q. ne (omega (arith, q, low.inside))),
      ))
      (cases_eq (x % 64) i))
      (λ ne. omega (
        arith,
        all.elsewhere x ne,
        others.elsewhere x ne,
        frame_else x (64 * k + i) (λ q. ne (omega (arith, q, low.inside))),
      ))
      (cases_eq (x / 64) k)

  pub one_more : (mask : ℕ) (es bs : List FrameBlock) → AreBut k n mask es → bs ≡ block (64 * k + i) 0 ∷ []
      → AreBut k (bit_and n (n - 1)) mask (es ++ bs)
  one_more mask es bs are e x =
      omega (
        arith,
        are x,
        lowest_out x,
        smalls_both x es bs,
        ap (smalls x) e,
        smalls_cons x (block (64 * k + i) 0) [],
        smalls_none x,
      )
