-- What a charge changes.
use Rattle.std.proofs.Common.{◌≡◌, ◌≢◌, ⊎_elim, ℕ, ◌+◌, ◌-◌, ◌*◌, ◌/◌, ◌%◌, ◌^◌, ◌<◌, List, length, get_or, set, refl, ap, sym, subst}
use Rattle.std.proofs.Common.{◌∙◌, arith}
use Rattle.std.specs.Prelude.{slice_index}
use Rattle.std.proofs.lemmas.Bool.{cases_eq}
use Rattle.std.proofs.lemmas.List.{set-set, set-get_or, get_or-set_same, get_or-set_other}
use Rattle.frame_words.specs.Words.{entry_word, free_in, flag_in, lane_in, lane_put, lane_shift}
use Rattle.frame_words.specs.Runs.{IsClearRun}
use Rattle.frame_words.proofs.WordLemmas.{free_in-lt, free_in-entry_word, flag_in-entry_word, entry_word-lt}
use Rattle.frame_words.proofs.LaneLemmas.{lane_in-lane_put, lane_put-add, lane_put-twice, lane_put-same}
use Rattle.frame_model.specs.declared.key.Key.{Key}
use Rattle.frame_model.specs.Words.{run, entry_place, bits_place, word_count, free_of, huge_of, bit_word_of, with_entry, AreInRange}
use Rattle.frame_model.specs.Steps.{refund, words_after}
use Rattle.frame_model.proofs.Words.{child-has-lane, entry-lt-bits, EntryWritten, entry_written}
use Rattle.frame_model.proofs.Steps.Shared.{bit_word_is, free_is, flag_is, free_of_is, huge_of_is, entry_of_is, as_entry}
use Rattle.low_frames.specs.Alone.{IsCharged, HasNoRunIn}

module _ (key : Key) (ws us : List ℕ) (child n : ℕ) (r : AreInRange key ws) (inside : child < key.children)
    (charged : IsCharged key child n ws us) where
  abbrev pub c_seen : ℕ
  c_seen = slice_index ws (entry_place child)

  abbrev pub c_entry : ℕ
  c_entry = entry_word (free_in (lane_in c_seen child) - n) 0

  c_low : free_in (lane_in c_seen child) - n < 2 ^ 15
  c_low = omega (arith, free_in-lt (lane_in c_seen child))

  c_words : with_entry ws child c_entry ≡ us
  c_words = as_entry ws child c_entry (lane_put c_seen child c_entry) refl ∙ sym charged.words

  c_free : free_in c_entry ≡ free_in (lane_in c_seen child) - n
  c_free = free_in-entry_word (free_in (lane_in c_seen child) - n) 0 c_low

  c_huge : flag_in c_entry ≡ 0
  c_huge = flag_in-entry_word (free_in (lane_in c_seen child) - n) 0 c_low

  c_small : c_entry < 65536
  c_small = entry_word-lt (free_in (lane_in c_seen child) - n) 0 c_low (omega arith)

  c_was : free_of ws child ≡ free_in (lane_in c_seen child)
  c_was = free_of_is ws child ∙ ap free_in (entry_of_is ws child)

  pub charge_written : EntryWritten key ws child c_entry us
  charge_written = subst (EntryWritten key ws child c_entry) c_words (entry_written key ws child c_entry r inside c_small)

  pub charge_in_range : AreInRange key us
  charge_in_range = charge_written.in_range (omega (arith, c_free, c_was, r.free child inside)) (omega (arith, c_huge))

  pub charge_flags : (c : ℕ) → huge_of us c ≡ huge_of ws c
  charge_flags c = ⊎_elim (λ e. ap (huge_of us) e ∙ charge_written.huge_here ∙ c_huge ∙ sym charged.no_flag ∙ ap (huge_of ws) (sym e))
      (λ ne. charge_written.huge_else c ne) (cases_eq c child)

  pub charge_bit_words : (w : ℕ) → bit_word_of key us w ≡ bit_word_of key ws w
  charge_bit_words w =
      let p : ℕ = bits_place key w in
      let far : p ≢ entry_place child = (λ e. omega (arith, e, entry-lt-bits key child w (child-has-lane key child inside))) in
      bit_word_is key us w ∙ ap (λ (l : List ℕ). get_or l p 0) charged.words ∙ get_or-set_other ws (entry_place child) p
      (lane_put c_seen child c_entry) 0 far ∙ sym (bit_word_is key ws w)

  pub charge_left : free_of us child ≡ free_of ws child - n
  charge_left = charge_written.free_here ∙ c_free ∙ sym (ap (λ f. f - n) c_was)

  -- where no run is clear after a charge none was before
  pub runs_before : (order : ℕ) → HasNoRunIn key child order us → HasNoRunIn key child order ws
  runs_before order no_run w e bit run = no_run w e bit (subst (λ m. IsClearRun m order bit) (sym (charge_bit_words w)) run)

  c_put : get_or us (entry_place child) 0 ≡ lane_put c_seen child c_entry
  unfolding entry_place word_count
  c_put =
      let p : ℕ = entry_place child in
      let room : p < length ws = omega (arith, r.count, child-has-lane key child inside) in
      ap (λ (l : List ℕ). get_or l p 0) charged.words ∙ get_or-set_same ws p (lane_put c_seen child c_entry) 0 room

  c_back : lane_in (get_or us (entry_place child) 0) child + n ≡ lane_in c_seen child
  c_back =
      let there : lane_in (get_or us (entry_place child) 0) child ≡ c_entry = ap (λ w. lane_in w child) c_put ∙ lane_in-lane_put c_seen
      child c_entry c_small in
      let flag : flag_in (lane_in c_seen child) ≡ 0 = ap flag_in (sym (entry_of_is ws child)) ∙ sym (huge_of_is ws child)
      ∙ charged.no_flag in
      omega (
        arith,
        there,
        flag,
        c_free,
        c_huge,
        c_was,
        charged.enough,
        free_is c_entry,
        flag_is c_entry,
        free_is (lane_in c_seen child),
        flag_is (lane_in c_seen child),
      )

  -- what was charged and refunded leaves the words as they were
  pub refund_back : words_after key (refund child n) us ≡ ws
  refund_back =
      let p : ℕ = entry_place child in
      let found : ℕ = get_or us p 0 in
      let sum : found + n * lane_shift child ≡ c_seen =
      lane_put-add found child n ∙ ap (lane_put found child) c_back ∙ ap (λ w. lane_put w child (lane_in c_seen child)) c_put
      ∙ lane_put-twice c_seen child c_entry (lane_in c_seen child) c_small ∙ lane_put-same c_seen child in
      let fits : c_seen < 2 ^ 64 = r.entry_words child (child-has-lane key child inside) in
      let value : (found + n * lane_shift child) % 2 ^ 64 ≡ c_seen = omega (arith, sum, fits) in
      ap (set us p) value ∙ ap (λ (l : List ℕ). set l p c_seen) charged.words ∙ set-set ws p (lane_put c_seen child c_entry) c_seen
      ∙ set-get_or ws p 0
