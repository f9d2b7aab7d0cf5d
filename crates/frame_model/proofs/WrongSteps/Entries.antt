-- Wrong steps on the entry of a child.
use Rattle.std.proofs.Common.{◌≡◌, ℕ, ◌+◌, ◌-◌, ◌*◌, ◌/◌, ◌%◌, ◌^◌, ◌<◌, ◌≤◌, List, ◌∷◌, get_or, set, refl, ap, sym, subst, ◌∙◌, arith}
use Rattle.frame_words.specs.Words.{entry_word, free_in, flag_in, lane_in, lane_put, lane_shift}
use Rattle.frame_words.proofs.WordLemmas.{free_in-entry_word, flag_in-entry_word, entry_word-lt}
use Rattle.frame_model.specs.declared.block.FrameBlock.{FrameBlock}
use Rattle.frame_model.specs.declared.view.View.{View}
use Rattle.frame_model.specs.Key.{child_of}
use Rattle.frame_model.specs.Block.{block, smalls, wholes}
use Rattle.frame_model.specs.Words.{entry_place, entry_of, bit_of, free_of, huge_of, with_entry}
use Rattle.frame_model.specs.View.{names, small_in, whole_in, fills, marks, charged_in}
use Rattle.frame_model.specs.Fit.{total, Fit}
use Rattle.frame_model.specs.Steps.{effect, next, refund, take_huge, drop_flag}
use Rattle.frame_model.specs.WrongSteps.{DoNotFit, RefundBeforeTheRelease, HugeFrom511, FlagDroppedBeforeTheBits}
use Rattle.frame_model.proofs.Amounts.{less_here}
use Rattle.frame_model.proofs.Blocks.{smalls_cons, whole_here, halves_here}
use Rattle.frame_model.proofs.Keeps.{total_is}
use Rattle.frame_model.proofs.Lanes.{lane_added, lane_taken}
use Rattle.frame_model.proofs.Sets.{set_none}
use Rattle.frame_model.proofs.Sums.{sum_below}
use Rattle.frame_model.proofs.Words.{held_is, child-has-lane, EntryWritten, entry_written}
use Rattle.frame_model.proofs.Steps.Shared.{free_is, flag_is, free_of_is, huge_of_is, entry_of_is, as_entry, bit-le, at-le-total, flag_set}
use Rattle.frame_model.proofs.Steps.Shared.{bit_filled, total_marks, fixed_fills}
use Rattle.frame_model.proofs.WrongSteps.Shared.{total_set, fills_below}

-- the entry of a child is its free frames, and the flag above them
parts : (ws : List ℕ) (c : ℕ) → free_of ws c + 32768 * huge_of ws c ≡ entry_of ws c
parts ws c = omega (arith, free_of_is ws c, huge_of_is ws c, free_is (entry_of ws c), flag_is (entry_of ws c))

pub refund_before_the_release : RefundBeforeTheRelease
refund_before_the_release key ws vs id v before c n (h, small_n, few) =
    (λ can. omega (arith, can.charged, few), does_not_fit)
  where
    does_not_fit : DoNotFit key (set ws (entry_place c) ((get_or ws (entry_place c) 0 + n * lane_shift c) % 2 ^ 64))
        (set vs id (effect next (refund c n) 0 v))
    does_not_fit shares made =
        let fit : Fit key before.shares ws vs = before.fits in
        let w : View = effect next (refund c n) 0 v in
        let found : ℕ = get_or ws (entry_place c) 0 in
        let e : ℕ = entry_of ws c + n in
        let free_few : free_of ws c ≤ 512 = fit.words_in_range.free c h in
        let flag : huge_of ws c ≤ 1 = fit.words_in_range.huge c h in
        let small : e < 65536 = omega (arith, parts ws c, free_few, flag, small_n) in
        let free : free_in e ≡ free_of ws c + n = omega (arith, free_is e, parts ws c, free_few, flag, small_n) in
        let huge : flag_in e ≡ huge_of ws c = omega (arith, flag_is e, parts ws c, free_few, flag, small_n) in
        let below : found < 2 ^ 64 = fit.words_in_range.entry_words c (child-has-lane key c h) in
        let same : lane_in found c ≡ entry_of ws c = sym (entry_of_is ws c) in
        let written : ℕ = (found + n * lane_shift c) % 2 ^ 64 in
        let words : with_entry ws c e ≡ set ws (entry_place c) written =
        as_entry ws c e written
        (lane_added found c n below (omega (arith, same, small)) ∙ ap (λ m. lane_put found c (m + n)) same) in
        let new : List ℕ = with_entry ws c e in
        let after : Fit key shares new (set vs id w) = subst (λ (l : List ℕ). Fit key shares l (set vs id w)) (sym words) made in
        let z : EntryWritten key ws c e new = entry_written key ws c e fit.words_in_range h small in
        omega (
          arith,
          fit.entries_add_up c h,
          after.entries_add_up c h,
          z.free_here,
          z.held_here,
          held_is key ws c,
          free,
          huge,
          few,
          total_set key vs id v w before.seat (charged_in c),
          less_here c n v.charged,
        )

pub huge_from_511 : HugeFrom511
huge_from_511 key ws vs id v before c (h, no_flag, not_all) =
    (λ can. omega (arith, can.all_free, parts ws c, entry_of_is ws c, no_flag, not_all), does_not_fit)
  where
    does_not_fit : DoNotFit key (set ws (entry_place c) (lane_put (get_or ws (entry_place c) 0) c (entry_word 0 1)))
        (set vs id (effect next (take_huge c (get_or ws (entry_place c) 0)) 0 v))
    does_not_fit shares made =
        let fit : Fit key before.shares ws vs = before.fits in
        let found : ℕ = get_or ws (entry_place c) 0 in
        let w : View = effect next (take_huge c found) 0 v in
        let e : ℕ = entry_word 0 1 in
        let free : free_in e ≡ 0 = free_in-entry_word 0 1 (omega arith) in
        let huge : flag_in e ≡ 1 = flag_in-entry_word 0 1 (omega arith) in
        let words : with_entry ws c e ≡ set ws (entry_place c) (lane_put found c e) = as_entry ws c e (lane_put found c e) refl in
        let new : List ℕ = with_entry ws c e in
        let after : Fit key shares new (set vs id w) = subst (λ (l : List ℕ). Fit key shares l (set vs id w)) (sym words) made in
        let z : EntryWritten key ws c e new =
        entry_written key ws c e fit.words_in_range h (entry_word-lt 0 1 (omega arith) (omega arith)) in
        let unfilled : (x : ℕ) → child_of x ≡ c → total key (fills x) vs ≡ 0 =
        λ x s. omega (
          arith,
          total_is key (fills x) vs,
          total_is key (whole_in c) vs,
          fixed_fills key x,
          fit.wholes c h,
          no_flag,
          sum_below (fills x) (whole_in c) vs (λ k d l. fills_below key c x s (get_or vs k d) (fit.each k d l)),
        ) in
        let clear : (x : ℕ) → child_of x ≡ c → bit_of key ws x ≡ 0 =
        λ x s. omega (
          arith,
          bit-le key ws x,
          fit.bits x (omega arith),
          total_marks key before.shares ws vs id v fit before.seat x,
          unfilled x s,
          after.apart x (omega arith),
          ap (huge_of new) s,
          z.huge_here,
          huge,
          total_set key vs id v w before.seat (small_in x),
          smalls_cons x (block (512 * c) 9) v.own,
        ) in
        omega (
          arith,
          fit.entries_add_up c h,
          after.entries_add_up c h,
          z.free_here,
          z.held_here,
          held_is key ws c,
          free,
          huge,
          not_all,
          no_flag,
          set_none key ws c fit.words_in_range h clear,
          total_set key vs id v w before.seat (charged_in c),
        )

pub flag_dropped_before_the_bits : FlagDroppedBeforeTheBits
flag_dropped_before_the_bits key ws vs id v before c k rest (h, there, leaves, unfilled) =
    (λ can. omega (arith, can.filled k there, unfilled), does_not_fit)
  where
    does_not_fit : DoNotFit key
        (set ws (entry_place c) ((get_or ws (entry_place c) 0 + (2 ^ 64 - 32768 * lane_shift c)) % 2 ^ 64))
        (set vs id (effect next (drop_flag c rest) 0 v))
    does_not_fit shares made =
        let fit : Fit key before.shares ws vs = before.fits in
        let w : View = effect next (drop_flag c rest) 0 v in
        let found : ℕ = get_or ws (entry_place c) 0 in
        let own : 0 < wholes c v.own = omega (arith, leaves.wholes c, whole_here c) in
        let flag : huge_of ws c ≡ 1 = flag_set key before.shares ws vs id v fit before.seat c h own in
        let none : free_of ws c ≡ 0 = omega (arith, held_is key ws c, fit.entries_add_up c h, flag) in
        let entry : entry_of ws c ≡ 32768 = omega (arith, parts ws c, flag, none) in
        let below : found < 2 ^ 64 = fit.words_in_range.entry_words c (child-has-lane key c h) in
        let same : lane_in found c ≡ 32768 = sym (entry_of_is ws c) ∙ entry in
        let written : ℕ = (found + (2 ^ 64 - 32768 * lane_shift c)) % 2 ^ 64 in
        let words : with_entry ws c 0 ≡ set ws (entry_place c) written =
        as_entry ws c 0 written
        (lane_taken found c 32768 below (omega (arith, same)) ∙ ap (λ m. lane_put found c (m - 32768)) same) in
        let new : List ℕ = with_entry ws c 0 in
        let after : Fit key shares new (set vs id w) = subst (λ (l : List ℕ). Fit key shares l (set vs id w)) (sym words) made in
        let z : EntryWritten key ws c 0 new = entry_written key ws c 0 fit.words_in_range h (omega arith) in
        let x : ℕ = 64 * k in
        let in_child : x / 512 ≡ c = omega (arith, there) in
        let in_word : x / 64 ≡ k = omega arith in
        let low : FrameBlock = block (512 * c) 8 in
        let high : FrameBlock = block (512 * c + 256) 8 in
        let before_marks : marks x v ≤ total key (marks x) vs = at-le-total key before.shares ws vs id v fit before.seat (marks x) in
        let halves : 1 ≤ smalls x w.own =
        omega (arith, smalls_cons x low (high ∷ rest v.own), smalls_cons x high (rest v.own), halves_here c x in_child) in
        omega (
          arith,
          after.bits x (omega (arith, h, in_child)),
          z.bits x,
          bit_filled key before.shares ws vs id v fit before.seat c x h own in_child,
          ap (λ j. names j v.filled) in_word,
          unfilled,
          before_marks,
          total_set key vs id v w before.seat (marks x),
          halves,
        )
