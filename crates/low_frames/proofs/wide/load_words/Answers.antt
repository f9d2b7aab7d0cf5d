use Rattle.std.proofs.Common.{rules, ◌≡◌, ◌≢◌, ⊎_elim, ℕ, ◌+◌, ◌*◌, ◌<◌, List, Option, Some, length, ap, sym, subst, ◌∙◌, arith}
use Rattle.std.specs.Prelude.{slice_index, slice_set}
use Rattle.std.proofs.lemmas.Bool.{cases_lt}
use Rattle.std.proofs.lemmas.List.{get_or-set_same, get_or-set_other}
use Rattle.frame_model.specs.declared.key.Key.{Key}
use Rattle.frame_model.specs.Words.{bits_place}
use Rattle.frame_core.specs.Moves.{ReadsBut}
use Rattle.low_frames.proofs.TakeLemmas.{still_as_before, keeps_both}
use Rattle.low_frames.proofs.Counts.{at_most, both_counts, load_counts}
use Rattle.low_frames.proofs.Sure.{sure_both, sure_load}
use Rattle.low_frames.proofs.WideLemmas.{bits_apart}
use Rattle.low_frames.proofs.WideAlone.{loaded_more}
use Rattle.low_frames.proofs.wide.load_words.Goals as goal

-- one word more was read
one_more : (key : Key) (child i found : ℕ) (words : List ℕ) (old new : ℕ → Option ℕ) → i < 8 → length words ≡ 8
    → new (bits_place key (8 * child + i)) ≡ Some found → ReadsBut (bits_place key (8 * child + i)) old new
    → ((j : ℕ) → j < i → old (bits_place key (8 * child + j)) ≡ Some (slice_index words j)) → (j : ℕ) → j < i + 1
    → new (bits_place key (8 * child + j)) ≡ Some (slice_index (slice_set words i found) j)
one_more key child i found words old new inside size here but before j h =
    ⊎_elim
    (λ l.
    let ne : j ≢ i = (λ e. absurd (omega arith)) in
    but (bits_place key (8 * child + j)) (bits_apart key (8 * child + j) (8 * child + i) (λ e. absurd (omega arith)))
    ∙ before j l ∙ ap Some (sym (get_or-set_other words i j found 0 ne)))
    (λ l.
    let e : i ≡ j = omega arith in
    subst (λ k. new (bits_place key (8 * child + k)) ≡ Some (slice_index (slice_set words i found) k)) e
    (here ∙ ap Some (sym (get_or-set_same words i found 0 (omega arith)))))
    (cases_lt j i)

pub loop-i-preserved : goal.loop-i-preserved
loop-i-preserved g c =
    let M = g.M.Moves in
    let ticks = g.met.M.Moves.ticks in
    let m = M.at c.args.m.now in
    let l = M.at c.loop-i.m in
    let n = M.at c.load.new.self in
    let was = c.loop-i.invariant in
    let load = c.load.ensures in
    let still = g.met.M.Moves.stays_alone c.loop-i.m in
    let at : ℕ = 8 * c.args.child + c.loop-i.i in
    let k = was.keeps.same_key in
    record {
      keeps = keeps_both was.keeps load.keeps;
      view = still_as_before m.view l.view n.view (M.tick l.view.moves) l.view.lost was.view load.view;
      read = one_more m.key c.args.child c.loop-i.i c.load.result c.loop-i.words l.read n.read c.loop-i-test.true was.size
          (subst (λ (x : Key). n.read (bits_place x at) ≡ Some c.load.result) k load.here)
          (subst (λ (x : Key). ReadsBut (bits_place x at) l.read n.read) k load.reads) was.read;
      size = search rules;
      counts = at_most ticks (both_counts ticks was.counts (load_counts ticks load)) (omega arith);
      sure = sure_both was.sure (sure_load still load);
      loaded = λ h.
          loaded_more l.key m.key c.args.child c.loop-i.i c.load.result c.loop-i.words m.words l.words n.words k c.loop-i-test.true
          was.size (load.words (still (was.keeps.stays_alone h))) (was.loaded h);
    }

pub returns : goal.returns
returns g c =
    let was = c.loop-i.invariant in
    record {
      keeps = was.keeps;
      counts = at_most g.met.M.Moves.ticks was.counts (omega (arith, c.loop-i.auto.i-end));
      sure = was.sure;
      view = was.view;
      size = was.size;
      read = λ i h. was.read i (omega (arith, c.loop-i-test.false));
      alone = search rules;
    }
