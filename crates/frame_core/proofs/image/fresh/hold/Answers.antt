use Rattle.std.proofs.Common.{◌≡◌, ◌+◌, ◌-◌, ◌*◌, ◌^◌, ◌<◌, ◌≤◌, min, max, ℕ, List, length, get_or, set, arith, sym, subst, ◌∙◌}
use Rattle.std.specs.Int.Bits.{bit_or}
use Rattle.std.proofs.lemmas.List.{get_or_default}
use Rattle.std.proofs.lemmas.Nat.{or_lt}
use Rattle.frame_model.specs.declared.key.Key.{Key}
use Rattle.frame_core.specs.Image.{IsUncounted, SetsRun}
use Rattle.frame_model.specs.Key.{key_of}
use Rattle.frame_model.specs.Words.{run, bit_word_of, with_bits}
use Rattle.frame_core.proofs.Counters.{uncounted_bits}
use Rattle.frame_core.proofs.SetRuns.{run_set, runs_set, run_put}
use Rattle.frame_core.proofs.image.fresh.hold.Goals as goal

pub loop-word-preserved : goal.loop-word-preserved
loop-word-preserved c =
    let key : Key = key_of c.args.geometry in
    let old : List ℕ = c.args.words.now.items in
    let ws : List ℕ = c.loop-word.words.items in
    let w : ℕ = c.loop-word.word in
    let from : ℕ = c.args.from in
    let end : ℕ = c.args.from + c.args.count in
    let inv = c.loop-word.invariant in
    let low : ℕ = c.max.result - 64 * w in
    let high : ℕ = c.min.result - 64 * w in
    let word : ℕ = bit_or (bit_word_of key ws w) (run low (high - low)) in
    let new : List ℕ = with_bits key ws w word in
    let place : ℕ = c.bits_place-place.result in
    let at = c.bits_place-place.ensures.value in
    let begun : 64 * w < end = omega (arith, c.loop-word-test.true, c.div_ceil-word-end.ensures) in
    let child : w < 8 * key.children = omega (arith, begun, c.requires.inside) in
    let short : place < length ws = omega (arith, c.bits_place-place.ensures.inside child, inv.uncounted.in_range.count) in
    let found : c.index_mut.result.now ≡ get_or ws place 0 =
    c.index_mut.ensures.value ∙ get_or_default ws place c.index_mut.result.now 0 short in
    let is : set ws place (bit_or c.index_mut.result.now c.ones.result) ≡ new =
    run_put key ws place w low high c.index_mut.result.now c.ones.result at found c.ones.ensures in
    let middle : max from (min end (64 * w)) ≡ 64 * w + low = omega (arith, begun, c.max.ensures) in
    let last : max from (min end (64 * (w + 1))) ≡ 64 * w + high = omega (arith, begun, c.min.ensures, c.loop-word.auto.word) in
    let order : low ≤ high = omega (arith, c.max.ensures, c.min.ensures, begun, c.loop-word.auto.word) in
    let inside : high ≤ 64 = omega (arith, c.min.ensures) in
    let mask : run low (high - low) < 2 ^ 64 = omega (arith, c.ones.ensures, c.ones.type_inv) in
    let below : word < 2 ^ 64 = or_lt 64 (bit_word_of key ws w) (run low (high - low)) (inv.uncounted.in_range.bits w child) mask in
    let more = run_set key ws w low high inv.uncounted.in_range child order inside in
    let so_far : SetsRun key from (64 * w + low) old ws = subst (λ m. SetsRun key from m old ws) middle inv.set in
    let less : from ≤ 64 * w + low = omega (arith, c.max.ensures) in
    let all = runs_set key from (64 * w + low) (64 * w + high) old ws new less (omega arith) so_far more in
    record {
      uncounted =
          subst (λ (l : List ℕ). IsUncounted key l) (sym is)
          (uncounted_bits key ws w word inv.uncounted child below);
      set =
          subst (λ (l : List ℕ). SetsRun key from (max from (min end (64 * (w + 1)))) old l) (sym is)
          (subst (λ m. SetsRun key from m old new) (sym last) all);
    }
