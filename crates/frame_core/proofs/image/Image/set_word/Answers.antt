use Rattle.std.proofs.Common.{ℕ, List, ◌+◌, ◌*◌, arith, ap, sym, subst, ◌∙◌}
use Rattle.frame_core.specs.Image.{Contents, key_in, IsImage}
use Rattle.frame_model.specs.Words.{bits_place}
use Rattle.frame_core.proofs.ImageLemmas.{place_in, set-with_bits, IsImage-with_bits}
use Rattle.frame_model.proofs.Words.{bits-lt-count}
use Rattle.frame_core.proofs.image.Image.set_word.Goals as goal

pub put-requires-clause-place : goal.put-requires-clause-place
put-requires-clause-place c =
    let w : ℕ = 8 * c.args.child + c.args.word in
    let at = place_in bits_place c.geometry.result c.args.self.now.geometry w c.bits_place-place.result c.bits_place-place.ensures.value
    c.geometry.ensures.value in
    omega (arith, at, bits-lt-count (key_in c.args.self.now) w (omega (arith, c.requires.child, c.requires.word)))

pub put-requires-clause-in_range : goal.put-requires-clause-in_range
put-requires-clause-in_range c =
    let w : ℕ = 8 * c.args.child + c.args.word in
    let at = place_in bits_place c.geometry.result c.args.self.now.geometry w c.bits_place-place.result c.bits_place-place.ensures.value
    c.geometry.ensures.value in
    subst (IsImage (key_in c.args.self.now))
    (sym (set-with_bits (key_in c.args.self.now) c.args.self.now.words c.bits_place-place.result w c.args.bits at))
    (IsImage-with_bits (key_in c.args.self.now) c.args.self.now.words c.geometry.ensures.in_range w c.args.bits
    (omega (arith, c.requires.child, c.requires.word)) (omega arith) c.requires.past_end)

pub returns : goal.returns
returns c =
    let w : ℕ = 8 * c.args.child + c.args.word in
    let at = place_in bits_place c.geometry.result c.args.self.now.geometry w c.bits_place-place.result c.bits_place-place.ensures.value
    c.geometry.ensures.value in
    let P : List ℕ → Contents = λ ws. record c.args.self.now { words = ws } in
    c.put.ensures ∙ ap P (set-with_bits (key_in c.args.self.now) c.args.self.now.words c.bits_place-place.result w c.args.bits at)
