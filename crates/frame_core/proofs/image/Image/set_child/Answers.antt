use Rattle.std.proofs.Common.{◌≡◌, ◌<◌, ◌+◌, ◌*◌, ℕ, List, length, length-take, get_or, take, ap, sym, ◌∙◌, arith}
use Rattle.std.proofs.lemmas.List.{take_more}
use Rattle.frame_words.specs.Words.{flag, entry_word}
use Rattle.frame_core.specs.Image.{Contents, key_in, with_bit_list}
use Rattle.frame_model.specs.declared.key.Key.{Key}
use Rattle.frame_model.specs.Words.{with_entry, with_bits}
use Rattle.frame_core.proofs.ImageLemmas.{with_bit_list-push}
use Rattle.frame_core.proofs.image.Image.set_child.Goals as goal

pub loop-word-init : goal.loop-word-init
unfolding with_bit_list
loop-word-init c = c.set_entry.ensures

pub loop-word-preserved : goal.loop-word-preserved
loop-word-preserved c =
    let P : Contents → Contents = λ i. record i {
      words = with_bits (key_in i) i.words (8 * c.args.child + c.loop-word.word)
          (get_or c.args.bits c.loop-word.word 0);
    } in
    let key : Key = key_in c.args.self.now in
    let entry : ℕ = entry_word c.args.free (flag c.args.huge) in
    let start : List ℕ = with_entry c.args.self.now.words c.args.child entry in
    let here : c.loop-word.word < length c.args.bits = omega arith in
    let Q : List ℕ → Contents = λ ws. record c.args.self.now { words = ws } in
    let R : List ℕ → List ℕ = λ ns. with_bit_list key start (8 * c.args.child) ns in
    let first : length (take c.loop-word.word c.args.bits) ≡ c.loop-word.word = rw length-take (omega arith) in
    let push = with_bit_list-push key start (8 * c.args.child) (take c.loop-word.word c.args.bits) (get_or c.args.bits c.loop-word.word 0)
    (8 * c.args.child + c.loop-word.word) (omega (arith, first)) in
    c.set_word.ensures ∙ ap P c.loop-word.invariant ∙ ap Q (sym push ∙ ap R (sym (take_more c.args.bits c.loop-word.word 0 here)))
