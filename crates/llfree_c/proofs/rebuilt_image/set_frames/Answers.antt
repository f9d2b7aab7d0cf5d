use Rattle.std.proofs.Common.{◌≡◌, ◌*◌, take, drop, arith, ap, ◌∙◌}
use Rattle.std.specs.List.{sum_by}
use Rattle.std.specs.Int.Count.{ones}
use Rattle.frame_model.specs.declared.key.Key.{Key}
use Rattle.frame_model.specs.Key.{key_of}
use Rattle.frame_model.specs.Words.{bits_place, set_of}
use Rattle.frame_model.proofs.Bits.{ones-le}
use Rattle.frame_model.proofs.Sets.{set_more}
use Rattle.llfree_c.proofs.rebuilt_image.set_frames.Goals as goal

pub loop-word-preserved : goal.loop-word-preserved
loop-word-preserved c =
    let inv = c.loop-word.invariant in
    record {
      counted = omega (
        arith,
        inv.counted,
        ap ones c.bit_word.ensures,
        set_more (key_of c.args.geometry) c.args.words.now c.args.child c.loop-word.word,
      );
      limit = omega (arith, inv.limit, ones-le 64 c.bit_word.result c.bit_word.type_inv);
    }

pub returns-clause-value : goal.returns-clause-value
unfolding set_of
returns-clause-value c =
    let all : c.loop-word.word ≡ 8 = omega (arith, c.loop-word-test.false, c.loop-word.auto.word-end) in
    let key : Key = key_of c.args.geometry in
    c.loop-word.invariant.counted
    ∙ ap (λ n. sum_by ones (take n (drop (bits_place key (8 * c.args.child)) c.args.words.now))) all
