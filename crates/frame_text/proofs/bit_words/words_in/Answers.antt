use Rattle.std.proofs.Common.{◌≡◌, ◌∙◌, Some, ap, arith, sym}
use Rattle.std.specs.Result.{result_ok}
use Rattle.hex.specs.Hex.{decode_sized}
use Rattle.frame_text.specs.BitWords.{words_in}
use Rattle.frame_text.proofs.BitWordLemmas.{words_read}
use Rattle.frame_text.proofs.bit_words.words_in.Goals as goal

pub returns : goal.returns
unfolding words_in
returns c =
    let bytes = c.in_ok-bytes.bytes in
    let decoded : result_ok (decode_sized c.args.field.now 64) ≡ Some bytes =
    rw c.from_hex.ensures at (sym c.ok.ensures.value ∙ c.in_ok-bytes.was) in
    rw decoded (ap Some (words_read bytes c.read_u64_into.new.dst (omega arith) c.read_u64_into.ensures))
