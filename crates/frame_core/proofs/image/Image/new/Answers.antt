use Rattle.std.proofs.Common.{◌≡◌, refl}
use Rattle.std.proofs.lemmas.Result.{IfOk-weaker}
use Rattle.frame_model.specs.declared.key.Key.{Key}
use Rattle.frame_core.specs.Image.{Contents, IsAllFree}
use Rattle.frame_model.specs.Key.{key_of, frame_count, AreRanges}
use Rattle.frame_model.specs.Openings.{IsSealedOpening}
use Rattle.frame_core.proofs.Counters.{whole_all_free}
use Rattle.frame_core.proofs.image.Image.new.Goals as goal

pub with_ranges-requires : goal.with_ranges-requires
unfolding AreRanges
with_ranges-requires c = tt

pub returns-clause-all_free : goal.returns-clause-all_free
returns-clause-all_free c =
    let key : Key = key_of c.args.geometry.now in
    let P : Contents → Type 0 = λ i. IsSealedOpening key i.words in
    let Q : Contents → Type 0 = λ i. key.frames ≡ frame_count key → IsAllFree key i.words in
    IfOk-weaker c.with_ranges.result P Q (λ i opens whole. whole_all_free key i.words opens whole refl) c.with_ranges.ensures.opens
