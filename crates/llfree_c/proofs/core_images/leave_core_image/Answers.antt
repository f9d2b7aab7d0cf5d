use Rattle.std.proofs.Common.{◌≡◌, ◌≤◌, ℕ, List, length, arith, ap, sym, subst, ◌∙◌}
use Rattle.frame_zones.specs.declared.image.ZoneImage.{ZoneImage}
use Rattle.zone_slots.specs.Calls.{image_numbers_by}
use Rattle.zone_slots.specs.declared.core_state.CoreState.{CoreState}
use Rattle.llfree_c.specs.CoreImages.{numbers_ahead, SaysEach, StopsCore}
use Rattle.llfree_c.specs.Images.{StaysBehind}
use Rattle.llfree_c.proofs.StoppedZones.{all_ahead, stops}
use Rattle.llfree_c.proofs.core_images.leave_core_image.Goals as goal

pub write_images-requires : goal.write_images-requires
write_images-requires c =
    let images : List ZoneImage = c.in-Ok-stop.images.items in
    let all : numbers_ahead images (length images) ≡ image_numbers_by c.args.state.now =
    all_ahead c.replace.result images c.in-Ok-stop.ensures.images ∙ ap image_numbers_by c.replace.ensures.value in
    record {
      room = subst (λ (is : List ZoneImage). numbers_ahead is (length is) ≤ length c.args.numbers.now) (sym c.deref.ensures.value)
          (omega (arith, all, c.image_numbers.ensures, c.if-numbers-image_numbers.false));
    }

pub returns-in-Ok-stop-clause-left : goal.returns-in-Ok-stop-clause-left
returns-in-Ok-stop-clause-left c =
    let images : List ZoneImage = c.in-Ok-stop.images.items in
    let numbers : List ℕ = c.write_images.new.numbers in
    let says : SaysEach images numbers =
    subst (λ (is : List ZoneImage). SaysEach is numbers) c.deref.ensures.value c.write_images.ensures.written in
    λ _. subst (λ (s : CoreState). StopsCore s numbers) c.replace.ensures.value
    (stops c.replace.result images numbers c.in-Ok-stop.ensures.images says)

pub returns-in-Ok-stop-clause-behind : goal.returns-in-Ok-stop-clause-behind
returns-in-Ok-stop-clause-behind c =
    let images : List ZoneImage = c.in-Ok-stop.images.items in
    let old : List ℕ = c.args.numbers.now in
    let new : List ℕ = c.write_images.new.numbers in
    let all : numbers_ahead images (length images) ≡ image_numbers_by c.args.state.now =
    all_ahead c.replace.result images c.in-Ok-stop.ensures.images ∙ ap image_numbers_by c.replace.ensures.value in
    λ _. subst (λ (n : ℕ). StaysBehind n old new) all
    (subst (λ (is : List ZoneImage). StaysBehind (numbers_ahead is (length is)) old new) c.deref.ensures.value
    c.write_images.ensures.behind)
