use Rattle.std.proofs.Common.{◌≡◌, ℕ, List, ap, sym, subst, ◌∙◌}
use Rattle.std.specs.Prelude.{Result, Ok, Err, IfOk}
use Rattle.std.specs.List.{All}
use Rattle.frame_model.specs.declared.block.FrameBlock.{FrameBlock}
use Rattle.frame_model.specs.declared.key.Key.{Key}
use Rattle.frame_model.specs.Openings.{held_blocks}
use Rattle.frame_table.specs.Openings.{unsealed_key, IsLeft}
use Rattle.core_frames.specs.Left.{left_blocks}
use Rattle.frame_image.proofs.reopenings.reopen.Goals as goal

both_ok : {A E : Type 0} {P Q R : A → Type 0} (answer : Result A E) → ((r : A) → P r → Q r → R r) → IfOk answer P → IfOk answer Q
    → IfOk answer R
both_ok (Ok r) f p q = f r p q
both_ok (Err e) f p q = tt

pub returns-clause-kept : goal.returns-clause-kept
returns-clause-kept c =
    let key : Key = unsealed_key c.args.image.now.geometry in
    let words : List ℕ = c.in_ok-rebuilt.rebuilt.words in
    let same : unsealed_key c.in_ok-rebuilt.rebuilt.geometry ≡ key = ap unsealed_key c.in_ok-rebuilt.ensures.geometry in
    both_ok c.open_at.result
    (λ r opened left blocks leaves.
    subst (λ k. All (IsLeft k (left_blocks r.2)) blocks) (sym (opened.memory ∙ same))
    (subst (λ (bs : List FrameBlock). All (IsLeft key bs) blocks) (sym (left.1 ∙ ap (λ k. held_blocks k words) same))
    (leaves words c.in_ok-rebuilt.ensures.rebuilt)))
    c.open_at.ensures.opened c.open_at.ensures.survivors
