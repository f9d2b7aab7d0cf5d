use Rattle.std.proofs.Common.{◌≡◌, ◌∙◌, ap, subst, true, ℕ}
use Rattle.frame_words.specs.declared.geometry.Geometry.{Geometry}
use Rattle.frame_model.specs.Key.{key_of}
use Rattle.frame_core.specs.Image.{key_in}
use Rattle.frame_text.specs.ImageText.{frames_in, keeps_end}
use Rattle.frame_text.proofs.PastEnd.{kept_whole, kept_past}
use Rattle.frame_text.proofs.image_parts.read_child.Goals as goal

-- what the record keeps, by the geometry of the image
kept : (c : goal.After-set_child-arg-1) → keeps_end (frames_in (key_in c.args.image.now) c.args.child) c.in-Some.said.1 c.in-Some.said.2
    ≡ true
kept c =
    let F : Geometry → ℕ = λ g. frames_in (key_of g) c.args.child in
    subst (λ n. keeps_end n c.in-Some.said.1 c.in-Some.said.2 ≡ true)
    (c.frames_in-frames.ensures ∙ ap F c.geometry.ensures.value) c.in-Some.ensures.end

pub set_child-requires-clause-whole : goal.set_child-requires-clause-whole
set_child-requires-clause-whole c = kept_whole (key_in c.args.image.now) c.args.child c.in-Some.said.1 c.in-Some.said.2 (kept c)

pub set_child-requires-clause-past_end : goal.set_child-requires-clause-past_end
set_child-requires-clause-past_end c = kept_past (key_in c.args.image.now) c.args.child c.in-Some.said.1 c.in-Some.said.2 (kept c)
