use Rattle.std.proofs.Common.{◌≡◌, ◌++◌, ℕ, ◌*◌, List, drop, length, take, ap, sym, subst, ◌∙◌, rules}
use Rattle.std.proofs.Math.Seq.{drop-append_seam}
use Rattle.frame_core.specs.Image.{Contents}
use Rattle.frame_model.specs.Key.{key_of}
use Rattle.frame_words.specs.declared.geometry.Geometry.{Geometry}
use Rattle.llfree_c.specs.CoreImages.{SaysImage, SaysRebuilt}
use Rattle.llfree_c.specs.Images.{StaysBehind}
use Rattle.llfree_c.proofs.StoppedZones.{written_behind}
use Rattle.llfree_c.proofs.rebuilt_image.write_image.Goals as goal

pub returns-clause-written : goal.returns-clause-written
returns-clause-written c =
    let image : Contents = c.args.image.now in
    let front : List ℕ = c.split_at_mut-front.result.0.now in
    let new : List ℕ = c.write_rebuilt.new.numbers in
    let long : length front ≡ c.args.from = search rules in
    let e : drop c.args.from (front ++ new) ≡ new =
    ap (λ n. drop n (front ++ new)) (sym long) ∙ drop-append_seam front new in
    let read : SaysRebuilt (key_of c.geometry-geometry.result) image.words new =
    subst (λ (ws : List ℕ). SaysRebuilt (key_of c.geometry-geometry.result) ws new) c.words.ensures c.write_rebuilt.ensures.written in
    let says : SaysImage image new =
    subst (λ (g : Geometry). SaysRebuilt (key_of g) image.words new) c.geometry-geometry.ensures.value read in
    subst (λ (l : List ℕ). SaysImage image l) (sym e) says

pub returns-clause-behind : goal.returns-clause-behind
returns-clause-behind c =
    let image : Contents = c.args.image.now in
    let front : List ℕ = c.split_at_mut-front.result.0.now in
    let rest : List ℕ = c.split_at_mut-front.result.1.now in
    let new : List ℕ = c.write_rebuilt.new.numbers in
    let is_front : front ≡ take c.args.from c.args.numbers.now = search rules in
    let is_rest : rest ≡ drop c.args.from c.args.numbers.now = search rules in
    let behind : StaysBehind (9 * image.geometry.children) rest new =
    subst (λ (g : Geometry). StaysBehind (9 * g.children) rest new) c.geometry-geometry.ensures.value c.write_rebuilt.ensures.behind in
    written_behind c.args.from (9 * image.geometry.children) c.args.numbers.now front rest new is_front is_rest (search rules) behind
