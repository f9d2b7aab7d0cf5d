use Rattle.std.proofs.Common.{ℕ, List, arith, ap, sym, subst, ◌∙◌, refl}
use Rattle.std.specs.Option.{ForSome}
use Rattle.frame_words.specs.Words.{local_word}
use Rattle.frame_core.specs.Image.{FitsTree}
use Rattle.frame_core.specs.Image.{Contents, key_in, IsImage}
use Rattle.frame_model.specs.Words.{local_place}
use Rattle.frame_core.proofs.ImageLemmas.{place_in, local_place-lt, set-with_local, IsImage-with_local}
use Rattle.frame_core.proofs.image.Image.set_local.Goals as goal

pub put-requires-clause-place : goal.put-requires-clause-place
put-requires-clause-place c =
    let at = place_in local_place c.geometry.result c.args.self.now.geometry c.args.core c.local_place-place.result
    c.local_place-place.ensures.value c.geometry.ensures.value in
    omega (arith, at, local_place-lt (key_in c.args.self.now) c.args.core c.requires.core)

pub put-requires-clause-in_range : goal.put-requires-clause-in_range
put-requires-clause-in_range c =
    let at = place_in local_place c.geometry.result c.args.self.now.geometry c.args.core c.local_place-place.result
    c.local_place-place.ensures.value c.geometry.ensures.value in
    subst (IsImage (key_in c.args.self.now))
    (sym (set-with_local (key_in c.args.self.now) c.args.self.now.words c.local_place-place.result c.args.core c.local.result
    c.local.result at refl))
    (IsImage-with_local (key_in c.args.self.now) c.args.self.now.words c.geometry.ensures.in_range c.args.core c.local.result
    c.requires.core (c.local.ensures.word ∙ ap local_word (sym c.local.ensures.rest))
    (subst (λ r. ForSome r (FitsTree (key_in c.args.self.now))) (sym c.local.ensures.rest) c.requires.rest))

pub returns : goal.returns
returns c =
    let at = place_in local_place c.geometry.result c.args.self.now.geometry c.args.core c.local_place-place.result
    c.local_place-place.ensures.value c.geometry.ensures.value in
    let P : List ℕ → Contents = λ ws. record c.args.self.now { words = ws } in
    c.put.ensures ∙ ap P (set-with_local (key_in c.args.self.now) c.args.self.now.words c.local_place-place.result c.args.core _
    c.local.result at c.local.ensures.word)
