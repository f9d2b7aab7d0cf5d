use Rattle.std.proofs.Common.{◌≡◌, ◌∙◌, sym, subst, arith}
use Rattle.frame_model.specs.declared.key.Key.{Key}
use Rattle.frame_core.specs.Image.{IsImage, blank_words}
use Rattle.frame_model.specs.Key.{key_of}
use Rattle.frame_core.proofs.Blank.{blank_image, front_none, front_more, front_all}
use Rattle.frame_core.proofs.image.Image.blank.Goals as goal

pub loop-word-init : goal.loop-word-init
loop-word-init c =
    let made = c.in_ok-words.ensures.items_if_clones_equal (λ y e. e) in
    front_none (key_of c.args.geometry.now) c.in_ok-words.words.items c.bits_place.result made c.bits_place.ensures.value

pub loop-word-preserved : goal.loop-word-preserved
loop-word-preserved c =
    c.in_ok-push.ensures.items
    ∙ front_more (key_of c.args.geometry.now) c.loop-word.words.items c.loop-word.word c.bits_past.result c.loop-word.invariant
    c.bits_past.ensures

-- all words are there
all : (c : goal.After-result-1) → c.loop-word.words.items ≡ blank_words (key_of c.args.geometry.now)
all c =
    front_all (key_of c.args.geometry.now) c.loop-word.words.items c.loop-word.word c.loop-word.invariant
    (omega (arith, c.loop-word-test.false, c.loop-word.auto.word-end, c.children-word-end.ensures.value))

pub invariant_of-result : goal.invariant_of-result
invariant_of-result c =
    let key : Key = key_of c.args.geometry.now in
    subst (IsImage key) (sym (all c)) (blank_image key)

pub returns-clause-words : goal.returns-clause-words
returns-clause-words c = all c
