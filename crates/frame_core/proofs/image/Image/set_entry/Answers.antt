use Rattle.std.proofs.Common.{◌≡◌, ◌<◌, ◌≤◌, ℕ, List, Bool, true, false, refl, arith, ap, sym, subst, ◌∙◌}
use Rattle.frame_words.specs.Words.{flag}
use Rattle.frame_words.proofs.WordLemmas.{flag-le}
use Rattle.frame_core.specs.Image.{Contents, key_in, IsImage}
use Rattle.frame_model.specs.Words.{with_entry}
use Rattle.frame_core.proofs.ImageLemmas.{entry_place-lt, set-with_entry, IsImage-with_entry}
use Rattle.frame_core.proofs.image.Image.set_entry.Goals as goal

-- the flag of a child that is not whole is not set
only_whole : {frames end : ℕ} (huge : Bool) → (huge ≡ true → end ≤ frames) → frames < end → flag huge ≡ 0
only_whole true whole part = absurd (omega (arith, whole refl))
only_whole false whole part = refl

pub word_at-requires : goal.word_at-requires
word_at-requires c =
    omega (arith, c.entry_place-place.ensures.value, entry_place-lt (key_in c.args.self.now) c.args.child c.requires.child)

pub put-requires-clause-place : goal.put-requires-clause-place
put-requires-clause-place c =
    omega (arith, c.entry_place-place.ensures.value, entry_place-lt (key_in c.args.self.now) c.args.child c.requires.child)

pub put-requires-clause-in_range : goal.put-requires-clause-in_range
put-requires-clause-in_range c =
    let written = set-with_entry (key_in c.args.self.now) c.args.self.now.words c.entry_place-place.result c.args.child c.entry.result
    c.word_at.result c.with_lane-word.result c.entry_place-place.ensures.value c.word_at.ensures.word c.with_lane-word.ensures.word in
    subst (IsImage (key_in c.args.self.now)) (sym written)
    (IsImage-with_entry (key_in c.args.self.now) c.args.self.now.words c.word_at.ensures.in_range c.args.child c.entry.result
    c.requires.child c.entry.ensures.lane (omega (arith, c.entry.ensures.free, c.requires.free))
    (omega (arith, c.entry.ensures.huge, flag-le c.args.huge))
    (λ p. c.entry.ensures.huge ∙ only_whole c.args.huge (c.requires.whole) p))

pub returns : goal.returns
returns c =
    let written = set-with_entry (key_in c.args.self.now) c.args.self.now.words c.entry_place-place.result c.args.child c.entry.result
    c.word_at.result c.with_lane-word.result c.entry_place-place.ensures.value c.word_at.ensures.word c.with_lane-word.ensures.word in
    let P : List ℕ → Contents = λ ws. record c.args.self.now { words = ws } in
    c.put.ensures ∙ ap P (written ∙ ap (with_entry c.args.self.now.words c.args.child) c.entry.ensures.word)
