use Rattle.std.proofs.Common.{◌≡◌, ◌≢◌, ℕ, List, length, sym, subst, ◌∙◌, rules}
use Rattle.frame_model.specs.declared.key.Key.{Key}
use Rattle.frame_core.specs.Moves.{HasSizes}
use Rattle.llfree_c.specs.CoreImages.{SaysRebuilt}
use Rattle.llfree_c.specs.StoppedWords.{AreOfAnotherCount, HasFramesAndCores}
use Rattle.llfree_c.proofs.RebuiltNumbers.{has_sizes, same_count, says_of_sizes, leaves_fitting}
use Rattle.llfree_c.proofs.stopped_words.llfree_image_of_words.Goals as goal

pub returns-clause-says : goal.returns-clause-says
returns-clause-says c =
    let g = c.in-Ok.geometry in
    let made = c.in-Ok.ensures.made in
    let words = c.args.words.now in
    let numbers = c.write_rebuilt.new.numbers in
    let counted : length words ≡ c.word_count.result = search rules in
    let sizes : (key : Key) → HasFramesAndCores c.args.frames c.args.cores key → HasSizes key g =
    λ key is. has_sizes c.args.frames c.args.cores key g made.0 made.1 is in
    let all : (key : Key) → HasFramesAndCores c.args.frames c.args.cores key → SaysRebuilt key words numbers =
    λ key is. says_of_sizes key g words numbers (sizes key is) c.write_rebuilt.ensures.written in
    λ _. record {
      count = λ key is. counted ∙ (c.word_count.ensures ∙ same_count key g (sizes key is));
      says = all;
      stopped = λ key is s fits same. leaves_fitting key s numbers fits
          (subst (λ (ws : List ℕ). SaysRebuilt key ws numbers) (sym same) (all key is));
    }

pub returns-then-words-word_count-clause-why : goal.returns-then-words-word_count-clause-why
returns-then-words-word_count-clause-why c =
    let g = c.in-Ok.geometry in
    let made = c.in-Ok.ensures.made in
    let words = c.args.words.now in
    let other : length words ≢ c.word_count.result = search rules in
    let no : AreOfAnotherCount c.args.frames c.args.cores words = λ key is e.
    other (e ∙ sym (c.word_count.ensures
    ∙ same_count key g (has_sizes c.args.frames c.args.cores key g made.0 made.1 is))) in
    search (rules, no)
