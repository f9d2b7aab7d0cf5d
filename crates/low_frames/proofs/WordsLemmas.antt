-- Whole bit words in flight: claimed one more, released from the first on, and handed out as one block.
use Rattle.std.proofs.Common.{◌≡◌, ⊎_elim, ℕ, ◌+◌, ◌*◌, ◌^◌, ◌<◌, ◌≤◌, List, [], ◌∷◌, ap, sym, ◌∙◌, arith}
use Rattle.std.proofs.lemmas.Bool.{cases_lt}
use Rattle.std.proofs.lemmas.List.Elements.{All-cons, All-nil}
use Rattle.frame_model.specs.declared.block.FrameBlock.{FrameBlock}
use Rattle.frame_model.specs.declared.key.Key.{Key}
use Rattle.frame_model.specs.Block.{block, IsBlock, covers}
use Rattle.frame_model.specs.Steps.Amounts.{Leaves}
use Rattle.frame_model.specs.Without.{without}
use Rattle.frame_model.proofs.Blocks.{smalls_cons, smalls_none, wholes_cons, wholes_none, in_block, before_block, behind_block}
use Rattle.frame_model.proofs.Blocks.{not_whole, run_is_block}
use Rattle.frame_model.proofs.Without.{without_leaves, nothing_left}
use Rattle.frame_model.specs.declared.view.View.{View}
use Rattle.frame_model.specs.Holding.{holders}
use Rattle.frame_model.proofs.Safe.{holders_are}
use Rattle.low_frames.proofs.ViewLemmas.{covered_from}
use Rattle.low_frames.specs.Groups.{HoldsWords}

-- one word more
pub words_more : (key : Key) (blocks : List FrameBlock) (first count : ℕ) → first + count < 8 * key.children
    → HoldsWords key blocks first count → HoldsWords key (block (64 * (first + count) + 0) 6 ∷ blocks) first (count + 1)
words_more key blocks first count h are =
    let b : FrameBlock = block (64 * (first + count) + 0) 6 in
    record {
      are_blocks = All-cons (IsBlock key) b blocks
          (run_is_block key (first + count) 0 6 (record { inside = h; small = omega arith; aligned = omega arith; fits = omega arith }))
          are.are_blocks;
      below = λ x l. omega (arith, smalls_cons x b blocks, before_block x b (omega arith), are.below x l);
      inside = λ x l m.
          ⊎_elim
          (λ low. omega (arith, smalls_cons x b blocks, before_block x b (omega arith), are.inside x l (omega arith)))
          (λ high. omega (arith, smalls_cons x b blocks, in_block x b (omega arith) (omega arith) (omega arith), are.above x (omega arith)))
          (cases_lt x (64 * (first + count)));
      above = λ x l. omega (arith, smalls_cons x b blocks, behind_block x b (omega arith), are.above x (omega arith));
      no_wholes = λ c. omega (arith, wholes_cons c b blocks, not_whole c b (omega arith), are.no_wholes c);
    }

-- no word is no block
pub words_none : (key : Key) (first : ℕ) → HoldsWords key [] first 0
words_none key first = record {
  are_blocks = All-nil (IsBlock key);
  below = λ x l. smalls_none x;
  inside = λ x l m. absurd (omega arith);
  above = λ x l. smalls_none x;
  no_wholes = λ c. wholes_none c;
}

pub no_words : (key : Key) (blocks : List FrameBlock) (first : ℕ) → HoldsWords key blocks first 0 → blocks ≡ []
no_words key blocks first are = nothing_left key blocks are.are_blocks (λ x. ⊎_elim (λ l. are.below x l) (λ l. are.above x (omega arith))
    (cases_lt x (64 * first))) are.no_wholes

-- a block that lies in the words leaves them
pub words_leave : (key : Key) (blocks : List FrameBlock) (first count : ℕ) (b : FrameBlock) → IsBlock key b → b.order < 9
    → 64 * first ≤ b.frame → b.frame + 2 ^ b.order ≤ 64 * (first + count) → HoldsWords key blocks first count
    → Leaves key blocks b (without b blocks)
words_leave key blocks first count b is low from to are = without_leaves key b blocks is are.are_blocks (record {
  smalls = λ l x e. let h : (b.frame ≤ x) × (x < b.frame + 2 ^ b.order) = covered_from b x e in are.inside x (omega (arith, h.0))
      (omega (arith, h.1));
  wholes = λ top. absurd (omega arith);
})

-- the first word leaves the others
pub words_less : (key : Key) (blocks : List FrameBlock) (first count : ℕ) → first < 8 * key.children
    → HoldsWords key blocks first (count + 1) → HoldsWords key (without (block (64 * first + 0) 6) blocks) (first + 1) count
words_less key blocks first count h are =
    let b : FrameBlock = block (64 * first + 0) 6 in
    let l : Leaves key blocks b (without b blocks) = words_leave key blocks first (count + 1) b
    (run_is_block key first 0 6 (record { inside = h; small = omega arith; aligned = omega arith; fits = omega arith }))
    (omega arith) (omega arith) (omega arith) are in
    record {
      are_blocks = l.are_blocks;
      below = λ x q.
          ⊎_elim
          (λ low. omega (arith, l.smalls x, before_block x b (omega arith), are.below x low))
          (λ high. omega (arith, l.smalls x, in_block x b (omega arith) (omega arith) (omega arith), are.inside x high (omega arith)))
          (cases_lt x (64 * first));
      inside = λ x q r. omega (arith, l.smalls x, behind_block x b (omega arith), are.inside x (omega arith) (omega arith));
      above = λ x q. omega (arith, l.smalls x, behind_block x b (omega arith), are.above x (omega arith));
      no_wholes = λ c. omega (arith, l.wholes c, are.no_wholes c);
    }

-- words that leave as one block leave nothing
pub words_leave_nothing : (key : Key) (blocks : List FrameBlock) (first count : ℕ) (b : FrameBlock) → b.order < 9 → b.frame ≡ 64 * first
    → 2 ^ b.order ≡ 64 * count → HoldsWords key blocks first count → Leaves key blocks b (without b blocks) → without b blocks ≡ []
words_leave_nothing key blocks first count b low from size are l = nothing_left key (without b blocks) l.are_blocks
    (λ x.
    ⊎_elim
    (λ q. omega (arith, l.smalls x, are.below x q))
    (λ q.
    ⊎_elim
    (λ r. omega (arith, l.smalls x, in_block x b low (omega arith) (omega arith), are.inside x q r))
    (λ r. omega (arith, l.smalls x, are.above x r))
    (cases_lt x (64 * (first + count))))
    (cases_lt x (64 * first)))
    (λ c. omega (arith, l.wholes c, are.no_wholes c))

-- a block of whole words holds them
pub words_of_block : (key : Key) (b : FrameBlock) (first count : ℕ) → IsBlock key b → b.order < 9 → b.frame ≡ 64 * first
    → 2 ^ b.order ≡ 64 * count → HoldsWords key (b ∷ []) first count
words_of_block key b first count is low from size = record {
  are_blocks = All-cons (IsBlock key) b [] is (All-nil (IsBlock key));
  below = λ x l. omega (arith, smalls_cons x b [], smalls_none x, before_block x b (omega arith));
  inside = λ x l m. omega (arith, smalls_cons x b [], smalls_none x, in_block x b low (omega arith) (omega arith));
  above = λ x l. omega (arith, smalls_cons x b [], smalls_none x, behind_block x b (omega arith));
  no_wholes = λ c. omega (arith, wholes_cons c b [], wholes_none c, not_whole c b low);
}

-- the frames of a block of whole words in flight are held
pub words_cover : (key : Key) (w : View) (b d : FrameBlock) (first count : ℕ) → d ≡ b → b.frame ≡ 64 * first
    → 64 * count ≡ 2 ^ b.order → HoldsWords key w.own first count → (x : ℕ) → covers d x ≡ 1 → 0 < holders x w.own
words_cover key w b d first count same at size holds x h =
    let e = covered_from b x (ap (λ c. covers c x) (sym same) ∙ h) in
    omega (arith, holds.inside x (omega (arith, e.0, at)) (omega (arith, e.1, at, size)), holders_are key x w.own holds.are_blocks)
