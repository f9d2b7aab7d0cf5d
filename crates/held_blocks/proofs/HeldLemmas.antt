-- Lists of labelled blocks: their blocks, and how they stay a holding.
use Rattle.std.proofs.Common.{◌≡◌, ◌+◌, ◌<◌, ◌≤◌, ◌^◌, ◌∙◌, ℕ, zero, suc, List, [], ◌∷◌, ◌++◌, Bool, true, false, ◌&&◌, refl, ap, arith, Contains}
use Rattle.std.specs.Prelude.{nat_eq, if◌then◌else◌}
use Rattle.std.specs.List.{All, sum_by}
use Rattle.std.proofs.lemmas.Bool.Decides.{nat_tests}
use Rattle.std.proofs.lemmas.Grind.{common_steps}
use Rattle.std.proofs.lemmas.List.Elements.{All-append, All-cons, All-head, All-nil, All-tail}
use Rattle.std.proofs.lemmas.List.Sums.{sum_by-append, sum_by-cons}
use Rattle.std.proofs.lemmas.Nat.{pow_pos}
use Rattle.frame_model.specs.Block.{IsBlock, block, covers}
use Rattle.frame_model.specs.Holding.{IsFreeBlock, IsHolding, holders}
use Rattle.frame_model.specs.Without.{is_same, less_one}
use Rattle.frame_model.specs.declared.block.FrameBlock.{FrameBlock}
use Rattle.frame_model.specs.declared.key.Key.{Key}
use Rattle.frame_model.proofs.Without.{covers-le}
use Rattle.held_blocks.specs.Desk.{blocks_of}
use Rattle.held_blocks.specs.LabelledBlocks.{BeginsAt, HasNone}
use Rattle.held_blocks.specs.declared.labelled_block.LabelledBlock.{LabelledBlock}

-- the blocks of two lists, one after the other
pub blocks_append : (xs ys : List LabelledBlock) → blocks_of (xs ++ ys) ≡ blocks_of xs ++ blocks_of ys
blocks_append [] ys = refl
blocks_append (x ∷ xs) ys = ap (λ (t : List FrameBlock). x.block ∷ t) (blocks_append xs ys)

-- a block holds its own frames
pub covers_in : (b : FrameBlock) (x : ℕ) → b.frame ≤ x → x < b.frame + 2 ^ b.order → covers b x ≡ 1
unfolding covers
covers_in b x l h = grind (arith, nat_tests)

-- no block of the list begins where a free block begins
none_begins : (held : List LabelledBlock) (x : ℕ) → holders x (blocks_of held) ≡ 0 → HasNone (BeginsAt x) held
unfolding holders
none_begins [] x free = All-nil (λ y. ¬ BeginsAt x y)
none_begins (e ∷ held) x free =
    let both = sum_by-cons (λ b. covers b x) e.block (blocks_of held) in
    All-cons (λ y. ¬ BeginsAt x y) e held
    (λ begins. let here : covers e.block x ≡ 1 = covers_in e.block x (omega arith) (omega (arith, pow_pos e.block.order)) in omega arith)
    (none_begins held x (omega arith))

-- no entry begins at a block that is free under the list
pub begins_apart : (held : List LabelledBlock) (b : FrameBlock)
    → IsFreeBlock (blocks_of held) b → HasNone (BeginsAt b.frame) held
begins_apart held b free =
    none_begins held b.frame (free b.frame (covers_in b b.frame (omega arith) (omega (arith, pow_pos b.order))))

-- the sum over a list is that of one element and that of the others
pub sum_split : (f : FrameBlock → ℕ) (front back : List LabelledBlock) (e : LabelledBlock)
    → sum_by f (blocks_of (front ++ e ∷ back)) ≡ f e.block + sum_by f (blocks_of (front ++ back))
sum_split f front back e =
    rw (blocks_append front (e ∷ back), blocks_append front back)
    (omega (arith, sum_by-append f (blocks_of front) (e.block ∷ blocks_of back), sum_by-append f (blocks_of front) (blocks_of back), sum_by-cons f e.block (blocks_of back)))

-- 1 where two blocks are one
pub count_same : FrameBlock → FrameBlock → ℕ
count_same b c = if nat_eq b.frame c.frame && nat_eq b.order c.order then 1 else 0

pub counted_once : (b : FrameBlock) → count_same b b ≡ 1
unfolding count_same
counted_once b = grind (arith, common_steps)

counted_same : (b c : FrameBlock) → 0 < count_same b c → (c.frame ≡ b.frame) × (c.order ≡ b.order)
unfolding count_same
counted_same b c h = by_tests (nat_eq b.frame c.frame) (nat_eq b.order c.order) refl refl h
  where
    by_tests : (p q : Bool) → nat_eq b.frame c.frame ≡ p → nat_eq b.order c.order ≡ q
        → 0 < (if p && q then 1 else 0) → (c.frame ≡ b.frame) × (c.order ≡ b.order)
    by_tests true true e f h = (grind (arith, common_steps), grind (arith, common_steps))
    by_tests true false e f h = absurd (omega arith)
    by_tests false q e f h = absurd (omega arith)

same_block : (b c : FrameBlock) → (c.frame ≡ b.frame) × (c.order ≡ b.order) → c ≡ b
same_block b c e = let one : block c.frame c.order ≡ b = rw (e.0, e.1) refl in one

-- a block that is counted stands in the list
pub contained : (b : FrameBlock) (xs : List FrameBlock) → 0 < sum_by (count_same b) xs → Contains xs b
contained b [] some = absurd (omega arith)
contained b (x ∷ xs) some =
    by_count (count_same b x) refl (λ e. contained b xs (omega (arith, sum_by-cons (count_same b) x xs)))
  where
    by_count : (n : ℕ) → count_same b x ≡ n → (count_same b x ≡ 0 → Contains xs b) → Contains (x ∷ xs) b
    by_count zero e others = let k = others e in (suc k.0, omega (arith, k.1), k.2)
    by_count (suc n) e others = (0, omega arith, same_block b x (counted_same b x (omega arith)))

-- leaving one out takes its share off every sum
pub less_sum : (f : FrameBlock → ℕ) (b : FrameBlock) (xs : List FrameBlock) → 0 < sum_by (count_same b) xs
    → sum_by f xs ≡ f b + sum_by f (less_one b xs)
unfolding less_one is_same count_same
less_sum f b [] some = absurd (omega arith)
less_sum f b (x ∷ xs) some =
    by_test (nat_eq b.frame x.frame && nat_eq b.order x.order) refl (λ others. less_sum f b xs others)
  where
    by_test : (t : Bool) → (nat_eq b.frame x.frame && nat_eq b.order x.order) ≡ t
        → (0 < sum_by (count_same b) xs → sum_by f xs ≡ f b + sum_by f (less_one b xs))
        → sum_by f (x ∷ xs) ≡ f b + sum_by f (less_one b (x ∷ xs))
    by_test true e rest =
        let counts : count_same b x ≡ 1 = rw e refl in
        let same = same_block b x (counted_same b x (omega (arith, counts))) in
        rw e (sum_by-cons f x xs ∙ ap (λ (y : FrameBlock). f y + sum_by f xs) same)
    by_test false e rest =
        let none : count_same b x ≡ 0 = rw e refl in
        let others : 0 < sum_by (count_same b) xs = omega (arith, some, none, sum_by-cons (count_same b) x xs) in
        rw e (omega (arith, sum_by-cons f x xs, rest others, sum_by-cons f x (less_one b xs)))

-- what holds of each element holds of one and of each of the others
pub all_split : {T : Type 0} (P : T → Type 0) (front : List T) (x : T) (back : List T)
    → All P (front ++ x ∷ back) → P x × All P (front ++ back)
all_split P [] x back all = (All-head P x back all, All-tail P x back all)
all_split P (y ∷ front) x back all =
    let others = all_split P front x back (All-tail P y (front ++ x ∷ back) all) in
    (others.0, All-cons P y (front ++ back) (All-head P y (front ++ x ∷ back) all) others.1)

-- a holding stays one when a block leaves
pub less_lawful : (key : Key) (front back : List LabelledBlock) (e : LabelledBlock)
    → IsHolding key (blocks_of (front ++ e ∷ back)) → IsHolding key (blocks_of (front ++ back))
unfolding holders
less_lawful key front back e lawful =
    record {
      blocks = rw (blocks_append front back) (all_split (IsBlock key) (blocks_of front) e.block (blocks_of back)
          (rw (blocks_append front (e ∷ back)) at lawful.blocks)).1;
      disjoint = λ x. omega (arith, lawful.disjoint x, sum_split (λ b. covers b x) front back e);
    }

-- a block that is free under a holding joins it
pub more_lawful : (key : Key) (held : List LabelledBlock) (e : LabelledBlock) → IsHolding key (blocks_of held)
    → IsBlock key e.block → IsFreeBlock (blocks_of held) e.block
    → IsHolding key (blocks_of (held ++ e ∷ []))
unfolding holders
more_lawful key held e lawful is free =
    rw (blocks_append held (e ∷ [])) (record {
      blocks = All-append (IsBlock key) (blocks_of held) (e.block ∷ []) lawful.blocks (All-cons (IsBlock key) e.block [] is (All-nil (IsBlock key)));
      disjoint = λ x. disjoint_at x (covers e.block x) refl;
    })
  where
    disjoint_at : (x n : ℕ) → covers e.block x ≡ n → sum_by (λ c. covers c x) (blocks_of held ++ e.block ∷ []) ≤ 1
    disjoint_at x zero h =
        omega (arith, sum_by-append (λ c. covers c x) (blocks_of held) (e.block ∷ []), lawful.disjoint x, sum_by-cons (λ c. covers c x) e.block [])
    disjoint_at x (suc n) h =
        let one : covers e.block x ≡ 1 = omega (arith, covers-le e.block x) in
        omega (arith, sum_by-append (λ c. covers c x) (blocks_of held) (e.block ∷ []), free x one, sum_by-cons (λ c. covers c x) e.block [])
