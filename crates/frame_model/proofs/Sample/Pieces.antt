-- The memory of the run, and the lists of blocks in it.
use Rattle.std.proofs.Common.{◌≡◌, ◌≢◌, ℕ, zero, suc, ◌/◌, ◌<◌, List, [], ◌∷◌, Option, None, Some, false, refl, ap, ◌∙◌, arith}
use Rattle.std.specs.List.{All}
use Rattle.std.proofs.lemmas.List.Elements.{All-head, All-tail, All-cons}
use Rattle.std.proofs.lemmas.Nat.{pow_pos}
use Rattle.frame_model.specs.declared.block.FrameBlock.{FrameBlock}
use Rattle.frame_model.specs.declared.key.Key.{Key}
use Rattle.frame_model.specs.declared.view.Eye.{Eye}
use Rattle.frame_model.specs.declared.view.Sighting.{Sighting}
use Rattle.frame_model.specs.declared.view.View.{View}
use Rattle.frame_model.specs.Key.{child_of}
use Rattle.frame_model.specs.Block.{block, IsBlock, smalls, wholes}
use Rattle.frame_model.specs.View.{NoneBut, names, LiesIn}
use Rattle.frame_model.specs.Steps.{Rest}
use Rattle.frame_model.specs.Steps.Amounts.{Leaves, IsRun}
use Rattle.frame_model.specs.Events.{State, eye}
use Rattle.frame_model.proofs.Blocks.{smalls_none, wholes_none, smalls_cons, wholes_cons, not_whole, whole_here, small_elsewhere}
use Rattle.frame_model.proofs.Blocks.{whole_elsewhere, halves}

-- one child, one core, and words that were in use before
abbrev pub key : Key
key = record { children = 1; cores = 1; frames = 512; ranges = []; sealed = false }

abbrev pub words : ℕ → ℕ → ℕ → List ℕ → List ℕ
words entry tree local bits =
    0 ∷ 0 ∷ 0 ∷ 0 ∷ 0 ∷ 0 ∷ 0 ∷ 0 ∷ entry ∷ 0 ∷ 0 ∷ 0 ∷ 0 ∷ 0 ∷ 0 ∷ 0 ∷ tree ∷ 0 ∷ 0 ∷ 0 ∷ 0 ∷ 0 ∷ 0 ∷ 0 ∷ local ∷ 0 ∷ 0 ∷ 0 ∷ 0 ∷ 0 ∷ 0 ∷ 0 ∷ bits

-- a state of which the first seat has this view, and has read this
abbrev pub now : List ℕ → View → List Sighting → List Eye → State
now ws view read others = record { words = ws; eyes = eye view read ∷ others }

abbrev pub none_left : Rest
none_left blocks = []

abbrev pub second_left : Rest
second_left blocks = block 256 8 ∷ []

abbrev pub after_release : Rest
after_release blocks = block 64 6 ∷ block 128 7 ∷ block 256 8 ∷ []

pub no_blocks : All (IsBlock key) []
no_blocks k d h = absurd (omega arith)

pub whole_block : IsBlock key (block 0 9)
whole_block = record { order = omega arith; aligned = omega arith; inside = omega arith }

pub is_half : IsBlock key (block 0 8)
is_half = record { order = omega arith; aligned = omega arith; inside = omega arith }

pub is_other_half : IsBlock key (block 256 8)
is_other_half = record { order = omega arith; aligned = omega arith; inside = omega arith }

is_second : IsBlock key (block 64 6)
is_second = record { order = omega arith; aligned = omega arith; inside = omega arith }

is_third : IsBlock key (block 128 7)
is_third = record { order = omega arith; aligned = omega arith; inside = omega arith }

pub second_half : All (IsBlock key) (block 256 8 ∷ [])
second_half = All-cons (IsBlock key) (block 256 8) [] is_other_half no_blocks

-- the only block of a list leaves it
pub gone : (b : FrameBlock) → Leaves key (b ∷ []) b []
gone b = record {
  smalls = λ x. omega (arith, smalls_cons x b [], smalls_none x);
  wholes = λ c. omega (arith, wholes_cons c b [], wholes_none c);
  are_blocks = no_blocks;
}

pub one_half : Leaves key (block 0 8 ∷ block 256 8 ∷ []) (block 0 8) (block 256 8 ∷ [])
one_half = record {
  smalls = λ x. omega (arith, smalls_cons x (block 0 8) (block 256 8 ∷ []));
  wholes = λ c. omega (arith, wholes_cons c (block 0 8) (block 256 8 ∷ []));
  are_blocks = second_half;
}

-- the first word of a half leaves it, and the rest stays as blocks
pub released : Leaves key (block 0 8 ∷ block 256 8 ∷ []) (block 0 6) (block 64 6 ∷ block 128 7 ∷ block 256 8 ∷ [])
released = record {
  smalls = λ x. omega (
    arith,
    smalls_cons x (block 0 8) (block 256 8 ∷ []),
    smalls_cons x (block 64 6) (block 128 7 ∷ block 256 8 ∷ []),
    smalls_cons x (block 128 7) (block 256 8 ∷ []),
    halves x 0 7 (omega arith),
    halves x 0 6 (omega arith),
  );
  wholes = λ c. omega (
    arith,
    wholes_cons c (block 0 8) (block 256 8 ∷ []),
    wholes_cons c (block 64 6) (block 128 7 ∷ block 256 8 ∷ []),
    wholes_cons c (block 128 7) (block 256 8 ∷ []),
    not_whole c (block 0 8) (omega arith),
    not_whole c (block 0 6) (omega arith),
    not_whole c (block 64 6) (omega arith),
    not_whole c (block 128 7) (omega arith),
  );
  are_blocks = All-cons (IsBlock key) (block 64 6) (block 128 7 ∷ block 256 8 ∷ []) is_second
      (All-cons (IsBlock key) (block 128 7) (block 256 8 ∷ []) is_third second_half);
}

-- in a memory of one child all blocks lie in it
smalls_apart : (bs : List FrameBlock) → All (IsBlock key) bs → (x : ℕ) → child_of x ≢ 0 → smalls x bs ≡ 0
smalls_apart [] all x ne = smalls_none x
smalls_apart (b ∷ bs) all x ne =
    let i : IsBlock key b = All-head (IsBlock key) b bs all in
    let low : child_of b.frame ≡ 0 = omega (arith, i.inside, i.order, lowest b i) in
    omega (
      arith,
      smalls_cons x b bs,
      small_elsewhere key b i x (λ e. ne (e ∙ low)),
      smalls_apart bs (All-tail (IsBlock key) b bs all) x ne,
    )
  where
    lowest : (c : FrameBlock) → IsBlock key c → c.frame < 512
    lowest c j = omega (arith, j.inside, pow_pos c.order)

wholes_apart : (bs : List FrameBlock) → All (IsBlock key) bs → (d : ℕ) → d ≢ 0 → wholes d bs ≡ 0
wholes_apart [] all d ne = wholes_none d
wholes_apart (b ∷ bs) all d ne =
    let i : IsBlock key b = All-head (IsBlock key) b bs all in
    let low : child_of b.frame ≡ 0 = omega (arith, i.inside, pow_pos b.order) in
    omega (
      arith,
      wholes_cons d b bs,
      whole_elsewhere b d (λ e. ne (e ∙ low)),
      wholes_apart bs (All-tail (IsBlock key) b bs all) d ne,
    )

pub lies : {v : View} → NoneBut 0 v.charged → All (IsBlock key) v.own → LiesIn v 0
lies {v} none all = record { charged = none; smalls = smalls_apart v.own all; wholes = wholes_apart v.own all }

pub first_run : IsRun key 0 0 6
first_run = record { inside = omega arith; small = omega arith; aligned = omega arith; fits = omega arith }

pub second_run : IsRun key 0 32 5
second_run = record { inside = omega arith; small = omega arith; aligned = omega arith; fits = omega arith }

pub has_whole : 0 < wholes 0 (block 0 9 ∷ [])
has_whole = omega (arith, wholes_cons 0 (block 0 9) [], whole_here 0)

pub all_filled : (w : ℕ) → w / 8 ≡ 0 → names w (7 ∷ 6 ∷ 5 ∷ 4 ∷ 3 ∷ 2 ∷ 1 ∷ 0 ∷ []) ≡ 1
unfolding names
all_filled zero e = refl
all_filled (suc zero) e = refl
all_filled (suc (suc zero)) e = refl
all_filled (suc (suc (suc zero))) e = refl
all_filled (suc (suc (suc (suc zero)))) e = refl
all_filled (suc (suc (suc (suc (suc zero))))) e = refl
all_filled (suc (suc (suc (suc (suc (suc zero)))))) e = refl
all_filled (suc (suc (suc (suc (suc (suc (suc zero))))))) e = refl
all_filled (suc (suc (suc (suc (suc (suc (suc (suc w)))))))) e = absurd (omega arith)

number : Option ℕ → ℕ
number None = 0
number (Some n) = n

pub differs : ◌≢◌ {A = Option ℕ} (Some 64) (Some 32768)
unfolding number
differs e = let q : ◌≡◌ {A = ℕ} 64 32768 = ap number e in absurd (omega (arith, q))
