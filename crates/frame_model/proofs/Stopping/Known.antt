-- What is carried from one moment to the next, and what it says of known and lost frames.
use Rattle.std.proofs.Common.{◌≡◌, ⊎_elim, ℕ, ◌+◌, ◌-◌, ◌*◌, ◌<◌, ◌≤◌, List, [], ◌∷◌, ◌++◌, Bool, true, false, cond, refl, sym, arith}
use Rattle.std.specs.Prelude.{if◌then◌else◌, not, ◌&&◌, nat_eq, nat_lt}
use Rattle.std.specs.List.{sum_by, All, range_with_len}
use Rattle.std.proofs.lemmas.Bool.{cases_lt}
use Rattle.std.proofs.lemmas.Bool.Decides.{nat_tests}
use Rattle.std.proofs.lemmas.List.Sums.{sum_by-cons, sum_by-append}
use Rattle.std.proofs.lemmas.List.Elements.{All-head, All-tail, All-append}
use Rattle.frame_model.specs.declared.block.FrameBlock.{FrameBlock}
use Rattle.frame_model.specs.declared.key.Key.{Key}
use Rattle.frame_model.specs.declared.view.View.{View}
use Rattle.frame_model.specs.Key.{frame_count, is_boot_frame, IsKey}
use Rattle.frame_model.specs.Block.{IsBlock, covers}
use Rattle.frame_model.specs.View.{spent, ground_with, boot_blocks, fixed_ground, IsViewOf}
use Rattle.frame_model.specs.Fit.{total}
use Rattle.frame_model.specs.Holding.{holders, IsHolding}
use Rattle.frame_model.specs.Events.{views_of, Fits}
use Rattle.frame_model.specs.Laws.{blocks_with, holding_of}
use Rattle.frame_model.specs.Stops.{Moment, is_holder, known_of, flying_of, known_at, flying_at, is_lost}
use Rattle.frame_model.specs.Stops.{lost_frames, ended_shares}
use Rattle.frame_model.proofs.Keeps.{total_is}
use Rattle.frame_model.proofs.Safe.{none_outside, once}
use Rattle.frame_model.proofs.ReportLemmas.{range_le}

-- how many own blocks of a ground hold the frame
unfoldable pub grounded : ℕ → View → ℕ
grounded x v = if v.is_ground then holders x v.own else 0

abbrev pub boot : Key → ℕ → ℕ
boot key x = if is_boot_frame key x then 1 else 0

-- the frames that grounds hold
abbrev pub ground_at : Moment → ℕ → ℕ
ground_at m x = total m.key (grounded x) (views_of m.state)

-- a ground has no share
abbrev pub GroundApart : View → Type 0
GroundApart v = v.is_ground ≡ true → v.share ≡ 0

-- how it began: with how many shares, and which frames the ground had that nobody remembered
pub record Start : Type 0 where
  pub shares : ℕ
  pub lost : ℕ → ℕ

-- how many these were
abbrev pub lost_then : Start → Key → ℕ
lost_then start key = sum_by start.lost (range_with_len 0 (frame_count key))

pub record Carries (start : Start) (m : Moment) : Type 0 where
  pub fits : Fits m.key m.shares m.state
  pub is_key : IsKey m.key
  pub ended : ended_shares start.shares m.key.cores (m.stops + 1) ≡ ended_shares start.shares m.key.cores m.stops + m.shares
  pub apart : All GroundApart (views_of m.state)
  pub are_blocks : All (IsBlock m.key) m.remembered
  pub remembered : (x : ℕ) → x < frame_count m.key → holders x m.remembered + boot m.key x ≤ ground_at m x
  pub abandoned : (x : ℕ) → x < frame_count m.key
      → ground_at m x ≤ holders x m.remembered + boot m.key x + (holders x m.abandoned + start.lost x)
  pub count : sum_by (λ x. ground_at m x - (holders x m.remembered + boot m.key x))
      (range_with_len 0 (frame_count m.key)) ≤ lost_then start m.key + 512 * ended_shares start.shares m.key.cores m.stops

pub holders_none : (x : ℕ) → holders x [] ≡ 0
unfolding holders
holders_none x = refl

pub holders_both : (x : ℕ) (bs cs : List FrameBlock) → holders x (bs ++ cs) ≡ holders x bs + holders x cs
unfolding holders
holders_both x bs cs = sum_by-append (λ b. covers b x) bs cs

holders_if : (x : ℕ) (b : Bool) (bs : List FrameBlock)
    → holders x (if b then bs else []) ≡ (if b then holders x bs else 0)
holders_if x true bs = refl
holders_if x false bs = holders_none x

holders_else : (x : ℕ) (b : Bool) (bs : List FrameBlock)
    → holders x (if b then [] else bs) ≡ (if b then 0 else holders x bs)
holders_else x true bs = holders_none x
holders_else x false bs = refl

three : (a b : Bool) (h : ℕ) → (b ≡ true → a ≡ true)
    → h ≡ (if a && not b then h else 0) + (if a then 0 else h) + (if b then h else 0)
three true true h i = omega arith
three true false h i = omega arith
three false true h i = absurd (false-is-not-true (i refl))
  where
    false-is-not-true : false ≡ true → ⊥
    false-is-not-true e = cc
three false false h i = omega arith

zero_test : (n : ℕ) → n ≡ 0 → nat_eq n 0 ≡ true
zero_test n e = rw e refl

pub held_split : (x : ℕ) (vs : List View) → All GroundApart vs
    → holders x (blocks_with vs) ≡ holders x (known_of vs) + holders x (flying_of vs) + sum_by (grounded x) vs
unfolding blocks_with known_of flying_of grounded
held_split x [] all = omega (arith, holders_none x)
held_split x (v ∷ vs) all =
    omega (
      arith,
      held_split x vs (All-tail GroundApart v vs all),
      holders_both x v.own (v.kept ++ blocks_with vs),
      holders_both x v.kept (blocks_with vs),
      holders_both x (if is_holder v then v.own else []) (v.kept ++ known_of vs),
      holders_both x v.kept (known_of vs),
      holders_both x (if nat_eq v.share 0 then [] else v.own) (flying_of vs),
      holders_if x (is_holder v) v.own,
      holders_else x (nat_eq v.share 0) v.own,
      three (nat_eq v.share 0) v.is_ground (holders x v.own) (λ e. zero_test v.share (All-head GroundApart v vs all e)),
      sum_by-cons (λ (u : View). if u.is_ground then holders x u.own else 0) v vs,
    )

fixed_by : (key : Key) (x : ℕ) (b : Bool)
    → (grounded x (if b then ground_with key (boot_blocks key) else spent)
    ≡ holders x (if b then ground_with key (boot_blocks key) else spent).own)
    × (holders x (if b then ground_with key (boot_blocks key) else spent).kept ≡ 0)
unfolding grounded
fixed_by key x true = (refl, holders_none x)
fixed_by key x false = (sym (holders_none x), holders_none x)

fixed_has : (key : Key) (x : ℕ)
    → (grounded x (fixed_ground key) ≡ holders x (fixed_ground key).own) × (holders x (fixed_ground key).kept ≡ 0)
unfolding fixed_ground
fixed_has key x = fixed_by key x key.sealed

first_blocks : (x : ℕ) (v : View) (vs : List View)
    → holders x (blocks_with (v ∷ vs)) ≡ holders x v.own + holders x v.kept + holders x (blocks_with vs)
unfolding blocks_with
first_blocks x v vs = omega (arith, holders_both x v.own (v.kept ++ blocks_with vs), holders_both x v.kept (blocks_with vs))

-- what is held is known, in flight, or the ground's
pub held_is_split : (key : Key) (x : ℕ) (vs : List View) → All GroundApart vs
    → holders x (holding_of key vs) ≡ holders x (known_of vs) + holders x (flying_of vs) + total key (grounded x) vs
held_is_split key x vs all = let f = fixed_has key x in omega (
  arith,
  first_blocks x (fixed_ground key) vs,
  f.0,
  f.1,
  held_split x vs all,
  total_is key (grounded x) vs,
)

known_blocks : (key : Key) (vs : List View) → All (IsViewOf key) vs → All (IsBlock key) (known_of vs)
unfolding known_of
known_blocks key [] all = λ k d h. absurd (omega arith)
known_blocks key (v ∷ vs) all =
    let i : IsViewOf key v = All-head (IsViewOf key) v vs all in
    All-append (IsBlock key) (if is_holder v then v.own else []) (v.kept ++ known_of vs) (either (is_holder v) v.own i.own)
    (All-append (IsBlock key) v.kept (known_of vs) i.kept (known_blocks key vs (All-tail (IsViewOf key) v vs all)))
  where
    either : (b : Bool) (bs : List FrameBlock) → All (IsBlock key) bs
        → All (IsBlock key) (if b then bs else [])
    either true bs p = p
    either false bs p = λ k d h. absurd (omega arith)

flags : (a b c d : Bool) → (a && b && c && d) ≡ true → (a ≡ true) × (b ≡ true) × (c ≡ true) × (d ≡ true)
flags true true true true e = (refl, refl, refl, refl)
flags true true true false e = absurd (let f : false ≡ true = e in cc)
flags true true false d e = absurd (let f : false ≡ true = e in cc)
flags true false c d e = absurd (let f : false ≡ true = e in cc)
flags false b c d e = absurd (let f : false ≡ true = e in cc)

some_of : (n : ℕ) → nat_lt 0 n ≡ true → 0 < n
some_of n e = grind (arith, nat_tests)

none_of : (n : ℕ) → nat_eq n 0 ≡ true → n ≡ 0
none_of n e = grind (arith, nat_tests)

named_boot : (b : Bool) → b ≡ true → ◌≡◌ {A = ℕ} (if b then 1 else 0) 1
named_boot b e = rw e refl

no_boot : (b : Bool) → not b ≡ true → ◌≡◌ {A = ℕ} (if b then 1 else 0) 0
no_boot true e = absurd (let f : false ≡ true = e in cc)
no_boot false e = refl

module _ {start : Start} (m : Moment) (c : Carries start m) where
  pub known_is : (x : ℕ)
      → holders x (known_at m) ≡ holders x (known_of (views_of m.state)) + holders x m.remembered
  known_is x = holders_both x (known_of (views_of m.state)) m.remembered

  pub known_are_blocks : All (IsBlock m.key) (known_at m)
  known_are_blocks = All-append (IsBlock m.key) (known_of (views_of m.state)) m.remembered
      (known_blocks m.key (views_of m.state) c.fits.each) c.are_blocks

  pub held_at : (x : ℕ)
      → holders x (holding_of m.key (views_of m.state))
      ≡ holders x (known_of (views_of m.state)) + holders x (flying_at m) + ground_at m x
  held_at x = held_is_split m.key x (views_of m.state) c.apart

  pub known_held : (x : ℕ) → holders x (known_at m) ≤ holders x (holding_of m.key (views_of m.state))
  known_held x =
      ⊎_elim
      (λ h. omega (arith, known_is x, held_at x, c.remembered x h))
      (λ h. omega (arith, none_outside m.key x (known_at m) known_are_blocks h))
      (cases_lt x (frame_count m.key))

  -- a lost frame is one of the ground's that nobody remembers and the key does not name
  lost_is : (x : ℕ) → is_lost m x ≡ true
      → (holders x m.remembered ≡ 0) × (boot m.key x ≡ 0) × (0 < ground_at m x)
  unfolding is_lost
  lost_is x e =
      let t = flags (nat_lt 0 (holders x (holding_of m.key (views_of m.state)))) (nat_eq (holders x (known_at m)) 0)
      (nat_eq (holders x (flying_at m)) 0) (not (is_boot_frame m.key x)) e in
      let some = some_of (holders x (holding_of m.key (views_of m.state))) t.0 in
      let known = none_of (holders x (known_at m)) t.1 in
      let flying = none_of (holders x (flying_at m)) t.2 in
      (omega (arith, known, known_is x), no_boot (is_boot_frame m.key x) t.3, omega (arith, some, known, flying, known_is x, held_at x))

  counted_lost : (x : ℕ)
      → cond {A = ℕ} (is_lost m x) 1 0 ≤ ground_at m x - (holders x m.remembered + boot m.key x)
  counted_lost x = by (is_lost m x) refl
    where
      by : (b : Bool) → is_lost m x ≡ b
          → cond {A = ℕ} b 1 0 ≤ ground_at m x - (holders x m.remembered + boot m.key x)
      by true e = let t = lost_is x e in omega (arith, t.0, t.1, t.2)
      by false e = omega arith

  pub known_apart : IsHolding m.key (known_at m)
  known_apart = record {
    blocks = known_are_blocks;
    disjoint = λ x.
        ⊎_elim
        (λ h. omega (arith, known_held x, once m.key m.shares m.state.words (views_of m.state) c.fits x h))
        (λ h. omega (arith, none_outside m.key x (known_at m) known_are_blocks h))
        (cases_lt x (frame_count m.key));
  }

  pub named_held : (x : ℕ) → x < frame_count m.key → is_boot_frame m.key x ≡ true
      → (0 < holders x (holding_of m.key (views_of m.state))) × (holders x (known_at m) ≡ 0) × (holders x (flying_at m) ≡ 0)
  named_held x h e =
      let one = once m.key m.shares m.state.words (views_of m.state) c.fits x h in
      let some = named_boot (is_boot_frame m.key x) e in (
        omega (arith, c.remembered x h, some, held_at x),
        omega (arith, c.remembered x h, some, held_at x, one, known_is x),
        omega (arith, c.remembered x h, some, held_at x, one),
      )

  pub few_lost : lost_frames m ≤ lost_then start m.key + 512 * ended_shares start.shares m.key.cores m.stops
  few_lost = omega (
    arith,
    c.count,
    range_le (λ x. cond {A = ℕ} (is_lost m x) 1 0) (λ x. ground_at m x - (holders x m.remembered + boot m.key x)) 0
        (frame_count m.key) (λ x l h. counted_lost x),
  )

  pub were_lost : (x : ℕ) → x < frame_count m.key → is_lost m x ≡ true → 0 < holders x m.abandoned + start.lost x
  were_lost x h e = let t = lost_is x e in omega (arith, c.abandoned x h, t.0, t.1, t.2)
