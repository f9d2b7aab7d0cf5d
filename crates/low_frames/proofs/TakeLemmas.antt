-- Views that differ in their counts alone, what no move changes, and what exchanges ask.
use Rattle.std.proofs.Common.{◌≡◌, ℕ, ◌+◌, ◌*◌, ◌/◌, ◌^◌, ◌<◌, ◌≤◌, [], None, refl, ap, sym, subst, ◌∙◌}
use Rattle.std.specs.Prelude.{Bool, Option}
use Rattle.frame_model.specs.declared.view.View.{View}
use Rattle.frame_words.specs.Runs.{IsClearRun}
use Rattle.frame_words.specs.Words.{free_in, flag_in, lane_in}
use Rattle.frame_words.proofs.RunLemmas.{run_apart}
use Rattle.frame_model.specs.declared.key.Key.{Key}
use Rattle.frame_model.specs.Key.{tree_of_child}
use Rattle.frame_model.specs.Steps.Amounts.{IsRun}
use Rattle.frame_model.specs.Steps.Conditions.{CanCharge, CanClaim, CanTakeHuge}
use Rattle.frame_model.specs.Block.{smalls, wholes}
use Rattle.frame_model.specs.View.{count_in, charged_in, paid_on, LiesIn}
use Rattle.frame_model.proofs.Amounts.{count_none}
use Rattle.frame_model.proofs.Blocks.{smalls_none, wholes_none}
use Rattle.frame_model.specs.declared.block.FrameBlock.{FrameBlock}
use Rattle.frame_model.specs.declared.place.Place.{Place}
use Rattle.frame_model.specs.Steps.{Kind}
use Rattle.frame_core.specs.Moves.{ReadsBut}
use Rattle.frame_model.specs.Words.{bits_place}
use Rattle.frame_core.specs.Mover.{Mover, IsApart, Ticks, Keeps, KeepsOthers, Loads, Tries, Makes, HandsOut, HandsIn}
use Rattle.low_frames.specs.Takes.{Counts, IsAsBefore}
use Rattle.low_frames.proofs.Counts.{none_made, one_move, at_most, both_counts, load_counts, make_counts, try_counts, out_counts, in_counts}

-- a view that charges nothing and has nothing in flight has all of that in any child
pub lies_anywhere : (v : View) (child : ℕ) → v.charged ≡ None → v.own ≡ [] → LiesIn v child
lies_anywhere v child e f = record {
  charged = λ other ne. ap (count_in other) e ∙ count_none other;
  smalls = λ x ne. ap (smalls x) f ∙ smalls_none x;
  wholes = λ other ne. ap (wholes other) f ∙ wholes_none other;
}

-- a view as before whose counts change is as before
pub still_as_before : (v u w : View) (moves lost : ℕ) → IsAsBefore v u → w ≡ record u { moves = moves; lost = lost } → IsAsBefore v w
still_as_before v u w moves lost e f =
    let m : w.moves ≡ moves = ap (λ x. x.moves) f in
    let l : w.lost ≡ lost = ap (λ x. x.lost) f in
    f ∙ ap (λ (x : View). record x { moves = moves; lost = lost }) e ∙ sym (ap (λ i. record v { moves = i; lost = w.lost }) m
    ∙ ap (λ i. record v { moves = moves; lost = i }) l)

-- Counts, with their bounds told.

module _ {T H : Type 0} (t : ℕ → ℕ) (exact : ℕ → Type 0) (ticks : Ticks t exact) where
  pub counts_none : (a : Mover T H) → Counts exact 0 a a
  counts_none a = none_made ticks a

  pub counts_one : (a b : Mover T H) → b.view.moves ≡ t a.view.moves → b.view.lost ≡ a.view.lost → b.missed ≡ a.missed
      → Counts exact 1 a b
  counts_one a b e f g = one_move ticks a b e f g

  pub wider : {a b : Mover T H} (n k : ℕ) → n ≤ k → Counts exact n a b → Counts exact k a b
  wider n k h f = at_most ticks f h

  pub then_counts : {a b c : Mover T H} (n m k : ℕ) → n + m ≤ k → Counts exact n a b → Counts exact m b c → Counts exact k a c
  then_counts n m k h f g = at_most ticks (both_counts ticks f g) h

  pub load_then : {a b c : Mover T H} {place : Place} {found : ℕ} (n k : ℕ) → n + 1 ≤ k → Counts exact n a b
      → Loads t place found b c → Counts exact k a c
  load_then n k h f l = at_most ticks (both_counts ticks f (load_counts ticks l)) h

  pub make_then : {a b c : Mover T H} {kind : Kind} (n k : ℕ) → n + 1 ≤ k → Counts exact n a b → Makes t kind b c → Counts exact k a c
  make_then n k h f l = at_most ticks (both_counts ticks f (make_counts ticks l)) h

  pub try_then : {a b c : Mover T H} {kind : Kind} {seen : ℕ} {made : Bool} (n k : ℕ) → n + 1 ≤ k → Counts exact n a b
      → Tries t kind seen made b c → Counts exact k a c
  try_then n k h f l = at_most ticks (both_counts ticks f (try_counts ticks l)) h

  pub out_then : {a b c : Mover T H} {block_of : H → FrameBlock} {d : FrameBlock} {held : H} (n k : ℕ) → n + 1 ≤ k
      → Counts exact n a b → HandsOut t block_of d held b c → Counts exact k a c
  out_then n k h f l = at_most ticks (both_counts ticks f (out_counts ticks l)) h

  pub in_then : {a b c : Mover T H} {block_of : H → FrameBlock} {held : H} (m k : ℕ) → 1 + m ≤ k → HandsIn t block_of held a b
      → Counts exact m b c → Counts exact k a c
  in_then m k h l f = at_most ticks (both_counts ticks (in_counts ticks l) f) h

  pub made_counts : {a b : Mover T H} {kind : Kind} (k : ℕ) → 1 ≤ k → Makes t kind a b → Counts exact k a b
  made_counts k h l = at_most ticks (make_counts ticks l) h

-- What no move changes.

pub keeps_none : {T H : Type 0} (a : Mover T H) → Keeps a a
keeps_none a = record { same_tie = refl; same_key = refl; stays_alone = λ h. h; stay_out = λ d h. h }

-- what no move changes is not changed by two
pub keeps_both : {T H : Type 0} {a b c : Mover T H} → Keeps a b → Keeps b c → Keeps a c
keeps_both f g = record {
  same_tie = g.same_tie ∙ f.same_tie;
  same_key = g.same_key ∙ f.same_key;
  stays_alone = λ h. g.stays_alone (f.stays_alone h);
  stay_out = λ d h. g.stay_out d (f.stay_out d h);
}

-- the same after a block was taken in
pub others_both : {T H : Type 0} {block_of : H → FrameBlock} {d : FrameBlock} {a b c : Mover T H} → KeepsOthers block_of d a b
    → Keeps b c → KeepsOthers block_of d a c
others_both f g = record {
  same_tie = g.same_tie ∙ f.same_tie;
  same_key = g.same_key ∙ f.same_key;
  stays_alone = λ h. g.stays_alone (f.stays_alone h);
  others_out = λ e ne h. g.stay_out e (f.others_out e ne h);
}

-- what was read of other words is as before after two moves on one bit word
pub reads_both : (key was : Key) (word : ℕ) (a b c : ℕ → Option ℕ) → key ≡ was → ReadsBut (bits_place was word) a b
    → ReadsBut (bits_place key word) b c → ReadsBut (bits_place was word) a c
reads_both key was word a b c e f g i ne = subst (λ (k : Key). ReadsBut (bits_place k word) b c) e g i ne ∙ f i ne

-- what is apart under one key is so under another that is the same
pub apart_as : {key was : Key} {v : View} → key ≡ was → IsApart key v → IsApart was v
apart_as {key} {was} {v} e h = subst (λ k. IsApart k v) e h

-- What the exchanges ask, by what was seen.

pub can_charge : (key was : Key) (v w : View) (child seen entry n : ℕ) → key ≡ was → IsAsBefore v w → child < was.children
    → v.charged ≡ None → v.own ≡ [] → entry ≡ lane_in seen child → flag_in entry ≡ 0 → n ≤ free_in entry → CanCharge key w child seen n
can_charge key was v w child seen entry n k b inside charged own lane no_flag enough = record {
  inside = subst (λ (k : Key). child < k.children) (sym k) inside;
  no_flag = ap flag_in (sym lane) ∙ no_flag;
  enough = subst (λ e. n ≤ free_in e) lane enough;
  one_child = lies_anywhere w child (ap (λ x. x.charged) b ∙ charged) (ap (λ x. x.own) b ∙ own);
}

pub run_of : (key : Key) (word seen bit order : ℕ) → word < 8 * key.children → order ≤ 6 → IsClearRun seen order bit
    → IsRun key word bit order
run_of key word seen bit order inside small run = record {
  inside = inside;
  small = small;
  aligned = run.aligned;
  fits = run.bits.inside;
}

pub can_claim : (key was : Key) (v w : View) (word seen bit order : ℕ) → key ≡ was → IsAsBefore v w → word < 8 * was.children → order ≤ 6
    → 2 ^ order ≤ charged_in (word / 8) v → 2 ^ order ≤ paid_on (word / 64) v → seen < 2 ^ 64 → IsClearRun seen order bit
    → CanClaim key w word seen bit order
can_claim key was v w word seen bit order k b inside small charged paid bits run = record {
  is_run = subst (λ k. IsRun k word bit order) (sym k) (run_of was word seen bit order inside small run);
  clear = run_apart seen order bit bits run;
  charged = subst (λ (x : View). 2 ^ order ≤ charged_in (word / 8) x) (sym b) charged;
  paid = subst (λ (x : View). 2 ^ order ≤ paid_on (word / 64) x) (sym b) paid;
}

pub can_take_huge : (key was : Key) (v w : View) (child seen entry : ℕ) → key ≡ was → IsAsBefore v w → child < was.children
    → v.charged ≡ None → v.own ≡ [] → 512 ≤ paid_on (tree_of_child child) v → entry ≡ lane_in seen child → entry ≡ 512
    → CanTakeHuge key w child seen
can_take_huge key was v w child seen entry k b inside charged own paid lane all = record {
  inside = subst (λ (k : Key). child < k.children) (sym k) inside;
  all_free = sym lane ∙ all;
  paid = subst (λ (x : View). 512 ≤ paid_on (tree_of_child child) x) (sym b) paid;
  one_child = lies_anywhere w child (ap (λ x. x.charged) b ∙ charged) (ap (λ x. x.own) b ∙ own);
}
