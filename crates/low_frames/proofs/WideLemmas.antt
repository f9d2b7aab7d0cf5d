-- Words that are claimed one after the other.
use Rattle.std.proofs.Common.{◌≡◌, ◌≢◌, ◌⊎◌, inl, inr, ⊎_elim, ℕ, ◌+◌, ◌-◌, ◌*◌, ◌/◌, ◌%◌, ◌^◌, ◌<◌, ◌≤◌, List, [], ◌∷◌, Option, None}
use Rattle.std.proofs.Common.{Some, refl, ap, sym, subst, ◌∙◌, arith}
use Rattle.std.specs.Prelude.{pos, ◌+ℤ◌, length, slice_index, slice_set}
use Rattle.std.proofs.lemmas.Bool.{cases_lt}
use Rattle.std.proofs.lemmas.Nat.{pow_pos}
use Rattle.std.proofs.lemmas.List.{get_or-set_same, get_or-set_other}
use Rattle.std.proofs.lemmas.Bool.Decides.{nat_tests}
use Rattle.frame_words.specs.Runs.{IsClearGroup}
use Rattle.frame_model.specs.declared.block.FrameBlock.{FrameBlock}
use Rattle.frame_model.specs.declared.key.Key.{Key}
use Rattle.frame_model.specs.declared.view.Amount.{Amount}
use Rattle.frame_model.specs.declared.view.View.{View}
use Rattle.frame_model.specs.Key.{tree_of_child}
use Rattle.frame_model.specs.Words.{bits_place}
use Rattle.frame_model.specs.View.{counted, count_in, charged_in, paid_on, NoneBut}
use Rattle.frame_core.specs.Moves.{ReadsBut, hand_out_block}
use Rattle.frame_model.specs.Steps.Amounts.{more, less, Leaves}
use Rattle.frame_model.specs.Steps.Conditions.{CanClaim}
use Rattle.frame_model.proofs.Amounts.{count_none, less_here, less_else, one_place}
use Rattle.low_frames.proofs.AmountLemmas.{more_counted}
use Rattle.low_frames.specs.Takes.{IsAsBefore, HasCharged, HasClaimed, HasHandedOut, IsBlockIn}
use Rattle.frame_model.specs.Seats.{CanHandOut, left_by}
use Rattle.frame_model.specs.Without.{without}
use Rattle.low_frames.proofs.ViewLemmas.{charged_back}
use Rattle.low_frames.specs.Gives.{HasReleased}
use Rattle.low_frames.proofs.WordsLemmas.{words_more, words_leave, words_leave_nothing}
use Rattle.frame_model.specs.Block.{block, IsBlock}
use Rattle.low_frames.specs.Groups.{HoldsWords, HasClaimedWords, WasReadClear, ReadsOutside}

-- two bit words stand at two places
pub bits_apart : (key : Key) (a b : ℕ) → a ≢ b → bits_place key a ≢ bits_place key b
unfolding bits_place
bits_apart key a b ne e = ne (omega arith)

-- the words of each group that the list shows clear are known to have been read so
abbrev pub ReadClearGroups : Key → (ℕ → Option ℕ) → List ℕ → ℕ → ℕ → ℕ → Type 0
ReadClearGroups key read words order child count =
    (first : ℕ) → IsClearGroup words order first → WasReadClear key read (8 * child + first) count

pub reads_outside : (key : Key) (word first count : ℕ) (old mid new : ℕ → Option ℕ) → first ≤ word → word < first + count
    → ReadsOutside key first count old mid → ReadsBut (bits_place key word) mid new → ReadsOutside key first count old new
reads_outside key word first count old mid new l h r but w out = but (bits_place key w)
    (bits_apart key w word (⊎_elim (λ a e. absurd (omega arith)) (λ b e. absurd (omega arith)) out)) ∙ r w out

pub can_claim_word : (key was : Key) (v w : View) (word : ℕ) → key ≡ was → IsAsBefore v w → word < 8 * was.children
    → 64 ≤ charged_in (word / 8) v → 64 ≤ paid_on (word / 64) v → CanClaim key w word 0 0 6
can_claim_word key was v w word k b inside charged paid = record {
  is_run = record {
    inside = subst (λ (k : Key). word < 8 * k.children) (sym k) inside;
    small = omega arith;
    aligned = omega arith;
    fits = omega arith;
  };
  clear = refl;
  charged = subst (λ (x : View). 64 ≤ charged_in (word / 8) x) (sym b) charged;
  paid = subst (λ (x : View). 64 ≤ paid_on (word / 64) x) (sym b) paid;
}

-- Amounts.

less_counted : (c m n : ℕ) → less c m (counted c n) ≡ counted c (n - m)
unfolding less counted
less_counted c m n = grind (arith, nat_tests)

minus_twice : (c i m n : ℕ) → counted c (i - n - m) ≡ counted c (i - (n + m))
minus_twice c i m n = ap (counted c) (omega arith)

less_twice : (c m n : ℕ) (a : Option Amount) → less c m (less c n a) ≡ less c (n + m) a
unfolding less
less_twice c m n None = refl
less_twice c m n (Some a) = grind (arith, nat_tests, less_counted, minus_twice)

count_of : (c : ℕ) (a : Amount) → 0 < count_in c (Some a) → (a.place ≡ c) × (count_in c (Some a) ≡ a.count)
unfolding count_in
count_of c a h = grind (arith, nat_tests)

less_of : (a : Amount) (n : ℕ) → less a.place n (Some a) ≡ counted a.place (a.count - n)
unfolding less
less_of a n = grind (arith, nat_tests)

counted_of : (a : Amount) → 0 < a.count → counted a.place a.count ≡ Some a
unfolding counted
counted_of a h = grind (arith, nat_tests)

less_by_none_here : (a : Amount) → 0 < a.count → less a.place 0 (Some a) ≡ Some a
less_by_none_here a h = less_of a 0 ∙ ap (counted a.place) (omega arith) ∙ counted_of a h

pub less_by_none : (c : ℕ) (a : Option Amount) → 0 < count_in c a → less c 0 a ≡ a
less_by_none c None h = absurd (omega (arith, count_none c))
less_by_none c (Some a) h =
    let e : (a.place ≡ c) × (count_in c (Some a) ≡ a.count) = count_of c a h in
    subst (λ i. less i 0 (Some a) ≡ Some a) e.0 (less_by_none_here a (omega (arith, e.1)))

back_here : (a : Amount) (n : ℕ) → 0 < n → n ≤ a.count → more a.place n (less a.place n (Some a)) ≡ Some a
back_here a n s h = ap (more a.place n) (less_of a n) ∙ more_counted a.place n (a.count - n) s ∙ ap (counted a.place) (omega arith)
    ∙ counted_of a (omega arith)

pub back_again : (c n : ℕ) (a : Option Amount) → 0 < n → n ≤ count_in c a → more c n (less c n a) ≡ a
back_again c n None s h = absurd (omega (arith, count_none c))
back_again c n (Some a) s h =
    let e : (a.place ≡ c) × (count_in c (Some a) ≡ a.count) = count_of c a (omega arith) in
    subst (λ i. more i n (less i n (Some a)) ≡ Some a) e.0 (back_here a n s (omega (arith, e.1)))

-- Claims.

pub claimed_then : (word moves : ℕ) (v u w : View) → IsAsBefore v u → w ≡ record u {
  charged = less (word / 8) 64 u.charged;
  paid = less (word / 64) 64 u.paid;
  own = block (64 * word + 0) 6 ∷ u.own;
  moves = moves;
} → HasClaimed word 0 6 v w
claimed_then word moves v u w before e =
    let F : View → View = (λ x. record x {
      charged = less (word / 8) 64 x.charged;
      paid = less (word / 64) 64 x.paid;
      own = block (64 * word + 0) 6 ∷ x.own;
      moves = w.moves;
      lost = w.lost;
    }) in
    ap (λ (x : View). record x { moves = w.moves; lost = w.lost }) e ∙ ap F before

module _ (child first count i : ℕ) (v u : View) (within : first + count ≤ 8) (more_left : i < count)
    (claimed : HasClaimedWords child (64 * i) v u) where
  -- there is enough for the next word
  pub charged_still : 64 * count ≤ charged_in child v → 64 ≤ charged_in ((8 * child + first + i) / 8) u
  charged_still h =
      let c : (8 * child + first + i) / 8 ≡ child = omega arith in
      omega (arith, ap (λ k. charged_in k u) c, ap (charged_in child) claimed, less_here child (64 * i) v.charged)

  pub paid_still : 64 * count ≤ paid_on (tree_of_child child) v → 64 ≤ paid_on ((8 * child + first + i) / 64) u
  paid_still h =
      let c : (8 * child + first + i) / 64 ≡ child / 8 = omega arith in
      omega (arith, ap (λ k. paid_on k u) c, ap (paid_on (child / 8)) claimed, less_here (child / 8) (64 * i) v.paid)

  -- one word more
  pub claimed_more : (w : View) → HasClaimed (8 * child + first + i) 0 6 u w → HasClaimedWords child (64 * (i + 1)) v w
  claimed_more w step =
      let at : ℕ = 8 * child + first + i in
      let F : Option Amount → Option Amount
      → View = (λ a p. record v { charged = a; paid = p; own = w.own; moves = w.moves; lost = w.lost }) in
      let c : at / 8 ≡ child = omega arith in
      let d : at / 64 ≡ child / 8 = omega arith in
      let n : 64 * i + 64 ≡ 64 * (i + 1) = omega arith in
      let charged : w.charged ≡ less child (64 * (i + 1)) v.charged =
      ap (λ x. x.charged) step ∙ ap (λ k. less k 64 u.charged) c ∙ ap (λ (x : View). less child 64 x.charged) claimed
      ∙ less_twice child 64 (64 * i) v.charged ∙ ap (λ k. less child k v.charged) n in
      let paid : w.paid ≡ less (child / 8) (64 * (i + 1)) v.paid =
      ap (λ x. x.paid) step ∙ ap (λ k. less k 64 u.paid) d ∙ ap (λ (x : View). less (child / 8) 64 x.paid) claimed
      ∙ less_twice (child / 8) 64 (64 * i) v.paid ∙ ap (λ k. less (child / 8) k v.paid) n in
      let G : View → View = (λ x. record x { charged = w.charged; paid = w.paid; own = w.own; moves = w.moves; lost = w.lost }) in
      ap G step ∙ ap G claimed ∙ ap (λ a. F a w.paid) charged ∙ ap (λ p. F (less child (64 * (i + 1)) v.charged) p) paid

  pub words_claimed : (key : Key) (w : View) → child < key.children → HasClaimed (8 * child + first + i) 0 6 u w
      → HoldsWords key u.own (8 * child + first) i → HoldsWords key w.own (8 * child + first) (i + 1)
  words_claimed key w inside step own = subst (λ l. HoldsWords key l (8 * child + first) (i + 1)) (sym (ap (λ x. x.own) step))
      (words_more key u.own (8 * child + first) i (omega arith) own)

  -- what was claimed and released again is as before
  pub back_as_before : (w x : View) → 0 < i → v.own ≡ [] → 64 * count ≤ charged_in child v → 64 * count ≤ paid_on (tree_of_child child) v
      → IsAsBefore u w → HasReleased child (64 * i) w x → IsAsBefore v x
  back_as_before w x some own enough paid_enough lost released =
      let F : Option Amount → Option Amount → List FrameBlock
      → View = (λ a p o. record v { charged = a; paid = p; own = o; moves = x.moves; lost = x.lost }) in
      let charged : x.charged ≡ v.charged =
      ap (λ y. y.charged) released ∙ ap (λ (y : View). more child (64 * i) y.charged) lost
      ∙ ap (λ (y : View). more child (64 * i) y.charged) claimed ∙ back_again child (64 * i) v.charged (omega arith) (omega arith) in
      let paid : x.paid ≡ v.paid =
      ap (λ y. y.paid) released ∙ ap (λ (y : View). more (child / 8) (64 * i) y.paid) lost
      ∙ ap (λ (y : View). more (child / 8) (64 * i) y.paid) claimed
      ∙ back_again (child / 8) (64 * i) v.paid (omega arith) (omega arith) in
      let none : x.own ≡ v.own = ap (λ y. y.own) released ∙ sym own in
      let G : View → View = (λ y. record y { charged = x.charged; paid = x.paid; own = x.own; moves = x.moves; lost = x.lost }) in
      ap G released ∙ ap G lost ∙ ap G claimed ∙ ap (λ a. F a x.paid x.own) charged ∙ ap (λ p. F v.charged p x.own) paid
      ∙ ap (F v.charged v.paid) none

  -- nothing is charged in another child, or paid on another tree
  pub charges_here : (w : View) → 64 * count ≤ charged_in child v → IsAsBefore u w → NoneBut child w.charged
  charges_here w enough lost other ne =
      let n : 0 < count_in child v.charged = omega arith in
      ap (λ y. count_in other y.charged) lost ∙ ap (λ y. count_in other y.charged) claimed ∙ less_else child other (64 * i) v.charged ne
      ∙ one_place child v.charged n other ne

  pub pays_here : (w : View) → 64 * count ≤ paid_on (tree_of_child child) v → IsAsBefore u w → NoneBut (tree_of_child child) w.paid
  pays_here w enough lost other ne =
      let n : 0 < count_in (child / 8) v.paid = omega arith in
      ap (λ y. count_in other y.paid) lost ∙ ap (λ y. count_in other y.paid) claimed ∙ less_else (child / 8) other (64 * i) v.paid ne
      ∙ one_place (child / 8) v.paid n other ne

-- before the first word
pub claimed_none : (child count : ℕ) (v : View) → 0 < count → 64 * count ≤ charged_in child v
    → 64 * count ≤ paid_on (tree_of_child child) v → HasClaimedWords child 0 v v
claimed_none child count v some enough paid =
    ap (λ a. record v { charged = a }) (sym (less_by_none child v.charged (omega arith)))
    ∙ ap (λ a. record v { charged = less child 0 v.charged; paid = a }) (sym (less_by_none (child / 8) v.paid (omega arith)))

pub first_lost : (child : ℕ) (v u w : View) (i : ℕ) → i ≡ 0 → 0 < charged_in child v → 0 < paid_on (tree_of_child child) v → v.own ≡ []
    → u.own ≡ [] → HasClaimedWords child (64 * i) v u → IsAsBefore u w → IsAsBefore v w
first_lost child v u w i z enough paid own none claimed lost =
    let F : Option Amount → Option Amount → List FrameBlock
    → View = (λ a p o. record v { charged = a; paid = p; own = o; moves = w.moves; lost = w.lost }) in
    let n : 64 * i ≡ 0 = omega arith in
    lost ∙ ap (λ (y : View). record y { moves = w.moves; lost = w.lost }) claimed
    ∙ ap (λ a. F a (less (child / 8) (64 * i) v.paid) u.own) (ap (λ k. less child k v.charged) n ∙ less_by_none child v.charged enough)
    ∙ ap (λ p. F v.charged p u.own) (ap (λ k. less (child / 8) k v.paid) n ∙ less_by_none (child / 8) v.paid paid)
    ∙ ap (F v.charged v.paid) (none ∙ sym own)

-- Groups.

pub two_or_four : (order count : ℕ) → 7 ≤ order → order ≤ 8 → 64 * count ≡ 2 ^ order
    → ((order ≡ 7) × (count ≡ 2)) ⊎ ((order ≡ 8) × (count ≡ 4))
two_or_four order count l h e =
    ⊎_elim
    (λ a. let o : order ≡ 7 = omega arith in inl (o, omega (arith, e, ap (λ k. 2 ^ k) o)))
    (λ b. let o : order ≡ 8 = omega arith in inr (o, omega (arith, e, ap (λ k. 2 ^ k) o)))
    (cases_lt order 8)

-- a group has as many words as the block
pub group_is : (order count : ℕ) → 7 ≤ order → order ≤ 8 → 64 * count ≡ 2 ^ order → 2 ^ (order - 6) ≡ count
group_is order count l h e =
    ⊎_elim (λ a. ap (λ k. 2 ^ (k - 6)) a.0 ∙ sym a.1) (λ b. ap (λ k. 2 ^ (k - 6)) b.0 ∙ sym b.1) (two_or_four order count l h e)

-- a child has no more groups than are tried
pub turns : (order count i : ℕ) → 7 ≤ order → order ≤ 8 → 64 * count ≡ 2 ^ order → i < 8 / count
    → (count * i + count ≤ 8) × (count * (i + 1) ≡ count * i + count)
turns order count i l h e q =
    ⊎_elim
    (λ a. let r : i < 8 / 2 = subst (λ k. i < 8 / k) a.1 q in subst (λ k. (k * i + k ≤ 8) × (k * (i + 1) ≡ k * i + k)) (sym a.1)
    (omega arith, omega arith))
    (λ b. let r : i < 8 / 4 = subst (λ k. i < 8 / k) b.1 q in subst (λ k. (k * i + k ≤ 8) × (k * (i + 1) ≡ k * i + k)) (sym b.1)
    (omega arith, omega arith))
    (two_or_four order count l h e)

pub some_in_group : (order count : ℕ) → 64 * count ≡ 2 ^ order → 0 < count
some_in_group order count e = let p : 0 < 2 ^ order = pow_pos order in omega arith

-- two groups at multiples of their length, one of which has a word that the other has not, have none in common
apart_groups : (order count first other lost : ℕ) → 7 ≤ order → order ≤ 8 → 64 * count ≡ 2 ^ order → first % count ≡ 0
    → other % count ≡ 0 → first ≤ lost → lost < first + count → (lost < other) ⊎ (other + count ≤ lost)
    → (other + count ≤ first) ⊎ (first + count ≤ other)
apart_groups order count first other lost l h e a b p q out =
    ⊎_elim
    (λ k. let x : first % 2 ≡ 0 = subst (λ n. first % n ≡ 0) k.1 a in let y : other % 2 ≡ 0 = subst (λ n. other % n ≡ 0) k.1 b in let two
    : count ≡ 2 = k.1 in ⊎_elim (λ u. inr (omega arith)) (λ u. inl (omega arith)) out)
    (λ k. let x : first % 4 ≡ 0 = subst (λ n. first % n ≡ 0) k.1 a in let y : other % 4 ≡ 0 = subst (λ n. other % n ≡ 0) k.1 b in let
    four : count ≡ 4 = k.1 in ⊎_elim (λ u. inr (omega arith)) (λ u. inl (omega arith)) out)
    (two_or_four order count l h e)

-- what was loaded into the list is known to have been read
pub groups_read : (key : Key) (read : ℕ → Option ℕ) (words : List ℕ) (order child count : ℕ) → 7 ≤ order → order ≤ 8
    → 64 * count ≡ 2 ^ order → ((i : ℕ) → i < 8 → read (bits_place key (8 * child + i)) ≡ Some (slice_index words i))
    → ReadClearGroups key read words order child count
groups_read key read words order child count l h e all first group w a b =
    let s : 2 ^ (order - 6) ≡ count = group_is order count l h e in
    let i : ℕ = w - 8 * child in
    let f : 8 * child + i ≡ w = omega arith in
    let inside : first + 2 ^ (order - 6) ≤ 8 = group.inside in
    subst (λ k. read (bits_place key k) ≡ Some 0) f (all i (omega arith) ∙ ap Some (group.clear i (omega arith) (omega arith)))

-- a group that is clear beside the lost word is still known to have been read so
pub groups_still : (key : Key) (old new : ℕ → Option ℕ) (words : List ℕ) (order child count first lost found : ℕ) → 7 ≤ order → order ≤ 8
    → 64 * count ≡ 2 ^ order → length words ≡ 8 → first % count ≡ 0 → first + count ≤ 8 → first ≤ lost → lost < first + count → 0 < found
    → ReadsOutside key (8 * child + first) count old new → ReadClearGroups key old words order child count
    → ReadClearGroups key new (slice_set words lost found) order child count
groups_still key old new words order child count first lost found l h e size al inside p q some outside before other group w a b =
    let s : 2 ^ (order - 6) ≡ count = group_is order count l h e in
    let within : other + 2 ^ (order - 6) ≤ 8 = group.inside in
    let there : slice_index (slice_set words lost found) lost ≡ found = get_or-set_same words lost found 0 (omega arith) in
    let out : (lost < other) ⊎ (other + count ≤ lost) =
    ⊎_elim
    (λ x. inl x)
    (λ x. ⊎_elim (λ y. absurd (omega (arith, there, group.clear lost x (omega arith)))) (λ y. inr y) (cases_lt lost (other + count)))
    (cases_lt lost other) in
    let same : (i : ℕ) → i ≢ lost
    → slice_index (slice_set words lost found) i ≡ slice_index words i = (λ i ne. get_or-set_other words lost i found 0 ne) in
    let was : IsClearGroup words order other = record {
      aligned = group.aligned;
      inside = group.inside;
      clear = λ i x y. sym (same i (λ z. ⊎_elim (λ u. absurd (omega arith)) (λ u. absurd (omega arith)) out)) ∙ group.clear i x y;
    } in
    let far : (other + count ≤ first) ⊎ (first + count ≤ other) = apart_groups order count first other lost l h e al
    (subst (λ k. other % k ≡ 0) s group.aligned) p q out in
    outside w (⊎_elim (λ u. inl (omega arith)) (λ u. inr (omega arith)) far) ∙ before other was w a b

-- Handing out.

pub wide_is_block : (key : Key) (child order first count : ℕ) → 7 ≤ order → order ≤ 8 → 64 * count ≡ 2 ^ order → first % count ≡ 0
    → first + count ≤ 8 → child < key.children → IsBlock key (block (512 * child + 64 * first) order)
wide_is_block key child order first count l h e al inside c = record {
  order = omega arith;
  aligned =
      ⊎_elim
      (λ k. let x : first % 2 ≡ 0 = subst (λ n. first % n ≡ 0) k.1 al in subst (λ o. (512 * child + 64 * first) % 2 ^ o ≡ 0) (sym k.0)
      (omega arith))
      (λ k. let x : first % 4 ≡ 0 = subst (λ n. first % n ≡ 0) k.1 al in subst (λ o. (512 * child + 64 * first) % 2 ^ o ≡ 0) (sym k.0)
      (omega arith))
      (two_or_four order count l h e);
  inside = omega arith;
}

module _ (key : Key) (child order first count n : ℕ) (v u w : View) (wide : 7 ≤ order) (small : order ≤ 8)
    (size : 64 * count ≡ 2 ^ order) (al : first % count ≡ 0) (inside : first + count ≤ 8) (within : child < key.children)
    (charged : HasCharged child n v u) (claimed : HasClaimedWords child (64 * count) u w)
    (own : HoldsWords key w.own (8 * child + first) count) where
  pub wide_in_child : IsBlockIn key child order (block (512 * child + 64 * first) order)
  wide_in_child = record {
    is_block = wide_is_block key child order first count wide small size al inside within;
    has_order = refl;
    in_child = omega (arith, some_in_group order count size);
  }

  wide_leaves : Leaves key w.own (block (512 * child + 64 * first) order) (without (block (512 * child + 64 * first) order) w.own)
  wide_leaves = words_leave key w.own (8 * child + first) count (block (512 * child + 64 * first) order) wide_in_child.is_block
      (omega arith) (omega arith) (omega arith) own

  pub can_hand_out_words : (k : Key) → k ≡ key → 0 < v.share
      → CanHandOut k w (block (512 * child + 64 * first) order) (without (block (512 * child + 64 * first) order) w.own)
  can_hand_out_words k q share = subst (λ k. CanHandOut k w (block (512 * child + 64 * first) order)
      (without (block (512 * child + 64 * first) order) w.own)) (sym q) (record {
        share = subst (λ s. 0 < s) (sym (ap (λ x. x.share) claimed ∙ ap (λ x. x.share) charged)) share;
        is_block = wide_in_child.is_block;
        leaves = wide_leaves;
        unfilled = λ top. absurd (omega arith);
      })

  pub handed_out_words : (t : ℕ → ℕ) (x : View) → n ≡ 2 ^ order → v.charged ≡ None → v.own ≡ []
      → x ≡ left_by t (hand_out_block (block (512 * child + 64 * first) order)) w → HasHandedOut (tree_of_child child) order v x
  handed_out_words t x e none nothing out =
      let b : FrameBlock = block (512 * child + 64 * first) order in
      let F : Option Amount → ℕ → List FrameBlock
      → View = (λ a m o. record v {
        charged = a;
        paid = less (child / 8) m v.paid;
        own = o;
        lent = v.lent +ℤ pos 1;
        moves = x.moves;
        lost = x.lost;
      }) in
      let G : View → View = (λ y. record y { charged = x.charged; own = x.own; moves = x.moves; lost = x.lost }) in
      let c : x.charged ≡ v.charged =
      ap (λ y. y.charged) out ∙ ap (λ y. y.charged) claimed ∙ ap (λ (y : View). less child (64 * count) y.charged) charged
      ∙ ap (λ k. less child k (more child n v.charged)) (size ∙ sym e) ∙ ap (λ a. less child n (more child n a)) none
      ∙ charged_back child n ∙ sym none in
      let o : x.own ≡ v.own = ap (λ y. y.own) out
      ∙ words_leave_nothing key w.own (8 * child + first) count b (omega arith) (omega arith) (sym size) own wide_leaves
      ∙ sym nothing in
      ap G out
      ∙ ap (λ (y : View). record y { charged = x.charged; own = x.own; lent = y.lent +ℤ pos 1; moves = x.moves; lost = x.lost }) claimed
      ∙ ap (λ (y : View). record y {
        charged = x.charged;
        paid = less (child / 8) (64 * count) y.paid;
        own = x.own;
        lent = y.lent +ℤ pos
            1;
        moves = x.moves;
        lost = x.lost;
      }) charged
      ∙ ap (λ a. F a (64 * count) x.own) c ∙ ap (λ m. F v.charged m x.own) size ∙ ap (F v.charged (2 ^ order)) o

-- so many tries as there are groups load each word at most once again
pub turns_all : (order count i : ℕ) → 7 ≤ order → order ≤ 8 → 64 * count ≡ 2 ^ order → i ≤ 8 / count → count * i ≤ 8
turns_all order count i l h e q =
    ⊎_elim
    (λ a. let r : i ≤ 8 / 2 = subst (λ k. i ≤ 8 / k) a.1 q in subst (λ k. k * i ≤ 8) (sym a.1) (omega arith))
    (λ b. let r : i ≤ 8 / 4 = subst (λ k. i ≤ 8 / k) b.1 q in subst (λ k. k * i ≤ 8) (sym b.1) (omega arith))
    (two_or_four order count l h e)
