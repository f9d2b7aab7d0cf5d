-- Two buddies in flight, and the block of both.
use Rattle.std.proofs.Common.{◌≡◌, ℕ, suc, ◌+◌, ◌-◌, ◌*◌, ◌/◌, ◌%◌, ◌^◌, ◌<◌, ◌≤◌, List, [], ◌∷◌, None, ap, sym, subst, ◌∙◌, arith}
use Rattle.std.specs.Prelude.{Some, ℤ, pos, ◌≢◌, ◌+ℤ◌, ◌-ℤ◌}
use Rattle.std.proofs.lemmas.Bool.Decides.{nat_tests}
use Rattle.std.proofs.lemmas.Int.{ints}
use Rattle.std.proofs.lemmas.Nat.{pow_pos}
use Rattle.std.proofs.lemmas.List.Elements.{All-cons, All-nil}
use Rattle.std.proofs.Math.Nat.{pow-suc}
use Rattle.frame_model.specs.declared.block.FrameBlock.{FrameBlock}
use Rattle.frame_model.specs.declared.key.Key.{Key}
use Rattle.frame_model.specs.declared.view.View.{View}
use Rattle.frame_model.proofs.Amounts.{count_none}
use Rattle.frame_model.proofs.Blocks.{smalls_none, wholes_none, smalls_cons, wholes_cons, not_whole, halves, within_child}
use Rattle.frame_model.proofs.Blocks.{small_elsewhere, whole_elsewhere}
use Rattle.frame_model.proofs.Without.{without_leaves, leaves_nothing}
use Rattle.frame_model.specs.Block.{block, IsBlock, covers, small_at, smalls, wholes}
use Rattle.frame_model.specs.View.{count_in, holder, LiesIn}
use Rattle.frame_model.specs.Steps.Amounts.{Leaves}
use Rattle.frame_model.specs.Seats.{hand_in, CanHandOut, joined_by, left_by}
use Rattle.frame_core.specs.Moves.{hand_out_block}
use Rattle.frame_core.specs.Mover.{Mover, Keeps, KeepsOthers}
use Rattle.frame_model.specs.Without.{without}
use Rattle.core_frames.specs.Joins.{AreBuddies, KeepsAllBut}
use Rattle.core_frames.specs.Search.{HasTakenOne}
use Rattle.core_frames.specs.Splits.{AreHalves, Bears}
use Rattle.core_frames.proofs.SplitLemmas.{bears, brought_in}

small_is : (x : ℕ) (b : FrameBlock) → b.order ≤ 8 → small_at x b ≡ covers b x
unfolding small_at
small_is x b h = grind (arith, nat_tests)

-- the block of both
abbrev pub both_of : FrameBlock → FrameBlock
both_of lower = block lower.frame (lower.order + 1)

-- buddies lie apart, in one child
pub elsewhere : (lower upper : FrameBlock) → AreBuddies lower upper → upper ≢ lower
elsewhere lower upper are e =
    omega (arith, ap (λ (b : FrameBlock). b.frame) e, are.beside, pow_pos lower.order)

pub same_child : (lower upper : FrameBlock) → AreBuddies lower upper → lower.frame / 512 ≡ upper.frame / 512
same_child lower upper are =
    let next : lower.order + 1 ≡ suc lower.order = omega arith in
    omega (
      arith,
      are.beside,
      pow_pos lower.order,
      pow-suc 2 lower.order,
      within_child (suc lower.order) lower.frame (omega (arith, are.small)) (subst (λ o. lower.frame % 2 ^ o ≡ 0) next are.aligned),
    )

pub lies_there : (key : Key) (lower upper : FrameBlock) (v : View) → IsBlock key lower → AreBuddies lower upper → v.charged ≡ None
    → v.own ≡ lower ∷ [] → LiesIn v (upper.frame / 512)
lies_there key lower upper v is are charged own =
    let same : lower.frame / 512 ≡ upper.frame / 512 = same_child lower upper are in
    record {
      charged = λ other ne. ap (count_in other) charged ∙ count_none other;
      smalls = λ x ne. ap (smalls x) own
          ∙ omega (arith, smalls_cons x lower [], smalls_none x, small_elsewhere key lower is x (λ e. ne (e ∙ same)));
      wholes = λ d ne. ap (wholes d) own
          ∙ omega (arith, wholes_cons d lower [], wholes_none d, whole_elsewhere lower d (λ e. ne (e ∙ same)));
    }

module _ (key : Key) (lower upper : FrameBlock) (is_lower : IsBlock key lower) (is_upper : IsBlock key upper)
    (are : AreBuddies lower upper) where
  abbrev pub whole : FrameBlock
  whole = both_of lower

  abbrev pub own : List FrameBlock
  own = upper ∷ lower ∷ []

  second : upper ≡ block (lower.frame + 2 ^ lower.order) lower.order
  second = ap (λ f. block f upper.order) are.beside ∙ ap (block (lower.frame + 2 ^ lower.order)) are.same_order

  next : suc lower.order ≡ lower.order + 1
  next = omega arith

  twice : 2 ^ (lower.order + 1) ≡ 2 ^ lower.order * 2
  twice = ap (λ o. 2 ^ o) (sym next) ∙ pow-suc 2 lower.order

  pub is_whole : IsBlock key whole
  is_whole = record {
    order = omega (arith, are.small);
    aligned = are.aligned;
    inside = omega (arith, is_upper.inside, are.beside, twice, ap (λ o. 2 ^ o) are.same_order);
  }

  small_whole : (x : ℕ) → smalls x own ≡ small_at x whole
  small_whole x =
      omega (
        arith,
        smalls_cons x upper (lower ∷ []),
        smalls_cons x lower [],
        smalls_none x,
        ap (small_at x) second,
        halves x lower.frame lower.order (omega (arith, are.small)),
        ap (λ o. small_at x (block lower.frame o)) next,
      )

  no_whole : (c : ℕ) → wholes c own ≡ 0
  no_whole c =
      omega (
        arith,
        wholes_cons c upper (lower ∷ []),
        wholes_cons c lower [],
        wholes_none c,
        not_whole c upper (omega (arith, are.small, are.same_order)),
        not_whole c lower (omega (arith, are.small)),
      )

  leaves : Leaves key own whole (without whole own)
  leaves =
      without_leaves key whole own is_whole
      (All-cons (IsBlock key) upper (lower ∷ []) is_upper (All-cons (IsBlock key) lower [] is_lower (All-nil (IsBlock key))))
      (record {
        smalls = λ l x c. omega (arith, small_whole x, small_is x whole (omega (arith, are.small)), c);
        wholes = λ nine. absurd (omega (arith, are.small, nine));
      })

  none_left : without whole own ≡ []
  none_left =
      leaves_nothing key own whole (without whole own) leaves small_whole
      (λ c. omega (arith, no_whole c, not_whole c whole (omega (arith, are.small))))

  pub can_hand_out_both : (v : View) → 0 < v.share → v.own ≡ own → CanHandOut key v whole (without whole v.own)
  can_hand_out_both v share e = record {
    share = share;
    is_block = is_whole;
    leaves = subst (λ bs. Leaves key bs whole (without whole bs)) (sym e) leaves;
    unfilled = λ nine. absurd (omega (arith, are.small, nine));
  }

  pub are_its_halves : AreHalves whole lower upper
  are_its_halves =
      let less : lower.order + 1 - 1 ≡ lower.order = omega arith in
      record {
        some = omega arith;
        lower = ap (block lower.frame) (sym less);
        upper = second ∙ ap (λ o. block (lower.frame + 2 ^ o) o) (sym less);
      }

  -- both came in, and the block of both went out
  pub both_in : (t : ℕ → ℕ) (v u w : View) → v.own ≡ [] → u ≡ joined_by t hand_in v (holder (Some key) lower)
      → w ≡ joined_by t hand_in u (holder (Some key) upper) → Bears v own v.filled (v.lent -ℤ pos 1 -ℤ pos 1) w
  both_in t v u w none e g =
      let first : Bears v (lower ∷ []) v.filled (v.lent -ℤ pos 1) u = brought_in t key lower v u none e in
      bears v u w (lower ∷ []) (upper ∷ u.own) own v.filled u.filled v.filled (v.lent -ℤ pos 1) (u.lent -ℤ pos 1)
      (v.lent -ℤ pos 1 -ℤ pos 1) (t u.moves) u.lost first g (ap (λ (x : View). upper ∷ x.own) first) (ap (λ (x : View). x.filled) first)
      (ap (λ (x : View). x.lent -ℤ pos 1) first)

  lent_less : (z : ℤ) → z -ℤ pos 1 -ℤ pos 1 +ℤ pos 1 ≡ z -ℤ pos 1
  lent_less z = omega (arith, ints)

  pub whole_out : (t : ℕ → ℕ) (v u w : View) → v.own ≡ [] → Bears v own v.filled (v.lent -ℤ pos 1 -ℤ pos 1) u
      → w ≡ left_by t (hand_out_block whole) u → HasTakenOne v w
  whole_out t v u w none e g =
      bears v u w own (without whole u.own) v.own v.filled u.filled v.filled (v.lent -ℤ pos 1 -ℤ pos 1) (u.lent +ℤ pos 1)
      (v.lent -ℤ pos 1) (t u.moves) u.lost e g (ap (λ (x : View). without whole x.own) e ∙ none_left ∙ sym none)
      (ap (λ (x : View). x.filled) e) (ap (λ (x : View). x.lent +ℤ pos 1) e ∙ lent_less v.lent)

-- what two blocks coming in and one going out do not change
pub all_but : {T H : Type 0} {block_of : H → FrameBlock} {b d : FrameBlock} {m n o p : Mover T H} → KeepsOthers block_of b m n
    → KeepsOthers block_of d n o → Keeps o p → KeepsAllBut block_of b d m p
all_but f g h = record {
  same_tie = h.same_tie ∙ g.same_tie ∙ f.same_tie;
  same_key = h.same_key ∙ g.same_key ∙ f.same_key;
  stays_alone = λ a. h.stays_alone (g.stays_alone (f.stays_alone a));
  others_out = λ c x y i. h.stay_out c (g.others_out c y (f.others_out c x i));
}

-- blocks of these numbers are these blocks
pub the_block : (b : FrameBlock) (f o : ℕ) → f ≡ b.frame → o ≡ b.order → block f o ≡ b
the_block b f o e g = ap (λ k. block k o) e ∙ ap (block b.frame) g

pub the_buddies : (lower upper : FrameBlock) (f o g p : ℕ) → f ≡ lower.frame → o ≡ lower.order → g ≡ upper.frame → p ≡ upper.order
    → AreBuddies (block f o) (block g p) → AreBuddies lower upper
the_buddies lower upper f o g p a b c d are =
    subst (λ k. AreBuddies k upper) (the_block lower f o a b)
    (subst (AreBuddies (block f o)) (the_block upper g p c d) are)

pub the_both : (lower : FrameBlock) (f o : ℕ) → f ≡ lower.frame → o ≡ lower.order → block f (o + 1) ≡ both_of lower
the_both lower f o e g = ap (λ k. block k (o + 1)) e ∙ ap (λ k. block lower.frame (k + 1)) g

-- the block goes out of a memory of the same key
pub can_hand_out_as : (key was : Key) (v : View) (b d : FrameBlock) → key ≡ was → b ≡ d → CanHandOut was v d (without d v.own)
    → CanHandOut key v b (without b v.own)
can_hand_out_as key was v b d k e h =
    subst (λ (i : FrameBlock). CanHandOut key v i (without i v.own)) (sym e)
    (subst (λ (i : Key). CanHandOut i v d (without d v.own)) (sym k) h)

-- the view of the second that came in, under the first key
pub in_as : (key was : Key) (t : ℕ → ℕ) (v w : View) (b : FrameBlock) → key ≡ was → w ≡ joined_by t hand_in v (holder (Some key) b)
    → w ≡ joined_by t hand_in v (holder (Some was) b)
in_as key was t v w b k e = e ∙ ap (λ (i : Key). joined_by t hand_in v (holder (Some i) b)) k

pub out_as : (t : ℕ → ℕ) (v w : View) (b d : FrameBlock) → b ≡ d → w ≡ left_by t (hand_out_block b) v
    → w ≡ left_by t (hand_out_block d) v
out_as t v w b d e g = g ∙ ap (λ (i : FrameBlock). left_by t (hand_out_block i) v) e
