-- The views of a seat that is cut in two, and of one that takes in another, are views of the memory.
use Rattle.std.proofs.Common.{◌≡◌, ◌⊎◌, inl, inr, ⊎_elim, ℕ, ◌/◌, ◌<◌, List, [], ◌∷◌, Some, true, false, ap, sym, subst, ◌∙◌, arith}
use Rattle.std.specs.List.{All}
use Rattle.std.proofs.Math.Logic.{∥∥₁_elim}
use Rattle.std.proofs.Math.Bridge.{le_prop}
use Rattle.std.proofs.Math.Nat.{ℕ_set}
use Rattle.std.proofs.lemmas.Bool.{cases_eq, cases_lt}
use Rattle.std.proofs.lemmas.List.Elements.{All-head, All-append}
use Rattle.frame_model.specs.declared.block.FrameBlock.{FrameBlock}
use Rattle.frame_model.specs.declared.key.Key.{Key}
use Rattle.frame_model.specs.declared.view.View.{View}
use Rattle.frame_model.specs.Key.{child_of}
use Rattle.frame_model.specs.Block.{IsBlock, small_at, whole_at, smalls, wholes}
use Rattle.frame_model.specs.View.{names, spent, LiesIn, IsViewOf}
use Rattle.frame_model.specs.Steps.{Rest}
use Rattle.frame_model.specs.Seats.{Cut, part_share, hand_out, recall, part_ground, adopt, Join, join_idle, hand_in, keep_in, CanPartShare}
use Rattle.frame_model.specs.Seats.{CanHandOut, CanRecall, CanPartGround, CanAdopt, CanTakeIn, CanHandIn, CanJoinIdle, MayCut, left_by}
use Rattle.frame_model.specs.Seats.{right_by, MayJoin, joined_by}
use Rattle.frame_model.proofs.Blocks.{smalls_cons, wholes_cons, smalls_none, wholes_none, smalls_both, wholes_both, not_whole}
use Rattle.frame_model.proofs.Blocks.{whole_elsewhere, small_elsewhere}
use Rattle.frame_model.proofs.Steps.Shared.{named}
use Rattle.frame_model.proofs.Steps.Seats.{holder_is, idle_is, ground_is}

pub true-is-not-false : true ≡ false → ⊥
true-is-not-false e = cc

-- the ground names its memory
pub ground_named : (key : Key) (v : View) → IsViewOf key v → v.is_ground ≡ true → v.about ≡ Some key
ground_named key v i g = by i.named
  where
    by : (v ≡ spent) ⊎ (v.about ≡ Some key) → v.about ≡ Some key
    by (inl e) = let f : v.is_ground ≡ false = ap (λ (u : View). u.is_ground) e in absurd (true-is-not-false (sym g ∙ f))
    by (inr e) = e

-- the blocks of a view of the memory are blocks of it
pub blocks_are : (key : Key) (v : View) → ∥ IsViewOf key v ∥₁ → All (IsBlock key) v.own × All (IsBlock key) v.kept
blocks_are key v is = (
  λ k d h. record {
    order = ∥∥₁_elim is le_prop (λ (i : IsViewOf key v). (i.own k d h).order);
    aligned = ∥∥₁_elim is (ℕ_set _ _) (λ (i : IsViewOf key v). (i.own k d h).aligned);
    inside = ∥∥₁_elim is le_prop (λ (i : IsViewOf key v). (i.own k d h).inside);
  },
  λ k d h. record {
    order = ∥∥₁_elim is le_prop (λ (i : IsViewOf key v). (i.kept k d h).order);
    aligned = ∥∥₁_elim is (ℕ_set _ _) (λ (i : IsViewOf key v). (i.kept k d h).aligned);
    inside = ∥∥₁_elim is le_prop (λ (i : IsViewOf key v). (i.kept k d h).inside);
  },
)

first_block : (key : Key) (bs : List FrameBlock) (b : FrameBlock) → bs ≡ b ∷ [] → All (IsBlock key) bs
    → IsBlock key b
first_block key bs b e all = All-head (IsBlock key) b [] (subst (All (IsBlock key)) e all)

module _ (t : ℕ → ℕ) (key : Key) (v : View) (i : IsViewOf key v) where
  part_share_left : (n : ℕ) → CanPartShare v n → IsViewOf key (left_by t (part_share n) v)
  part_share_left n can =
      let had : 0 < v.share = omega (arith, can.fewer) in
      let l : LiesIn v (i.one_child had).0 = (i.one_child had).1 in
      let left_has : 0 < (left_by t (part_share n) v).share = omega (arith, can.fewer) in
      record {
        named = inr (named key v i had);
        own = i.own;
        kept = i.kept;
        no_part = λ z. absurd (omega arith);
        one_block = λ z g. absurd (omega arith);
        one_child = λ z. ((i.one_child had).0, record { charged = l.charged; smalls = l.smalls; wholes = l.wholes });
        filled = λ k q. let h = i.filled k q in record { inside = h.inside; share = left_has; own = h.own };
        charged = i.charged;
        paid = i.paid;
        reserving = i.reserving;
        some_charged = i.some_charged;
        some_paid = i.some_paid;
      }

  hand_out_left : (b : FrameBlock) (rest : Rest) → CanHandOut key v b (rest v.own) → IsViewOf key (left_by t (hand_out b rest) v)
  hand_out_left b rest can =
      let had : 0 < v.share = can.share in
      let l : LiesIn v (i.one_child had).0 = (i.one_child had).1 in
      let still_own : (k : ℕ) → 0 < names k v.filled → 0 < wholes (k / 8) (rest v.own) =
      λ k q.
      let h = i.filled k q in
      ⊎_elim
      (λ s. omega (arith, h.own, can.leaves.wholes (k / 8), not_whole (k / 8) b s))
      (λ e.
      let nine : b.order ≡ 9 = omega (arith, can.is_block.order) in
      ⊎_elim
      (λ here. absurd (omega (arith, q, can.unfilled nine k here)))
      (λ ne. omega (arith, h.own, can.leaves.wholes (k / 8), whole_elsewhere b (k / 8) ne))
      (cases_eq (k / 8) (child_of b.frame)))
      (cases_lt b.order 9) in
      record {
        named = inr (named key v i had);
        own = can.leaves.are_blocks;
        kept = i.kept;
        no_part = λ z. absurd (omega arith);
        one_block = λ z g. absurd (omega arith);
        one_child = λ z. (
          (i.one_child had).0,
          record {
            charged = l.charged;
            smalls = λ x ne. omega
                (arith, can.leaves.smalls x, l.smalls x ne);
            wholes = λ d ne. omega (arith, can.leaves.wholes d, l.wholes d ne);
          },
        );
        filled = λ k q. record { inside = (i.filled k q).inside; share = had; own = still_own k q };
        charged = i.charged;
        paid = i.paid;
        reserving = i.reserving;
        some_charged = i.some_charged;
        some_paid = i.some_paid;
      }

  recall_left : (b : FrameBlock) (rest : Rest) → CanRecall key v b (rest v.kept) → IsViewOf key (left_by t (recall b rest) v)
  recall_left b rest can =
      let had : 0 < v.share = can.share in
      let l : LiesIn v (i.one_child had).0 = (i.one_child had).1 in
      record {
        named = inr (named key v i had);
        own = i.own;
        kept = can.leaves.are_blocks;
        no_part = λ z. absurd (omega arith);
        one_block = λ z g. absurd (omega arith);
        one_child = λ z. ((i.one_child had).0, record { charged = l.charged; smalls = l.smalls; wholes = l.wholes });
        filled = λ k q. let h = i.filled k q in record { inside = h.inside; share = had; own = h.own };
        charged = i.charged;
        paid = i.paid;
        reserving = i.reserving;
        some_charged = i.some_charged;
        some_paid = i.some_paid;
      }

  part_ground_left : CanPartGround v → IsViewOf key (left_by t part_ground v)
  part_ground_left can =
      let had : 0 < v.share = can.share in
      let l : LiesIn v (i.one_child had).0 = (i.one_child had).1 in
      record {
        named = inr (named key v i had);
        own = i.own;
        kept = λ k d q. absurd (omega arith);
        no_part = λ z. absurd (omega arith);
        one_block = λ z g. absurd (omega arith);
        one_child = λ z. ((i.one_child had).0, record { charged = l.charged; smalls = l.smalls; wholes = l.wholes });
        filled = λ k q. let h = i.filled k q in record { inside = h.inside; share = had; own = h.own };
        charged = i.charged;
        paid = i.paid;
        reserving = i.reserving;
        some_charged = i.some_charged;
        some_paid = i.some_paid;
      }

  adopt_left : (b : FrameBlock) (rest : Rest) → CanAdopt key v b (rest v.own) → IsViewOf key (left_by t (adopt b rest) v)
  adopt_left b rest can =
      let none = i.no_part can.share in
      record {
        named = inr (ground_named key v i can.is_ground);
        own = can.leaves.are_blocks;
        kept = i.kept;
        no_part = λ z. record {
          paid = none.paid;
          charged = none.charged;
          reserving = none.reserving;
          kept = none.kept;
          filled =
              none.filled;
        };
        one_block = λ z g. absurd (true-is-not-false (sym can.is_ground ∙ g));
        one_child = λ z. absurd (omega (arith, can.share));
        filled = λ k q. absurd (omega (arith, (i.filled k q).share, can.share));
        charged = i.charged;
        paid = i.paid;
        reserving = i.reserving;
        some_charged = i.some_charged;
        some_paid = i.some_paid;
      }

  -- the seat that was cut
  pub left_is : (cut : Cut) → MayCut key cut v → IsViewOf key (left_by t cut v)
  left_is (part_share n) may = part_share_left n may
  left_is (hand_out b rest) may = hand_out_left b rest may
  left_is (recall b rest) may = recall_left b rest may
  left_is part_ground may = part_ground_left may
  left_is (adopt b rest) may = adopt_left b rest may

  -- and the one that was cut off it
  pub right_is : (cut : Cut) → MayCut key cut v → IsViewOf key (right_by cut v)
  right_is (part_share n) may = idle_is key v.about n (named key v i (omega (arith, may.fewer))) may.some
  right_is (hand_out b rest) may = holder_is key v.about b (named key v i may.share) may.is_block
  right_is (recall b rest) may = holder_is key v.about b (named key v i may.share) may.is_block
  right_is part_ground may = ground_is key v.about v.kept (named key v i may.share) i.kept
  right_is (adopt b rest) may = holder_is key v.about b (ground_named key v i may.is_ground) may.is_block

  module _ (u : View) (owns : All (IsBlock key) u.own) (keeps : All (IsBlock key) u.kept) where
    join_idle_both : CanJoinIdle v u → IsViewOf key (joined_by t join_idle v u)
    join_idle_both can =
        let had : 0 < v.share = can.keeper.share in
        let both_has : 0 < (joined_by t join_idle v u).share = omega (arith, had) in
        let l : LiesIn v (i.one_child had).0 = (i.one_child had).1 in
        record {
          named = inr (named key v i had);
          own = i.own;
          kept = All-append (IsBlock key) v.kept u.kept i.kept keeps;
          no_part = λ z. absurd (omega arith);
          one_block = λ z g. absurd (omega arith);
          one_child = λ z. ((i.one_child had).0, record { charged = l.charged; smalls = l.smalls; wholes = l.wholes });
          filled = λ k q. let h = i.filled k q in record { inside = h.inside; share = both_has; own = h.own };
          charged = i.charged;
          paid = i.paid;
          reserving = i.reserving;
          some_charged = i.some_charged;
          some_paid = i.some_paid;
        }

    hand_in_both : CanHandIn v u → IsViewOf key (joined_by t hand_in v u)
    hand_in_both can =
        let take : CanTakeIn v u = can.takes in
        let b : FrameBlock = take.block in
        let had : 0 < v.share = take.share in
        let l : LiesIn v (child_of b.frame) = can.one_child in
        let is_block : IsBlock key b = first_block key u.own b take.owns owns in
        let smalls_u : (x : ℕ) → smalls x u.own ≡ small_at x b = λ x. omega
        (arith, ap (smalls x) take.owns, smalls_cons x b [], smalls_none x) in
        let wholes_u : (c : ℕ) → wholes c u.own ≡ whole_at c b = λ c. omega
        (arith, ap (wholes c) take.owns, wholes_cons c b [], wholes_none c) in
        record {
          named = inr (named key v i had);
          own = All-append (IsBlock key) u.own v.own owns i.own;
          kept = i.kept;
          no_part = λ z. absurd (omega (arith, had));
          one_block = λ z g. absurd (omega (arith, had));
          one_child = λ z. (
            child_of b.frame,
            record {
              charged = l.charged;
              smalls = λ x ne. omega (arith, smalls_both x u.own v.own, smalls_u x, small_elsewhere key b is_block x ne, l.smalls x ne);
              wholes = λ d ne. omega (arith, wholes_both d u.own v.own, wholes_u d, whole_elsewhere b d ne, l.wholes d ne);
            },
          );
          filled = λ k q. let h = i.filled k q in record {
            inside = h.inside;
            share = had;
            own = omega
                (arith, h.own, wholes_both (k / 8) u.own v.own);
          };
          charged = i.charged;
          paid = i.paid;
          reserving = i.reserving;
          some_charged = i.some_charged;
          some_paid = i.some_paid;
        }

    keep_in_both : CanTakeIn v u → IsViewOf key (joined_by t keep_in v u)
    keep_in_both take =
        let had : 0 < v.share = take.share in
        let l : LiesIn v (i.one_child had).0 = (i.one_child had).1 in
        record {
          named = inr (named key v i had);
          own = i.own;
          kept = All-append (IsBlock key) u.own v.kept owns i.kept;
          no_part = λ z. absurd (omega (arith, had));
          one_block = λ z g. absurd (omega (arith, had));
          one_child = λ z. ((i.one_child had).0, record { charged = l.charged; smalls = l.smalls; wholes = l.wholes });
          filled = λ k q. let h = i.filled k q in record { inside = h.inside; share = had; own = h.own };
          charged = i.charged;
          paid = i.paid;
          reserving = i.reserving;
          some_charged = i.some_charged;
          some_paid = i.some_paid;
        }

    -- the seat that took the other in, whose blocks are those of the memory
    pub both_is : (join : Join) → MayJoin join v u → IsViewOf key (joined_by t join v u)
    both_is join_idle may = join_idle_both may
    both_is hand_in may = hand_in_both may
    both_is keep_in may = keep_in_both may
