-- What a search by first frames finds among blocks that ascend.
use Rattle.std.proofs.Common.{◌≡◌, ⊎_elim, ℕ, ◌<◌, ◌≤◌, List, length, get_or, ap, sym, ◌∙◌, arith}
use Rattle.std.specs.Prelude.{false, nat_eq}
use Rattle.std.specs.List.{Contains}
use Rattle.std.specs.List.Sorted.{IsNonDecreasingBy, IsPartitionPoint}
use Rattle.std.specs.Ordering.{nat_cmp, ordering_index}
use Rattle.std.specs.declared.cmp.Ordering.TheVariants.{Less, Greater}
use Rattle.std.proofs.lemmas.Bool.{cases_eq, cases_lt}
use Rattle.std.proofs.lemmas.Bool.Decides.{nat_tests}
use Rattle.std.proofs.lemmas.Cmp.{ranked}
use Rattle.std.proofs.lemmas.List.{get_or_default}
use Rattle.frame_model.specs.declared.block.FrameBlock.{FrameBlock}
use Rattle.frame_model.specs.Block.{block}
use Rattle.frame_slots.specs.Claims.{Ascend, ShareNoFrame}
use Rattle.frame_slots.proofs.Overlaps.{begin_apart}

higher : (a b x : ℕ) → a ≤ b → ordering_index (nat_cmp a x) ≤ ordering_index (nat_cmp b x)
higher a b x le = grind (arith, nat_tests)

pub unequal : (a b : ℕ) → nat_eq a b ≡ false → a ≡ b → ⊥
unequal a b = grind (arith, nat_tests)

module _ (bs : List FrameBlock) (x o : ℕ) where
  -- where one begins at the frame and has another order, none of this order does
  pub not_of_order : (k : ℕ) (e : FrameBlock) → ShareNoFrame bs → k < length bs → (get_or bs k e).frame ≡ x
      → ((get_or bs k e).order ≡ o → ⊥) → Contains bs (block x o) → ⊥
  not_of_order k e apart less begins other has =
      let j : ℕ = has.0 in
      let same : get_or bs j e ≡ block x o = get_or_default bs j e (block x o) has.1 ∙ has.2 in
      let there : (get_or bs j e).frame ≡ x = ap (λ (b : FrameBlock). b.frame) same in
      ⊎_elim
      (λ (before : j < k). begin_apart bs j k e apart before less (there ∙ sym begins))
      (λ from. ⊎_elim
      (λ (is : j ≡ k). other (ap (λ (i : ℕ). (get_or bs i e).order) (sym is) ∙ ap (λ (b : FrameBlock). b.order) same))
      (λ ne. begin_apart bs k j e apart (omega (arith, from, ne)) has.1 (begins ∙ sym there))
      (cases_eq j k))
      (cases_lt j k)

  -- between those that begin before the frame and those that begin behind it, none begins at it
  pub not_between : (i : ℕ) → Ascend bs
      → (IsNonDecreasingBy (λ y. ordering_index (nat_cmp y.frame x)) bs
      → IsPartitionPoint (λ y. nat_cmp y.frame x ≡ Less) (λ y. nat_cmp y.frame x ≡ Greater) bs i)
      → Contains bs (block x o) → ⊥
  not_between i up parted has =
      let j : ℕ = has.0 in
      let e : FrameBlock = block x o in
      let there : (get_or bs j e).frame ≡ x = ap (λ (b : FrameBlock). b.frame) has.2 in
      let parts = parted (λ a b d le less. higher (get_or bs a d).frame (get_or bs b d).frame x (up a b d le less)) in
      ⊎_elim
      (λ (before : j < i). let low = ranked (get_or bs j e).frame x _ (sym (parts.0 j e (omega arith) before)) in omega (arith, low, there))
      (λ from. let high = ranked (get_or bs j e).frame x _ (sym (parts.1 j e from has.1)) in omega (arith, high, there))
      (cases_lt j i)
