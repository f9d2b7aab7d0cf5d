-- The cores of two lists are paired in order, the lists turned round and taken from the end.
use Rattle.std.proofs.Common.{◌≡◌, ℕ, ◌+◌, ◌<◌, List, [], ◌∷◌, ◌++◌, length, map, drop, take, reverse, slice_index_or, All, rules, sym, ◌∙◌, ap, subst, arith, inl, inr}
use Rattle.std.proofs.lemmas.Bool.{cases_eq}
use Rattle.std.proofs.lemmas.List.{get_or_append_left, get_or_push, length_push, reverse-append, drop_more, get_or_default, get_or-take, get_or-drop}
use Rattle.std.proofs.lemmas.List.Elements.{All-push, All-get_or, All-append, All-map, All-weaker}
use Rattle.frame_zones.specs.Openings.{home_for}
use Rattle.frame_zones.specs.Pairs.{core_for, cores_of_pairs, ArePairOf, IsPairFrom, ArePairsOf, ArePaired}
use Rattle.frame_zones.specs.Zones.{zone_count, AreCoresOf}
use Rattle.frame_zones.specs.declared.pairs.PairCore.{PairCore}
use Rattle.frame_zones.specs.declared.zones.Zones.{Zones}
use Rattle.frame_zones.specs.declared.zones.ZoneCore.{ZoneCore}

-- of a list that is left from one place on, and turned round, the last is the item there
pub last_is : (i : ℕ) (all left rest : List ZoneCore) (x : ZoneCore) → reverse left ≡ drop i all
    → left ≡ rest ++ x ∷ [] → i < length all → x ∷ reverse rest ≡ slice_index_or all i x ∷ drop (i + 1) all
last_is i all left rest x was is within =
    sym (reverse-append rest (x ∷ [])) ∙ sym (ap (λ (l : List ZoneCore). reverse l) is) ∙ was ∙ drop_more all i x within

head_is : (x y : ZoneCore) (l m : List ZoneCore) → x ∷ l ≡ y ∷ m → x ≡ y
head_is x y l m e = ap (λ (n : List ZoneCore). slice_index_or n 0 x) e

tail_is : (x y : ZoneCore) (l m : List ZoneCore) → x ∷ l ≡ y ∷ m → l ≡ m
tail_is x y l m e = ap (λ (n : List ZoneCore). drop 1 n) e

-- the first ones are paired, and the others are left
pub record IsPairing (zs : Zones) (n i : ℕ) (small huge small_left huge_left : List ZoneCore) (pairs : List PairCore)
    : Type 0 where
  pub so_many : length pairs ≡ i
  pub small_is : reverse small_left ≡ drop i small
  pub huge_is : reverse huge_left ≡ drop i huge
  pub each : (k : ℕ) (c d : ZoneCore) (p : PairCore) → k < i → IsPairFrom (home_for k n (zone_count zs))
      (slice_index_or small k c) (slice_index_or huge k d) (slice_index_or pairs k p)
  pub are_pairs : All (ArePairOf zs) pairs

pub pair_one : (zs : Zones) (n i home : ℕ) (small huge small_left huge_left small_rest huge_rest : List ZoneCore)
    (pairs more : List PairCore) (c d : ZoneCore) (p : PairCore)
    → IsPairing zs n i small huge small_left huge_left pairs
    → small_left ≡ small_rest ++ c ∷ [] → huge_left ≡ huge_rest ++ d ∷ [] → i < length small → i < length huge
    → more ≡ pairs ++ p ∷ [] → home ≡ home_for i n (zone_count zs) → IsPairFrom home c d p → ArePairOf zs p
    → IsPairing zs n (i + 1) small huge small_rest huge_rest more
pair_one zs n i home small huge small_left huge_left small_rest huge_rest pairs more c d p was small-is huge-is within within_huge more-is home-is from are =
    let s = last_is i small small_left small_rest c was.small_is small-is within in
    let h = last_is i huge huge_left huge_rest d was.huge_is huge-is within_huge in
    record {
      so_many = ap length more-is ∙ length_push pairs p ∙ ap (λ m. m + 1) was.so_many;
      small_is = tail_is _ _ _ _ s;
      huge_is = tail_is _ _ _ _ h;
      each = λ k x y q k-below. elim (cases_eq k i) as (λ _. IsPairFrom (home_for k n (zone_count zs))
          (slice_index_or small k x) (slice_index_or huge k y) (slice_index_or more k q)) [
            | inl same ↦ subst (λ j. IsPairFrom (home_for j n (zone_count zs)) (slice_index_or small j x) (slice_index_or huge j y) (slice_index_or more j q)) (sym same)
                (subst (λ (r : PairCore). IsPairFrom (home_for i n (zone_count zs)) (slice_index_or small i x) (slice_index_or huge i y) r)
                (sym (ap (λ (l : List PairCore). slice_index_or l i q) more-is ∙ get_or_push pairs p q i was.so_many))
                (subst (λ (v : ZoneCore). IsPairFrom (home_for i n (zone_count zs)) v (slice_index_or huge i y) p)
                (head_is _ _ _ _ s ∙ get_or_default small i c x within)
                (subst (λ (v : ZoneCore). IsPairFrom (home_for i n (zone_count zs)) c v p)
                (head_is _ _ _ _ h ∙ get_or_default huge i d y within_huge)
                (subst (λ m. IsPairFrom m c d p) home-is from))))
            | inr other ↦
                let below : k < i = omega (arith, k-below, other) in
                subst (λ (r : PairCore). IsPairFrom (home_for k n (zone_count zs)) (slice_index_or small k x) (slice_index_or huge k y) r)
                (sym (ap (λ (l : List PairCore). slice_index_or l k q) more-is
                ∙ get_or_append_left pairs (p ∷ []) q k (subst (λ m. k < m) (sym was.so_many) below)))
                (was.each k x y q below)
          ];
      are_pairs = subst (λ (l : List PairCore). All (ArePairOf zs) l) (sym more-is) (All-push (ArePairOf zs) pairs p was.are_pairs are);
    }

-- the pairs of both halves of a list
pub halves_paired : (zones half n : ℕ) (cores first second : List ZoneCore) (pairs : List PairCore)
    → length cores ≡ half + half → first ≡ take half cores → second ≡ drop half cores → n ≡ half
    → ArePairsOf zones n first second pairs → ArePaired zones cores pairs
halves_paired zones half n cores first second pairs even first-is second-is n-is are =
    let count : length pairs ≡ half = are.count ∙ n-is in
    record {
      count = omega (arith, even, count);
      each = λ k c d p within.
          let below : k < half = omega (arith, within, count) in
          subst (λ m. IsPairFrom (home_for k m zones) (slice_index_or cores k c) (slice_index_or cores (m + k) d) (slice_index_or pairs k p)) (sym count)
          (subst (λ (x : ZoneCore). IsPairFrom (home_for k half zones) x (slice_index_or cores (half + k) d) (slice_index_or pairs k p))
          (ap (λ (l : List ZoneCore). slice_index_or l k c) first-is ∙ get_or-take half cores k c below)
          (subst (λ (x : ZoneCore). IsPairFrom (home_for k half zones) (slice_index_or first k c) x (slice_index_or pairs k p))
          (ap (λ (l : List ZoneCore). slice_index_or l k d) second-is ∙ get_or-drop half cores k d)
          (subst (λ m. IsPairFrom (home_for k m zones) (slice_index_or first k c) (slice_index_or second k d) (slice_index_or pairs k p)) n-is
          (are.each k c d p (omega (arith, below, n-is))))));
    }

-- what holds of all holds of the last that is left
pub last_holds : (P : ZoneCore → Type 0) (i : ℕ) (all left rest : List ZoneCore) (x : ZoneCore) → All P all
    → reverse left ≡ drop i all → left ≡ rest ++ x ∷ [] → i < length all → P x
last_holds P i all left rest x every was is within =
    subst P (sym (head_is _ _ _ _ (last_is i all left rest x was is within))) (All-get_or P all i x within every)

-- the cores of pairs are cores of the zones
pub cores_are : (zs : Zones) (pairs : List PairCore) (cores : List ZoneCore) → All (ArePairOf zs) pairs
    → cores ≡ cores_of_pairs pairs → All (AreCoresOf zs) cores
cores_are zs pairs cores every is =
    subst (λ (l : List ZoneCore). All (AreCoresOf zs) l) (sym is)
    (All-append (AreCoresOf zs) (map (λ (p : PairCore). p.small) pairs) (map (λ (p : PairCore). p.huge) pairs)
    (All-map (AreCoresOf zs) (λ (p : PairCore). p.small) pairs
    (All-weaker (ArePairOf zs) (λ (p : PairCore). AreCoresOf zs p.small) (λ p are. are.small) pairs every))
    (All-map (AreCoresOf zs) (λ (p : PairCore). p.huge) pairs
    (All-weaker (ArePairOf zs) (λ (p : PairCore). AreCoresOf zs p.huge) (λ p are. are.huge) pairs every)))

-- a step through the core for an order is one through either core
is_small : (n : ℕ) (p : PairCore) → ¬ (n ≡ 9) → core_for n p ≡ p.small
is_small n p other = search rules

pub through_huge : (R : ZoneCore → ZoneCore → Type 0) (n : ℕ) (p q : PairCore) → n ≡ 9 → R p.huge q.huge
    → R (core_for n p) (core_for n q)
through_huge R n p q is holds = subst (λ m. R (core_for m p) (core_for m q)) (sym is) holds

pub through_small : (R : ZoneCore → ZoneCore → Type 0) (n : ℕ) (p q : PairCore) → ¬ (n ≡ 9) → R p.small q.small
    → R (core_for n p) (core_for n q)
through_small R n p q other holds =
    subst (λ (x : ZoneCore). R x (core_for n q)) (sym (is_small n p other))
    (subst (λ (y : ZoneCore). R p.small y) (sym (is_small n q other)) holds)
