-- Zones lie one after another.
use Rattle.std.proofs.Common.{◌≡◌, ℕ, zero, suc, ◌+◌, ◌<◌, ◌≤◌, List, [], ◌∷◌, length, map, get_or, drop, sym, subst, ap, ◌∙◌, add-one, arith}
use Rattle.std.proofs.lemmas.List.{drop_all, get_or-map, length-map}
use Rattle.std.proofs.Math.Seq.{drop-cons}
use Rattle.frame_zones.specs.Spans.{Place, end_of_place, MayComeAfter, AreSpans}

cons_at : (ss : List Place) (i : ℕ) (d : Place) → i < length ss
    → drop i ss ≡ get_or ss i d ∷ drop (i + 1) ss
cons_at ss i d h = drop-cons ss i d h ∙ ap (λ n. get_or ss i d ∷ drop n ss) (sym (add-one i))

part_spans : (cores from : ℕ) (s : Place) (ss : List Place) → AreSpans cores from (s ∷ ss)
    → MayComeAfter cores from s × AreSpans cores (end_of_place s) ss
unfolding AreSpans
part_spans cores from s ss h = (h.0, h.1)

join_spans : (cores from : ℕ) (s : Place) (ss : List Place) → MayComeAfter cores from s
    → AreSpans cores (end_of_place s) ss → AreSpans cores from (s ∷ ss)
unfolding AreSpans
join_spans cores from s ss n h = (n, h)

no_spans : (cores from : ℕ) → AreSpans cores from []
unfolding AreSpans
no_spans cores from = tt

pub next_of : (cores from i : ℕ) (ss : List Place) (d : Place) → i < length ss
    → AreSpans cores from (drop i ss) → MayComeAfter cores from (get_or ss i d)
next_of cores from i ss d h all =
    (part_spans cores from (get_or ss i d) (drop (i + 1) ss) (subst (AreSpans cores from) (cons_at ss i d h) all)).0

pub rest_of : (cores from i : ℕ) (ss : List Place) (d : Place) → i < length ss
    → AreSpans cores from (drop i ss) → AreSpans cores (end_of_place (get_or ss i d)) (drop (i + 1) ss)
rest_of cores from i ss d h all =
    (part_spans cores from (get_or ss i d) (drop (i + 1) ss) (subst (AreSpans cores from) (cons_at ss i d h) all)).1

pub with_next : (cores from i : ℕ) (ss : List Place) (d : Place) → i < length ss
    → MayComeAfter cores from (get_or ss i d) → AreSpans cores (end_of_place (get_or ss i d)) (drop (i + 1) ss)
    → AreSpans cores from (drop i ss)
with_next cores from i ss d h n all =
    subst (AreSpans cores from) (sym (cons_at ss i d h)) (join_spans cores from (get_or ss i d) (drop (i + 1) ss) n all)

pub none_left : (cores from i : ℕ) (ss : List Place) → length ss ≤ i → AreSpans cores from (drop i ss)
none_left cores from i ss h = subst (AreSpans cores from) (sym (drop_all i ss h)) (no_spans cores from)

-- each of them may follow the frame
pub one_at : (cores from : ℕ) (ss : List Place) (i : ℕ) (d : Place) → i < length ss
    → AreSpans cores from ss → MayComeAfter cores from (get_or ss i d)
one_at cores from [] i d within all = absurd (omega (arith, within))
one_at cores from (s ∷ ss) zero d within all = (part_spans cores from s ss all).0
one_at cores from (s ∷ ss) (suc i) d within all =
    let parts = part_spans cores from s ss all in
    let later : MayComeAfter cores (end_of_place s) (get_or ss i d) = one_at cores (end_of_place s) ss i d (omega (arith, within)) parts.1 in
    record {
      same_cores = later.same_cores;
      aligned = later.aligned;
      behind = omega (arith, later.behind, parts.0.behind);
      inside = later.inside;
    }

-- each ends at or below each later one
pub ascending : (cores from : ℕ) (ss : List Place) (i j : ℕ) (d e : Place) → i < j → j < length ss
    → AreSpans cores from ss → end_of_place (get_or ss i d) ≤ (get_or ss j e).first
ascending cores from [] i j d e less within all = absurd (omega (arith, within))
ascending cores from (s ∷ ss) i zero d e less within all = absurd (omega (arith, less))
ascending cores from (s ∷ ss) zero (suc j) d e less within all =
    (one_at cores (end_of_place s) ss j e (omega (arith, within)) (part_spans cores from s ss all).1).behind
ascending cores from (s ∷ ss) (suc i) (suc j) d e less within all =
    ascending cores (end_of_place s) ss i j d e (omega (arith, less)) (omega (arith, within)) (part_spans cores from s ss all).1

-- the place of an item, as it was read
pub place_read : {X : Type 0} (f : X → Place) (xs : List X) (i : ℕ) (x : X) → i < length xs
    → x ≡ get_or xs i x → f x ≡ get_or (map f xs) i (f x)
place_read f xs i x within is = ap f is ∙ sym (get_or-map f xs i x (f x) within)

map_within : {X : Type 0} (f : X → Place) (xs : List X) (i : ℕ) → i < length xs → i < length (map f xs)
map_within f xs i within = subst (λ n. i < n) (sym (length-map xs f)) within

-- the same of the places of items, where one was read
pub next_read : {X : Type 0} (cores from i : ℕ) (f : X → Place) (xs : List X) (x : X) → i < length xs
    → x ≡ get_or xs i x → AreSpans cores from (drop i (map f xs)) → MayComeAfter cores from (f x)
next_read cores from i f xs x within is all =
    subst (λ p. MayComeAfter cores from p) (sym (place_read f xs i x within is))
    (next_of cores from i (map f xs) (f x) (map_within f xs i within) all)

pub rest_read : {X : Type 0} (cores from i : ℕ) (f : X → Place) (xs : List X) (x : X) → i < length xs
    → x ≡ get_or xs i x → AreSpans cores from (drop i (map f xs)) → AreSpans cores (end_of_place (f x)) (drop (i + 1) (map f xs))
rest_read cores from i f xs x within is all =
    subst (λ p. AreSpans cores (end_of_place p) (drop (i + 1) (map f xs))) (sym (place_read f xs i x within is))
    (rest_of cores from i (map f xs) (f x) (map_within f xs i within) all)

pub with_read : {X : Type 0} (cores from i : ℕ) (f : X → Place) (xs : List X) (x : X) → i < length xs
    → x ≡ get_or xs i x → MayComeAfter cores from (f x) → AreSpans cores (end_of_place (f x)) (drop (i + 1) (map f xs))
    → AreSpans cores from (drop i (map f xs))
with_read cores from i f xs x within is n all =
    let read : f x ≡ get_or (map f xs) i (f x) = place_read f xs i x within is in
    with_next cores from i (map f xs) (f x) (map_within f xs i within)
    (subst (λ p. MayComeAfter cores from p) read n)
    (subst (λ p. AreSpans cores (end_of_place p) (drop (i + 1) (map f xs))) read all)

pub none_read : {X : Type 0} (cores from i : ℕ) (f : X → Place) (xs : List X) → length xs ≤ i
    → AreSpans cores from (drop i (map f xs))
none_read cores from i f xs h =
    none_left cores from i (map f xs) (subst (λ n. n ≤ i) (sym (length-map xs f)) h)

-- each of the places may follow the frame
pub one_read : {X : Type 0} (cores from : ℕ) (f : X → Place) (xs : List X) (i : ℕ) (x : X) → i < length xs
    → x ≡ get_or xs i x → AreSpans cores from (map f xs) → MayComeAfter cores from (f x)
one_read cores from f xs i x within is all =
    subst (λ p. MayComeAfter cores from p) (sym (place_read f xs i x within is))
    (one_at cores from (map f xs) i (f x) (map_within f xs i within) all)
