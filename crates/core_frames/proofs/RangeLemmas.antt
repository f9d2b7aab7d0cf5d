-- Ranges, one after another.
use Rattle.std.proofs.Common.{◌≡◌, ℕ, ◌+◌, ◌<◌, ◌≤◌, List, [], ◌∷◌, length, get_or, drop, Result, Ok, Err, sym, subst, ap, ◌∙◌, add-one}
use Rattle.std.proofs.Common.{arith, ⊎_elim}
use Rattle.std.specs.Prelude.{IfErr}
use Rattle.std.proofs.lemmas.List.{drop_all}
use Rattle.std.proofs.Math.Seq.{drop-cons}
use Rattle.frame_words.specs.declared.geometry.Geometry.{Geometry}
use Rattle.frame_words.specs.declared.fault.Fault.{Fault}
use Rattle.frame_words.specs.declared.fault.Fault.TheVariants.{NoMemory}
use Rattle.frame_model.specs.Key.{AreRanges}
use Rattle.core_frames.specs.Ranges.{MayHoldBack, MayFollow, IsUnopenedFor}

cons_at : (rs : List (ℕ × ℕ)) (i : ℕ) (d : ℕ × ℕ) → i < length rs
    → drop i rs ≡ get_or rs i d ∷ drop (i + 1) rs
cons_at rs i d h = drop-cons rs i d h ∙ ap (λ n. get_or rs i d ∷ drop n rs) (sym (add-one i))

split_range : (from end : ℕ) (r : ℕ × ℕ) (rs : List (ℕ × ℕ)) → AreRanges from end (r ∷ rs)
    → MayFollow from end r × AreRanges (r.0 + r.1) end rs
unfolding AreRanges
split_range from end r rs h = (record { some = h.0; behind = h.1; inside = h.2 }, h.3)

join_range : (from end : ℕ) (r : ℕ × ℕ) (rs : List (ℕ × ℕ)) → MayFollow from end r
    → AreRanges (r.0 + r.1) end rs → AreRanges from end (r ∷ rs)
unfolding AreRanges
join_range from end r rs n h = (n.some, n.behind, n.inside, h)

pub next_of : (from end i : ℕ) (rs : List (ℕ × ℕ)) (d : ℕ × ℕ) → i < length rs
    → AreRanges from end (drop i rs) → MayFollow from end (get_or rs i d)
next_of from end i rs d h all =
    (split_range from end (get_or rs i d) (drop (i + 1) rs) (subst (AreRanges from end) (cons_at rs i d h) all)).0

pub rest_of : (from end i : ℕ) (rs : List (ℕ × ℕ)) (d : ℕ × ℕ) → i < length rs
    → AreRanges from end (drop i rs)
    → AreRanges ((get_or rs i d).0 + (get_or rs i d).1) end (drop (i + 1) rs)
rest_of from end i rs d h all =
    (split_range from end (get_or rs i d) (drop (i + 1) rs) (subst (AreRanges from end) (cons_at rs i d h) all)).1

pub with_next : (from end i : ℕ) (rs : List (ℕ × ℕ)) (d : ℕ × ℕ) → i < length rs
    → MayFollow from end (get_or rs i d)
    → AreRanges ((get_or rs i d).0 + (get_or rs i d).1) end (drop (i + 1) rs)
    → AreRanges from end (drop i rs)
with_next from end i rs d h n all =
    subst (AreRanges from end) (sym (cons_at rs i d h)) (join_range from end (get_or rs i d) (drop (i + 1) rs) n all)

none : (from end : ℕ) → AreRanges from end []
unfolding AreRanges
none from end = tt

pub none_left : (from end i : ℕ) (rs : List (ℕ × ℕ)) → length rs ≤ i → AreRanges from end (drop i rs)
none_left from end i rs h = subst (AreRanges from end) (sym (drop_all i rs h)) (none from end)

-- where the ranges are lawful, memory alone was wanting
pub only_memory : {X : Type 0} (g : Geometry) (rs : List (ℕ × ℕ)) (r : Result X Fault) → MayHoldBack g rs
    → IfErr r (IsUnopenedFor g rs) → IfErr r (λ e. e ≡ NoMemory)
only_memory g rs (Ok x) may why = tt
only_memory g rs (Err e) may why = ⊎_elim (λ bad. absurd (bad.1 may)) (λ wants. wants.0) why

pub no_ranges : (g : Geometry) → MayHoldBack g []
no_ranges g = record { few = omega arith; apart = none 0 g.frames }
