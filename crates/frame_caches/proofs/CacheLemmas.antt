-- What is left of a list, and why a take behind a cache is refused.
use Rattle.std.proofs.Common.{◌≡◌, ◌∙◌, ℕ, refl, sym, ap, subst, rules, arith, ◌+◌, ◌-◌, ◌<◌, ◌≤◌, List, [], ◌∷◌, ◌++◌, drop, take, length}
use Rattle.std.specs.Prelude.{Result, Err, IfErr, Some}
use Rattle.std.proofs.lemmas.List.{length-append, length-drop, length-take, take-append-le, take-take, take_all}
use Rattle.std.proofs.lemmas.Result.{IfErr-at_err, IfErr-weaker}
use Rattle.frame_words.specs.Geometry.{huge_order}
use Rattle.frame_words.specs.declared.fault.TakeFault.{TakeFault}
use Rattle.frame_words.specs.declared.fault.TakeFault.TheVariants.{BadOrder}
use Rattle.frame_table.specs.declared.block.Block.{Block}
use Rattle.low_frames.specs.Alone.{Turns}
use Rattle.core_frames.specs.Cores.{number_of, lent_by, known_by, StepsAlone, IsSureOf, IsCoreOf, StaysCoreOf}
use Rattle.core_frames.specs.Uses.{IsRefusedFor}
use Rattle.core_frames.specs.declared.shared.allocator.Allocator.{Allocator}
use Rattle.core_frames.specs.declared.shared.allocator.Core.{Core}
use Rattle.core_frames.specs.declared.shared.allocator.Core.{Core}
use Rattle.frame_caches.specs.Caches.{core_in, cached_in, lent_out}
use Rattle.frame_caches.specs.Uses.{IsRefusedBehind}
use Rattle.frame_caches.specs.declared.cached_core.CachedCore.{CachedCore}

-- the front of two lists, as long as the first
pub front : {X : Type 0} (n : ℕ) (xs ys : List X) → length xs ≡ n → take n (xs ++ ys) ≡ xs
front n xs ys e = take-append-le n xs ys (omega (e, arith)) ∙ take_all n xs (omega (e, arith))

-- a list without its last
pub but_last : {X : Type 0} (xs ys : List X) (x : X) → xs ≡ ys ++ x ∷ [] → ys ≡ take (length xs - 1) xs
but_last xs ys x e =
    let long : length ys ≡ length (ys ++ x ∷ []) - 1 = omega (length-append ys (x ∷ []), arith) in
    subst (λ zs. ys ≡ take (length zs - 1) zs) (sym e) (sym (front (length (ys ++ x ∷ []) - 1) ys (x ∷ []) long))

-- the older ones came last and went: the newer ones are left
pub newer : {X : Type 0} (n : ℕ) (xs turned left : List X) → n ≤ length xs → turned ≡ drop n xs ++ take n xs
    → left ≡ take (length turned - n) turned → left ≡ drop n xs
newer n xs turned left le e l =
    let all : length turned ≡ length (drop n xs) + length (take n xs) = ap length e ∙ length-append (drop n xs) (take n xs) in
    let gone : length (take n xs) ≡ n = omega (length-take n xs, le, arith) in
    let long : length (drop n xs) ≡ length turned - n = omega (all, gone, arith) in
    l ∙ ap (take (length turned - n)) e ∙ front (length turned - n) (drop n xs) (take n xs) long

-- who was sure of the words and turned them knows what they became
pub sure_after : (a : Allocator) (c d : Core) (R : List ℕ → List ℕ → Type 0) → StaysCoreOf a c d
    → (StepsAlone a c → Turns R (known_by c) (known_by d)) → IsSureOf a c → IsSureOf a d
sure_after a c d R stays turns (alone, (words, known)) =
    let told : Turns R (Some words) (known_by d) = subst (λ o. Turns R o (known_by d)) known (turns alone) in
    (stays.stays_alone alone, (told.0, told.1.0))

-- a last take by the core as it was in m was refused
pub refused_behind : (a : Allocator) (n : ℕ) (r : Result Block TakeFault) (c m d : CachedCore) → IsCoreOf a (core_in m)
    → number_of (core_in m) ≡ number_of (core_in c) → lent_out m ≡ lent_out c → cached_in d ≡ cached_in m
    → (n ≤ huge_order → cached_in m ≡ []) → (huge_order < n → cached_in m ≡ cached_in c)
    → (StepsAlone a (core_in c) → StepsAlone a (core_in m)) → (IsSureOf a (core_in c) → IsSureOf a (core_in m))
    → IfErr r (λ fault. IsRefusedFor a n (core_in m) (core_in d) fault × (lent_by (core_in d) ≡ lent_by (core_in m)))
    → IfErr r (λ fault. IsRefusedBehind a n fault c d)
refused_behind a n r c m d is number lent rest empty same alone sure =
    IfErr-weaker r _ (λ fault. IsRefusedBehind a n fault c d) (λ fault why. record {
      core = core_in m;
      is_core = is;
      same_number = number;
      alone = alone;
      sure = sure;
      why = why.0;
      lent = search rules;
      empty = λ le. rest ∙ empty le;
      same = λ lt. rest ∙ same lt;
    })

-- the same, seen from where nothing but the list's end was looked at
pub refused_from : (a : Allocator) (n : ℕ) (r : Result Block TakeFault) (c m d : CachedCore) → n ≡ 0
    → number_of (core_in m) ≡ number_of (core_in c) → lent_out m ≡ lent_out c → cached_in m ≡ cached_in c
    → core_in m ≡ core_in c → IfErr r (λ fault. IsRefusedBehind a 0 fault m d) → IfErr r (λ fault. IsRefusedBehind a n fault c d)
refused_from a n r c m d zero number lent rest is =
    subst (λ k. IfErr r (λ fault. IsRefusedBehind a 0 fault m d) → IfErr r (λ fault. IsRefusedBehind a k fault c d)) (sym zero)
    (IfErr-weaker r (λ fault. IsRefusedBehind a 0 fault m d) (λ fault. IsRefusedBehind a 0 fault c d) (λ fault why. record {
      core = why.core;
      is_core = why.is_core;
      same_number = why.same_number ∙ number;
      alone = λ s. why.alone (subst (λ k. StepsAlone a k) (sym is) s);
      sure = λ s. why.sure (subst (λ k. IsSureOf a k) (sym is) s);
      why = why.why;
      lent = why.lent ∙ lent;
      empty = why.empty;
      same = λ lt. why.same lt ∙ rest;
    }))

-- there is no such order
pub refused_order : (a : Allocator) (n : ℕ) (r : Result Block TakeFault) (c d : CachedCore) → r ≡ Err BadOrder
    → IsCoreOf a (core_in c) → cached_in d ≡ cached_in c
    → IfErr r (λ fault. IsRefusedFor a n (core_in c) (core_in d) fault × (lent_by (core_in d) ≡ lent_by (core_in c)))
    → IsRefusedBehind a n BadOrder c d
refused_order a n r c d e is rest err =
    let told = IfErr-at_err (λ fault. IsRefusedFor a n (core_in c) (core_in d) fault × (lent_by (core_in d) ≡ lent_by (core_in c))) e err in
    record {
      core = core_in c;
      is_core = is;
      same_number = refl;
      alone = λ s. s;
      sure = λ s. s;
      why = told.0;
      lent = search rules;
      empty = λ le. absurd (omega (told.0.0, le, arith));
      same = λ _. rest;
    }

-- a list of no length
pub none_rests : {X : Type 0} (n : ℕ) (xs : List X) → n ≡ length xs → n ≡ 0 → xs ≡ []
none_rests n [] e zero = refl
none_rests n (x ∷ xs) e zero = absurd (omega (e, zero, arith))
