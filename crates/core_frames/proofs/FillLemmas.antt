-- What single frames of the own reservation leave of the view.
use Rattle.std.proofs.Common.{◌≡◌, ⊎_elim, ℕ, ◌-◌, ◌*◌, ◌<◌, ◌≤◌, List, [], Option, None, Some, refl, ap, sym, subst, ◌∙◌, arith}
use Rattle.std.specs.Prelude.{pos, ◌+ℤ◌, IfSome, Bool, slice_index}
use Rattle.std.proofs.lemmas.Int.{ints}
use Rattle.std.proofs.lemmas.Bool.{cases_lt}
use Rattle.std.proofs.lemmas.List.{append-nil}
use Rattle.frame_words.specs.Words.{rest_in}
use Rattle.frame_model.specs.declared.block.FrameBlock.{FrameBlock}
use Rattle.frame_model.specs.declared.key.Key.{Key}
use Rattle.frame_model.specs.Words.{local_place, rest_of}
use Rattle.frame_model.specs.Steps.{local_pay, words_after}
use Rattle.frame_model.proofs.Blocks.{smalls_none}
use Rattle.frame_model.proofs.Steps.Shared.{rest_of_is}
use Rattle.frame_core.specs.Moves.{Exchanges}
use Rattle.low_frames.specs.Alone.{Turns, FindsOf}
use Rattle.low_frames.specs.Takes.{IsAsBefore}
use Rattle.low_frames.specs.SinglesAlone.{AreHeld, HoldsMoreOf, TakesOfTree}
use Rattle.low_frames.proofs.AloneLemmas.{if_known, IsSeen, made_first}
use Rattle.low_frames.proofs.SinglesAlone.{holds_both, still_held}
use Rattle.core_frames.specs.Alone.{SameFrames}
use Rattle.core_frames.proofs.KeptFrames.{if_some, kept_after, upper_local}
use Rattle.std.proofs.lemmas.Bool.Decides.{nat_tests}
use Rattle.frame_model.specs.declared.view.Amount.{Amount}
use Rattle.frame_model.specs.declared.view.View.{View}
use Rattle.frame_model.specs.View.{counted, IsIdle}
use Rattle.frame_model.specs.Steps.Amounts.{less}
use Rattle.low_frames.specs.Singles.{lowered, HasLentSome}
use Rattle.core_frames.specs.Search.{HasPaid, HasRefunded}
use Rattle.core_frames.specs.Fills.{HasLentMany, PaysOf, HasNoneToPay, FillsFrom}

pub lowered_counted : (t n k : ℕ) → lowered t k (counted t n) ≡ counted t (n - k)
unfolding lowered less counted
lowered_counted t n k = grind (arith, nat_tests)

counted_none : (t : ℕ) → counted t 0 ≡ None
unfolding counted
counted_none t = refl

-- what is left of n paid frames
pub left_paid : (t n k : ℕ) (v u w : View) → HasPaid t n v u → HasLentSome t k u w → w.paid ≡ counted t (n - k)
left_paid t n k v u w e f = ap (λ (y : View). y.paid) f ∙ ap (λ (y : View). lowered t k y.paid) e ∙ lowered_counted t n k

-- the rest was refunded
pub lent_refunded : (t n k : ℕ) (v u w x : View) → IsIdle v → HasPaid t n v u → HasLentSome t k u w → HasRefunded w x → HasLentMany k v x
lent_refunded t n k v u w x idle e f h =
    let F : View → Option Amount → View = (λ y a. record y { paid = a; lent = y.lent +ℤ pos k; moves = x.moves; lost = x.lost }) in
    h
    ∙ ap (λ (y : View). record y { paid = None; moves = x.moves; lost = x.lost }) f
    ∙ ap (λ (y : View). F y None) e
    ∙ ap (λ a. F v a) (sym idle.paid)

-- all that was paid was taken
pub lent_whole : (t n : ℕ) (v u w : View) → IsIdle v → HasPaid t n v u → HasLentSome t n u w → HasLentMany n v w
lent_whole t n v u w idle e f =
    let F : View → Option Amount → View = (λ y a. record y { paid = a; lent = y.lent +ℤ pos n; moves = w.moves; lost = w.lost }) in
    let none : n - n ≡ 0 = omega arith in
    f
    ∙ ap (λ (y : View). F y (lowered t n y.paid)) e
    ∙ ap (λ a. F v a) (lowered_counted t n n ∙ ap (counted t) none ∙ counted_none t ∙ sym idle.paid)

-- nothing was taken
pub lent_nothing : (v w : View) → IsAsBefore v w → HasLentMany 0 v w
lent_nothing v w e =
    let z : v.lent ≡ v.lent +ℤ pos 0 = omega (arith, ints) in
    e ∙ ap (λ l. record v { lent = l; moves = w.moves; lost = w.lost }) z

-- What is found and left of the words where nobody else steps.

pub same_holds : (key : Key) (ws us : List ℕ) → SameFrames key ws us → HoldsMoreOf key [] ws us
same_holds key ws us same = record {
  were_free = λ x h some. absurd (omega (arith, some, smalls_none x));
  bits = λ x h. omega (arith, same.bits x h, smalls_none x);
  flags = same.flags;
}

-- what rests with a core, by its word that was seen
rest_seen : (key : Key) (ws : List ℕ) (core seen : ℕ) (rest : Option (ℕ × ℕ)) → slice_index ws (local_place key core) ≡ seen
    → rest_in seen ≡ rest → rest_of key ws core ≡ rest
rest_seen key ws core seen rest e is = rest_of_is key ws core ∙ ap rest_in e ∙ is

-- nothing can be paid
pub nothing_to_pay : (key was : Key) (core seen n : ℕ) (rest : Option (ℕ × ℕ)) (old now : Option (List ℕ)) → key ≡ was
    → rest_in seen ≡ rest → IfSome rest (λ r. 0 < n → r.1 ≡ 0) → IsSeen (local_place key core) seen old now
    → FindsOf (HasNoneToPay was core n) old now
nothing_to_pay key was core seen n rest old now k is none load =
    if_known old (λ ws. (slice_index ws (local_place key core) ≡ seen) × (now ≡ Some ws))
    (λ ws. (now ≡ Some ws) × HasNoneToPay was core n ws) load
    (λ ws e h. (
      h.1,
      subst (λ (o : Option (ℕ × ℕ)). IfSome o (λ r. 0 < n → r.1 ≡ 0))
          (sym (rest_seen was ws core seen rest (ap (λ (i : Key). slice_index ws (local_place i core)) (sym k) ∙ h.0) is)) none,
    ))

-- the first try is made
pub paid_first : (key mid was : Key) (core seen n tree resting paid : ℕ) (made : Bool) (old now new : Option (List ℕ)) → key ≡ mid
    → mid ≡ was → core < was.cores → rest_in seen ≡ Some (tree, resting) → (paid < n → resting ≤ paid)
    → IsSeen (local_place mid core) seen old now → Exchanges key (local_pay core seen paid) seen made now new
    → Turns (PaysOf was core n tree paid) old new
paid_first key mid was core seen n tree resting paid made old now new k j inside is all load made_if =
    if_known old (λ ws. (slice_index ws (local_place key core) ≡ seen) × (new ≡ Some (words_after key (local_pay core seen paid) ws)))
    (λ ws. (us : List ℕ) × ((new ≡ Some us) × PaysOf was core n tree paid ws us))
    (made_first key (local_pay core seen paid) seen made old now new (subst (λ i. IsSeen (local_place i core) seen old now) (sym k) load)
    made_if)
    (λ ws e h. (
      words_after key (local_pay core seen paid) ws,
      (
        h.1,
        record {
          frames = subst (λ i. SameFrames was ws (words_after i (local_pay core seen paid) ws)) (sym (k ∙ j))
              (kept_after was (local_pay core seen paid) ws (upper_local was core inside));
          rested = resting;
          rest = rest_seen was ws core seen (Some (tree, resting))
              (ap (λ (i : Key). slice_index ws (local_place i core)) (sym (k ∙ j)) ∙ h.0) is;
          all = all;
        },
      ),
    ))

-- what was paid and taken
pub fills_from : (key : Key) (core n tree paid k : ℕ) (bs : List FrameBlock) (ws us vs : List ℕ) → PaysOf key core n tree paid ws us
    → TakesOfTree key tree k paid bs us vs → FillsFrom key core k n bs ws vs
fills_from key core n tree paid k bs ws us vs p q = record {
  holds = holds_both key [] bs ws us vs (same_holds key ws us p.frames) q.holds;
  none_left =
      subst (λ (o : Option (ℕ × ℕ)). IfSome o (λ rest. k < n → k < rest.1 → AreHeld key (4096 * rest.0) 4096 vs)) (sym p.rest)
      (λ few more.
      q.none_left (⊎_elim (λ (less : paid < n). omega (arith, p.all less, more)) (λ enough. omega (arith, few, enough))
      (cases_lt paid n)));
}

-- and what is left was refunded
pub fills_still : (key : Key) (core n k : ℕ) (bs : List FrameBlock) (ws us vs : List ℕ) → FillsFrom key core k n bs ws us
    → SameFrames key us vs → FillsFrom key core k n bs ws vs
fills_still key core n k bs ws us vs p same =
    let held = same_holds key us vs same in
    record {
      holds = subst (λ l. HoldsMoreOf key l ws vs) (append-nil bs) (holds_both key bs [] ws us vs p.holds held);
      none_left =
          if_some (rest_of key ws core) (λ rest. k < n → k < rest.1 → AreHeld key (4096 * rest.0) 4096 us)
          (λ rest. k < n → k < rest.1 → AreHeld key (4096 * rest.0) 4096 vs) p.none_left
          (λ rest f few more. still_held key [] us vs (4096 * rest.0) 4096 held (f few more));
    }
