-- From words that were in use before: what is remembered of them stays held, whatever happens since.
use Rattle.std.proofs.Common.{◌≡◌, ⊎_elim, ℕ, zero, suc, ◌+◌, ◌-◌, ◌*◌, ◌<◌, ◌≤◌, List, [], ◌∷◌, ◌++◌, Bool, true, false, cond, refl, ap, ◌∙◌, arith}
use Rattle.std.specs.Prelude.{if◌then◌else◌, not, ◌&&◌, nat_eq, nat_lt}
use Rattle.std.specs.List.{sum_by, All, range_with_len}
use Rattle.std.proofs.lemmas.Bool.{cases_lt}
use Rattle.std.proofs.lemmas.List.Elements.{All-cons}
use Rattle.frame_model.specs.declared.block.FrameBlock.{FrameBlock}
use Rattle.frame_model.specs.declared.key.Key.{Key}
use Rattle.frame_model.specs.declared.view.View.{View}
use Rattle.frame_model.specs.Key.{frame_count, is_boot_frame, IsKey}
use Rattle.frame_model.specs.View.{spent}
use Rattle.frame_model.specs.Holding.{holders}
use Rattle.frame_model.specs.Steps.{next}
use Rattle.frame_model.specs.Seats.{part_ground, left_by, right_by}
use Rattle.frame_model.specs.Events.{eye, cuts, Fits}
use Rattle.frame_model.specs.Openings.{held_blocks, IsReopening, reopener}
use Rattle.frame_model.specs.Laws.{holding_of}
use Rattle.frame_model.specs.Stops.{Moment, Passes, stays, steps, stops, stopped, unsealed, known_of, flying_of, known_at, flying_at}
use Rattle.frame_model.specs.Stops.{is_lost, parted, AreHeldIn, reopened_moment, EveryGroundPartsOff, EveryReopeningIsSurvived}
use Rattle.frame_model.proofs.Keeps.{total_is}
use Rattle.frame_model.proofs.Opening.{every_run_from_reopening, fixed_unsealed, held_smalls, held_are_blocks}
use Rattle.frame_model.proofs.Safe.{holders_are, once}
use Rattle.frame_model.proofs.ReportLemmas.{range_le}
use Rattle.frame_model.proofs.HeldBack.{in_range_unsealed}
use Rattle.frame_model.proofs.Stopping.Between.{not_boot, none_grounded}
use Rattle.frame_model.proofs.Stopping.Existing.{rebuilding}
use Rattle.frame_model.proofs.Stopping.Known.{grounded, boot, ground_at, GroundApart, Start, Carries, holders_none, holders_both, held_is_split}
use Rattle.frame_model.proofs.Stopping.Known.{few_lost, were_lost}
use Rattle.frame_model.proofs.Stopping.Rebuilding.{every_rebuilding_is_exact}
use Rattle.frame_model.proofs.Stopping.Stop.{ground_holds}
use Rattle.frame_model.proofs.Stopping.Survival.{ended_first, is_held, passing_carries}

pub every_ground_parts_off : EveryGroundPartsOff
every_ground_parts_off key ws shares some =
    (eye (reopener key ws shares) [], refl, record { share = some; is_ground = refl }, refl)

-- the children stay as many
same_children : (m n : Moment) → Passes m n → n.key.children ≡ m.key.children
same_children m n (stays x) = refl
same_children m n (steps x y z event step others) = same_children y z others ∙ ap (λ (key : Key). key.children) step.key
same_children m n (stops x z words r others) = same_children (stopped x words) z others

nothing_either_way : (b : Bool) → ◌≡◌ {A = List FrameBlock} (if b then [] else []) []
nothing_either_way true = refl
nothing_either_way false = refl

at_most_named : (b : Bool) → (if b then 1 else 0) ≤ 1
at_most_named true = omega arith
at_most_named false = omega arith

-- a held frame that is not in flight is known, named or lost
known_or_lost : (held known flying : ℕ) (named : Bool) → held ≤ 1 → flying ≡ 0
    → held ≤ known + (if named then 1 else 0)
    + cond {A = ℕ} (nat_lt 0 held && nat_eq known 0 && nat_eq flying 0 && not named) 1 0
known_or_lost zero known flying named h e = omega arith
known_or_lost (suc held) (suc known) flying named h e = omega arith
known_or_lost (suc held) zero (suc flying) named h e = absurd (omega arith)
known_or_lost (suc held) zero zero true h e = omega arith
known_or_lost (suc zero) zero zero false h e = omega arith
known_or_lost (suc (suc held)) zero zero false h e = absurd (omega arith)

not_lost : (b : Bool) → b ≡ false → cond {A = ℕ} b 1 0 ≡ 0
not_lost b e = rw e refl

module _ (key : Key) (ws : List ℕ) (shares : ℕ) (rem : List FrameBlock) (k : IsKey key) (some : 0 < shares)
    (o : IsReopening key ws) (of : AreHeldIn key ws rem) where
  abbrev first : Moment
  first = reopened_moment key ws shares rem

  abbrev opener : View
  opener = left_by next part_ground (reopener key ws shares)

  abbrev ground : View
  ground = right_by part_ground (reopener key ws shares)

  abbrev views : List View
  views = opener ∷ ground ∷ []

  first_fits : Fits key shares (parted key ws shares)
  first_fits = every_run_from_reopening key ws shares (cuts 0 part_ground ∷ []) (parted key ws shares) some o
      (parted key ws shares, every_ground_parts_off key ws shares some, refl)

  first_apart : All GroundApart views
  first_apart = All-cons GroundApart opener (ground ∷ []) (λ e. absurd (false-is-not-true e))
      (All-cons GroundApart ground [] (λ e. refl) (λ i d h. absurd (omega arith)))
    where
      false-is-not-true : false ≡ true → ⊥
      false-is-not-true e = cc

  -- the ground has all that the words hold
  ground_then : (x : ℕ) → ground_at first x ≡ holders x (held_blocks key ws)
  ground_then x = omega (
    arith,
    total_is key (grounded x) views,
    ap (grounded x) (fixed_unsealed key o.unsealed),
    none_grounded x spent refl,
    none_grounded x opener refl,
    ground_holds x ground refl,
  )

  none_known : known_of views ≡ []
  unfolding known_of
  none_known = ap (λ (l : List FrameBlock). l ++ []) (nothing_either_way (nat_eq shares 0 && true))

  none_flies : flying_of views ≡ []
  unfolding flying_of
  none_flies = ap (λ (l : List FrameBlock). l ++ []) (nothing_either_way (nat_eq shares 0))

  known_is : (x : ℕ) → holders x (known_at first) ≡ holders x rem
  known_is x = omega (arith, holders_both x (known_of views) rem, ap (holders x) none_known, holders_none x)

  flying_is : (x : ℕ) → holders x (flying_at first) ≡ 0
  flying_is x = omega (arith, ap (holders x) none_flies, holders_none x)

  held_is : (x : ℕ) → holders x (holding_of key views) ≡ ground_at first x
  held_is x = omega (
    arith,
    held_is_split key x views first_apart,
    ap (holders x) none_known,
    ap (holders x) none_flies,
    holders_none x,
  )

  known_then : (x : ℕ) → x < frame_count key → holders x rem + boot key x ≤ ground_at first x
  known_then x h =
      ⊎_elim
      (λ below. omega (arith, ground_then x, of.held x, not_boot key x (k.unsealed o.unsealed) below))
      (λ past. omega (
        arith,
        ground_then x,
        of.inside x past,
        at_most_named (is_boot_frame key x),
        o.past_end x past h,
        held_smalls key ws x h,
        holders_are key x (held_blocks key ws) (held_are_blocks key ws),
      ))
      (cases_lt x key.frames)

  lost_first : (x : ℕ) → x < frame_count key
      → ground_at first x ≤ holders x rem + boot key x + cond {A = ℕ} (is_lost first x) 1 0
  unfolding is_lost
  lost_first x h = omega (
    arith,
    held_is x,
    known_is x,
    known_or_lost (holders x (holding_of key views)) (holders x (known_at first)) (holders x (flying_at first)) (is_boot_frame key x)
        (once key shares ws views first_fits x h) (flying_is x),
  )

  abbrev start : Start
  start = record { shares = shares; lost = λ x. cond {A = ℕ} (is_lost first x) 1 0 }

  first_carries : Carries start first
  first_carries = record {
    fits = first_fits;
    is_key = k;
    ended = ended_first shares key.cores;
    apart = first_apart;
    are_blocks = of.are_blocks;
    remembered = known_then;
    abandoned = λ x h. omega (arith, lost_first x h);
    count = omega (
      arith,
      range_le (λ x. ground_at first x - (holders x rem + boot key x)) (λ x. cond {A = ℕ} (is_lost first x) 1 0) 0
          (frame_count key) (λ x l h. omega (arith, lost_first x (omega arith))),
    );
  }

pub every_reopening_is_survived : EveryReopeningIsSurvived
every_reopening_is_survived key ws shares rem m k some o of p =
    let begun : Start = start key ws shares rem k some o of in
    let c : Carries begun m = passing_carries begun (reopened_moment key ws shares rem) m (first_carries key ws shares rem k some o of) p in
    let range = in_range_unsealed m.key m.state.words c.fits.words_in_range in
    record {
      known = is_held begun m c;
      few_lost = omega (
        arith,
        few_lost m c,
        ap (λ n. sum_by begun.lost (range_with_len 0 (512 * n))) (same_children (reopened_moment key ws shares rem) m p),
      );
      were_in_flight = λ x h e f. omega (arith, were_lost m c x h e, not_lost (is_lost (reopened_moment key ws shares rem) x) f);
      can_stop = rebuilding (unsealed m.key) m.state.words range;
      exact = λ new r. every_rebuilding_is_exact (unsealed m.key) m.state.words new range r;
    }
