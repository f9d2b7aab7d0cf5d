-- Whatever happens and however often it is stopped: from an opening on, what is known stays held.
use Rattle.std.proofs.Common.{◌≡◌, ℕ, zero, suc, ◌+◌, ◌-◌, ◌*◌, ◌<◌, ◌≤◌, List, [], ◌∷◌, true, false, refl, ap, ◌∙◌, arith}
use Rattle.std.specs.List.{sum_by, range_with_len}
use Rattle.std.proofs.lemmas.List.Elements.{All-cons}
use Rattle.frame_model.specs.declared.key.Key.{Key}
use Rattle.frame_model.specs.declared.view.View.{View}
use Rattle.frame_model.specs.Key.{frame_count, child_of, IsKey}
use Rattle.frame_model.specs.View.{idle, ground_with, boot_blocks}
use Rattle.frame_model.specs.Holding.{holders}
use Rattle.frame_model.specs.Openings.{IsSealedOpening}
use Rattle.frame_model.specs.Stops.{Moment, Passes, stays, steps, stops, stopped, opening_moment, unsealed, ended_shares, lost_frames}
use Rattle.frame_model.specs.Stops.{KnownIsHeld, Survives, EveryStopIsSurvived, EveryStopLosesLittle, EveryStopIsExact}
use Rattle.frame_model.proofs.Keeps.{total_is}
use Rattle.frame_model.proofs.Opening.{sealed_fits, fixed_sealed, boot_smalls, boot_wholes, range_all}
use Rattle.frame_model.proofs.Safe.{holders_are, boot_are_blocks}
use Rattle.frame_model.proofs.Stopping.Known.{grounded, boot, ground_at, GroundApart, Start, Carries, holders_none, known_apart, known_held}
use Rattle.frame_model.proofs.Stopping.Known.{named_held, few_lost, were_lost}
use Rattle.frame_model.proofs.HeldBack.{in_range_unsealed}
use Rattle.frame_model.proofs.Stopping.Rebuilding.{every_rebuilding_is_exact}
use Rattle.frame_model.proofs.Stopping.Between.{step_carries}
use Rattle.frame_model.proofs.Stopping.Stop.{ground_holds, stop_carries}

pub idle_holds : (key : Key) (n x : ℕ) → grounded x (idle key n) ≡ 0
unfolding grounded
idle_holds key n x = refl

pub ended_first : (shares cores : ℕ) → ended_shares shares cores (0 + 1) ≡ ended_shares shares cores 0 + shares
unfolding ended_shares
ended_first shares cores = grind arith

pub passing_carries : (start : Start) (m n : Moment) → Carries start m → Passes m n → Carries start n
passing_carries start m n c (stays x) = c
passing_carries start m n c (steps x y z event step others) = passing_carries start y z (step_carries start x y event c step) others
passing_carries start m n c (stops x z words r others) = passing_carries start (stopped x words) z (stop_carries x c words r) others

-- the cores stay as many
pub same_cores : (m n : Moment) → Passes m n → n.key.cores ≡ m.key.cores
same_cores m n (stays x) = refl
same_cores m n (steps x y z event step others) = same_cores y z others ∙ ap (λ (key : Key). key.cores) step.key
same_cores m n (stops x z words r others) = same_cores (stopped x words) z others

-- From a sealed opening.

-- nothing was lost before
abbrev pub fresh : ℕ → Start
fresh shares = record { shares = shares; lost = λ _. 0 }

module _ (key : Key) (ws : List ℕ) (shares : ℕ) (k : IsKey key) (some : 0 < shares) (o : IsSealedOpening key ws) where
  -- at the opening the ground holds just the frames that the key names
  ground_then : (x : ℕ) → x < frame_count key → ground_at (opening_moment key ws shares) x ≡ boot key x
  ground_then x h =
      let g : View = ground_with key (boot_blocks key) in
      omega (
        arith,
        total_is key (grounded x) (idle key shares ∷ []),
        ap (grounded x) (fixed_sealed key o.sealed),
        ground_holds x g refl,
        idle_holds key shares x,
        holders_are key x (boot_blocks key) (boot_are_blocks key),
        boot_smalls key x h,
        boot_wholes key (child_of x),
      )

  pub opening_carries : Carries (fresh shares) (opening_moment key ws shares)
  opening_carries = record {
    fits = sealed_fits key ws shares some o;
    is_key = k;
    ended = ended_first shares key.cores;
    apart = All-cons GroundApart (idle key shares) [] (λ e. absurd (false-is-not-true e)) (λ i d h. absurd (omega arith));
    are_blocks = λ i d h. absurd (omega arith);
    remembered = λ x h. omega (arith, ground_then x h, holders_none x);
    abandoned = λ x h. omega (arith, ground_then x h);
    count = omega (
      arith,
      range_all (λ x. ground_at (opening_moment key ws shares) x - (holders x [] + boot key x)) 0 0 (frame_count key)
          (λ x l h. let q : x < frame_count key = omega arith in omega (arith, ground_then x q)),
    );
  }
    where
      false-is-not-true : false ≡ true → ⊥
      false-is-not-true e = cc

  pub opened_carries : (m : Moment) → Passes (opening_moment key ws shares) m → Carries (fresh shares) m
  opened_carries m p = passing_carries (fresh shares) (opening_moment key ws shares) m opening_carries p

none_lost : (key : Key) (shares : ℕ) → sum_by (fresh shares).lost (range_with_len 0 (frame_count key)) ≡ 0
none_lost key shares = omega (arith, range_all (λ _. 0) 0 0 (frame_count key) (λ x l h. refl))

pub is_held : (start : Start) (m : Moment) → Carries start m → KnownIsHeld m
is_held start m c = record { fits = c.fits; known_apart = known_apart m c; known_held = known_held m c; named_held = named_held m c }

survives : (shares : ℕ) (m : Moment) → Carries (fresh shares) m → Survives shares m
survives shares m c = record {
  known = is_held (fresh shares) m c;
  few_lost = omega (arith, few_lost m c, none_lost m.key shares);
  were_in_flight = λ x h e. omega (arith, were_lost m c x h e);
}

pub every_stop_is_survived : EveryStopIsSurvived
every_stop_is_survived key words shares m k some o p = survives shares m (opened_carries key words shares k some o m p)

-- where there are no more shares than cores
few_shares : (shares cores stops : ℕ) → shares ≤ cores → ended_shares shares cores stops ≤ cores * stops
unfolding ended_shares
few_shares shares cores zero h = omega arith
few_shares shares cores (suc later) h = grind arith

few_frames : (cores n : ℕ) → 512 * (cores * n) ≡ 512 * cores * n
few_frames cores n = grind arith

pub every_stop_loses_little : EveryStopLosesLittle
every_stop_loses_little key words shares m k some fewer o p =
    let few : lost_frames m ≤ 512 * ended_shares shares m.key.cores m.stops = (every_stop_is_survived key words shares m k some o p).few_lost in
    omega (
      arith,
      few,
      few_shares shares m.key.cores m.stops (omega (arith, fewer, same_cores (opening_moment key words shares) m p)),
      few_frames m.key.cores m.stops,
    )

pub every_stop_is_exact : EveryStopIsExact
every_stop_is_exact key words shares m new k some o p r =
    let c : Carries (fresh shares) m = opened_carries key words shares k some o m p in
    every_rebuilding_is_exact (unsealed m.key) m.state.words new (in_range_unsealed m.key m.state.words c.fits.words_in_range) r
