-- A seat that was cut, the one that was cut off it, and one that took in another are seats of the table.
use Rattle.std.proofs.Common.{◌≡◌, ℕ, List, [], ◌∷◌, ◌++◌, Option, Some, None, Bool, true, false, set, refl, sym, ◌∙◌, subst}
use Rattle.std.specs.Prelude.{if◌then◌else◌}
use Rattle.std.proofs.Math.Logic.{∥∥₁_map}
use Rattle.atomic_table.specs.Table.{Me}
use Rattle.atomic_table.specs.Seated.{TableId}
use Rattle.frame_model.specs.declared.key.Key.{Key}
use Rattle.frame_table.specs.declared.rule.Watch.{Watch}
use Rattle.frame_model.specs.View.{IsViewOf}
use Rattle.frame_model.specs.Steps.{next}
use Rattle.frame_model.specs.Seats.{Cut, part_share, hand_out, recall, part_ground, adopt, left_by, right_by, MayCut, Join, joined_by, MayJoin}
use Rattle.frame_model.proofs.Steps.Every.{seat_cut_keeps}
use Rattle.atomic_table.proofs.Lists.{at_longer}
use Rattle.frame_table.proofs.Lifting.{at_once}
use Rattle.frame_model.proofs.Steps.SeatViews.{left_is, right_is, both_is}
use Rattle.frame_table.specs.Rule.{known_in, left_eye, right_eye, both_eyes, FitsAmong}
use Rattle.frame_table.specs.Seats.{HasBlocksOf, IsSeat}
use Rattle.frame_table.proofs.Effects.{left_about, right_about, both_about}
use Rattle.frame_table.proofs.Dealing.{fresh_seat, knows_none}

-- the words that a seat knows fit with its view after a cut
cut_fits : (key : Key) (e : Watch) (cut : Cut) → MayCut key cut e.view → (words : List ℕ)
    → FitsAmong key words e.view → FitsAmong key words (left_by next cut e.view)
cut_fits key e cut may words (vs, (at, (fit, there))) = (
  set vs at (left_by next cut e.view) ++ right_by cut e.view ∷ [],
  (
    at,
    (
      seat_cut_keeps next key key.cores words vs at e.view fit there cut may,
      at_longer (set vs at (left_by next cut e.view)) (right_by cut e.view ∷ []) at (left_by next cut e.view)
          (at_once vs at e.view (left_by next cut e.view) there),
    ),
  ),
)

still_fits : (key : Key) (e : Watch) (cut : Cut) → MayCut key cut e.view
    → ((words : List ℕ) → known_in e ≡ Some words → ∥ FitsAmong key words e.view ∥₁)
    → (words : List ℕ) → known_in e ≡ Some words → ∥ FitsAmong key words (left_by next cut e.view) ∥₁
still_fits key e cut may fits words knows =
    ∥∥₁_map (fits words knows) (λ (f : FitsAmong key words e.view). cut_fits key e cut may words f)

none_known : (b : Bool) (words : List ℕ) → ¬ ((if b then None else None) ≡ Some words)
none_known true words e = absurd (cc)
none_known false words e = absurd (cc)

left_known_fits : (key : Key) (e : Watch) (cut : Cut) → MayCut key cut e.view
    → ((words : List ℕ) → known_in e ≡ Some words → ∥ FitsAmong key words e.view ∥₁)
    → (words : List ℕ) → known_in (left_eye cut e) ≡ Some words → ∥ FitsAmong key words (left_by next cut e.view) ∥₁
left_known_fits key e (part_share n) may fits words knows = absurd (none_known e.settled words knows)
left_known_fits key e (hand_out b rest) may fits words knows = still_fits key e (hand_out b rest) may fits words knows
left_known_fits key e (recall b rest) may fits words knows = still_fits key e (recall b rest) may fits words knows
left_known_fits key e part_ground may fits words knows = still_fits key e part_ground may fits words knows
left_known_fits key e (adopt b rest) may fits words knows = still_fits key e (adopt b rest) may fits words knows

module _ (id : TableId) (key : Key) (seat after : TableId) (me new : Me (Unit {0}) Watch)
    (is : IsSeat id key seat me) (same : after ≡ seat) where
  pub left_seat : (cut : Cut) → MayCut key cut me.0.view → new ≡ (left_eye cut me.0, me.1) → IsSeat id key after new
  left_seat cut may e = subst (IsSeat id key after) (sym e) (record {
    table = same ∙ is.table;
    bare = is.bare;
    about = left_about next cut me.0.view ∙ is.about;
    is_view = ∥∥₁_map is.is_view (λ (i : IsViewOf key me.0.view). left_is next key me.0.view i cut may);
    laid = is.laid;
    fits = left_known_fits key me.0 cut may is.fits;
  })

  pub right_seat : (cut : Cut) → MayCut key cut me.0.view → new ≡ (right_eye cut me.0, []) → IsSeat id key after new
  right_seat cut may e =
      fresh_seat id key after new (right_by cut me.0.view) None (same ∙ is.table) e (right_about cut me.0.view ∙ is.about)
      (∥∥₁_map is.is_view (λ (i : IsViewOf key me.0.view). right_is next key me.0.view i cut may))
      (knows_none key (right_by cut me.0.view) None refl)

  pub both_seat : (other : Watch) (join : Join) → HasBlocksOf key other.view → MayJoin join me.0.view other.view
      → new ≡ (both_eyes join me.0 other, me.1) → IsSeat id key after new
  both_seat other join blocks may e = subst (IsSeat id key after) (sym e) (record {
    table = same ∙ is.table;
    bare = is.bare;
    about = both_about next join me.0.view other.view ∙ is.about;
    is_view = ∥∥₁_map is.is_view (λ (i : IsViewOf key me.0.view).
        both_is next key me.0.view i other.view blocks.0 blocks.1 join may);
    laid = is.laid;
    fits = knows_none key (joined_by next join me.0.view other.view) None refl;
  })
