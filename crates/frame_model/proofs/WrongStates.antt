-- None of the wrong states is safe, adds up or survives.
use Rattle.std.proofs.Common.{◌≡◌, ◌≢◌, ℕ, zero, suc, ◌+◌, ◌*◌, ◌<◌, ◌≤◌, List, [], ◌∷◌, ◌++◌, length, get_or, true, refl, ap, ◌∙◌, arith}
use Rattle.std.specs.Prelude.{if◌then◌else◌, Bool, false, map}
use Rattle.std.proofs.lemmas.List.Elements.{All-map, All-contains}
use Rattle.frame_model.specs.declared.view.View.{View}
use Rattle.frame_model.specs.Key.{is_boot_frame}
use Rattle.frame_model.specs.Holding.{holders}
use Rattle.frame_model.specs.Laws.{form_of, blocks_with, seats_of}
use Rattle.frame_model.specs.WrongStates.{BlocksOverlap, BlockIsOutside, SeatIsPastTheEnd, EntryPromisesTooMuch, HugeFramePromises}
use Rattle.frame_model.specs.WrongStates.{TreePromisesTooMuch, EntryIsOff, TreeIsOff, ReservationIsOff, RebuiltEntryDiffers}
use Rattle.frame_model.specs.WrongStates.{RebuiltTreeDiffers, SetWithoutABlock, ClearInABlock, BootFrameIsClear, HeldIsClear, FlagIsOff, KnownOverlap, KnownIsFree}
use Rattle.frame_model.specs.WrongStates.{NamedIsFree, LostWithoutAStop, LosesTooMuch, ExactEntryIsOff, ExactTreeIsOff, ReservedStill}
use Rattle.frame_model.specs.WrongStates.{RestingStill, FormIsMissing, MomentDoesNotFit, NamedIsKnown, NamedIsFlying}
use Rattle.frame_model.specs.WrongStates.{KnownIsLost, LostSinceThen, LosesMoreThanThen, CanNotStop, StopsInexactly}
use Rattle.frame_model.specs.Stops.{ended_shares}
use Rattle.frame_model.proofs.Safe.{left_out, stays_in}
use Rattle.frame_model.proofs.Stopping.Known.{holders_both}

pub blocks_overlap : BlocksOverlap
blocks_overlap key words views x two safe = omega (arith, safe.held.disjoint x)

pub block_is_outside : BlockIsOutside
block_is_outside key words views not safe = not safe.held.blocks

first_seat : (x : ℕ) (v : View) (vs : List View)
    → holders x (blocks_with (v ∷ vs)) ≡ holders x (v.own ++ v.kept) + holders x (blocks_with vs)
unfolding blocks_with
first_seat x v vs =
    omega (arith, holders_both x v.own (v.kept ++ blocks_with vs), holders_both x v.kept (blocks_with vs), holders_both x v.own v.kept)

-- what a view has that is not the ground is what the seats have
seat_has : (x : ℕ) (vs : List View) (k : ℕ) (d : View) → k < length vs → (get_or vs k d).is_ground ≡ false
    → holders x ((get_or vs k d).own ++ (get_or vs k d).kept) ≤ holders x (blocks_with (seats_of vs))
seat_has x [] k d h e = absurd (omega arith)
seat_has x (v ∷ vs) zero d h e =
    omega (arith, ap (λ (us : List View). holders x (blocks_with us)) (stays_in v vs e), first_seat x v (seats_of vs))
seat_has x (v ∷ vs) (suc k) d h e = by v.is_ground refl (seat_has x vs k d (omega arith) e)
  where
    by : (b : Bool) → v.is_ground ≡ b
        → holders x ((get_or vs k d).own ++ (get_or vs k d).kept) ≤ holders x (blocks_with (seats_of vs))
        → holders x ((get_or vs k d).own ++ (get_or vs k d).kept) ≤ holders x (blocks_with (seats_of (v ∷ vs)))
    by true ground less = omega (arith, less, ap (λ (us : List View). holders x (blocks_with us)) (left_out v vs ground))
    by false seat less =
        omega (arith, less, ap (λ (us : List View). holders x (blocks_with us)) (stays_in v vs seat), first_seat x v (seats_of vs))

pub seat_is_past_the_end : SeatIsPastTheEnd
seat_is_past_the_end key words views v x has seat past some safe =
    omega (
      arith,
      safe.inside x past,
      some,
      seat_has x views has.0 v has.1 (ap (λ (u : View). u.is_ground) has.2 ∙ seat),
      ap (λ (u : View). holders x (u.own ++ u.kept)) has.2,
    )

pub entry_promises_too_much : EntryPromisesTooMuch
entry_promises_too_much key words views c h more safe = omega (arith, safe.entries c h)

pub huge_frame_promises : HugeFramePromises
huge_frame_promises key words views c h flag some safe = omega (arith, safe.huge c h flag)

pub tree_promises_too_much : TreePromisesTooMuch
tree_promises_too_much key words views t h more safe = omega (arith, safe.trees t h)

pub entry_is_off : EntryIsOff
entry_is_off key words c h off adds = off (adds.entries c h)

pub tree_is_off : TreeIsOff
tree_is_off key words t h off adds = off (adds.trees t h)

pub reservation_is_off : ReservationIsOff
reservation_is_off key words t h off adds = off (adds.reserved t h)

pub rebuilt_entry_differs : RebuiltEntryDiffers
rebuilt_entry_differs key words again c r h off adds = off (adds.same_entries again r c h)

pub rebuilt_tree_differs : RebuiltTreeDiffers
rebuilt_tree_differs key words again t r h off adds = off (adds.same_trees again r t h)

not_named : (b : Bool) → b ≢ true → ◌≡◌ {A = ℕ} (if b then 1 else 0) 0
not_named true ne = absurd (ne refl)
not_named false ne = refl

pub set_without_a_block : SetWithoutABlock
set_without_a_block key words blocks x h set none unnamed holds =
    omega (arith, holds.bits x h, not_named (is_boot_frame key x) unnamed)

clear_in_a_block : ClearInABlock
clear_in_a_block key words blocks x h clear some holds = omega (arith, holds.bits x h)

named_one : (b : Bool) → b ≡ true → ◌≡◌ {A = ℕ} (if b then 1 else 0) 1
named_one b e = rw e refl

boot_frame_is_clear : BootFrameIsClear
boot_frame_is_clear key words blocks x h named clear holds =
    omega (arith, holds.bits x h, clear, named_one (is_boot_frame key x) named)

pub held_is_clear : HeldIsClear
held_is_clear = (clear_in_a_block, boot_frame_is_clear)

pub flag_is_off : FlagIsOff
flag_is_off key words blocks c h off holds = off (holds.huge c h)

pub known_overlap : KnownOverlap
known_overlap shares m x two lives = omega (arith, lives.known.known_apart.disjoint x)

pub known_is_free : KnownIsFree
known_is_free shares m x some free lives = omega (arith, lives.known.known_held x)

pub named_is_free : NamedIsFree
named_is_free shares m x h named free lives = let held = lives.known.named_held x h named in omega (arith, held.0)

pub named_is_known : NamedIsKnown
named_is_known shares m x h named known lives = let held = lives.known.named_held x h named in omega (arith, held.1, known)

pub named_is_flying : NamedIsFlying
named_is_flying shares m x h named flies lives = let held = lives.known.named_held x h named in omega (arith, held.2, flies)

pub moment_does_not_fit : MomentDoesNotFit
moment_does_not_fit shares m not lives = not lives.known.fits

pub lost_without_a_stop : LostWithoutAStop
lost_without_a_stop shares m x h lost none lives = omega (arith, lives.were_in_flight x h lost)

two_stops : (shares cores stops : ℕ) → cores ≡ 1 → stops ≡ 2 → ended_shares shares cores stops ≡ shares + 1
unfolding ended_shares
two_stops shares cores stops one twice = rw (one, twice) refl

one_stop : (shares cores stops : ℕ) → stops ≡ 1 → ended_shares shares cores stops ≡ shares + cores * 0
unfolding ended_shares
one_stop shares cores stops once = rw once refl

none_later : (cores : ℕ) → cores * 0 ≡ 0
none_later cores = omega arith

pub loses_too_much : LosesTooMuch
loses_too_much = (
  λ m one once more lives.
      let most = lives.few_lost in omega (arith, most, one_stop 1 m.key.cores m.stops once, none_later m.key.cores),
  λ m one twice more lives. let most = lives.few_lost in omega (arith, most, two_stops 9 m.key.cores m.stops one twice),
)

pub known_is_lost : KnownIsLost
known_is_lost first m not lives = not lives.known

pub lost_since_then : LostSinceThen
lost_since_then first m x h lost was none lives = omega (arith, lives.were_in_flight x h lost was)

pub loses_more_than_then : LosesMoreThanThen
loses_more_than_then first m share one once more lives =
    let most = lives.few_lost in omega (arith, most, one_stop first.shares m.key.cores m.stops once, none_later m.key.cores)

pub can_not_stop : CanNotStop
can_not_stop first m none lives = none lives.can_stop.0 lives.can_stop.1

pub stops_inexactly : StopsInexactly
stops_inexactly first m new r off lives = off (lives.exact new r)

pub exact_entry_is_off : ExactEntryIsOff
exact_entry_is_off key words c h off exact = off (exact.entries c h)

pub exact_tree_is_off : ExactTreeIsOff
exact_tree_is_off key words t h off exact = off (exact.trees t h)

pub reserved_still : ReservedStill
reserved_still key words t h some exact = omega (arith, exact.unreserved t h)

pub resting_still : RestingStill
resting_still key words t some exact = omega (arith, exact.resting t)

pub form_is_missing : FormIsMissing
form_is_missing events form all every =
    All-contains (λ f. f ≢ form) (map form_of events) form (All-map (λ f. f ≢ form) form_of events all) (every form) refl
