-- What steps of the caller's own leave of its view, and how many they are.
use Rattle.std.proofs.Common.{◌≡◌, ◌≢◌, ◌⊎◌, ⊎_elim, ℕ, zero, suc, ◌+◌, ◌-◌, ◌<◌, List, length, Some, false, refl, ap, sym, subst, ◌∙◌, arith}
use Rattle.std.specs.Prelude.{slice_get}
use Rattle.std.proofs.lemmas.Bool.{cases_eq}
use Rattle.std.proofs.lemmas.Option.{slice_get_within}
use Rattle.frame_model.specs.declared.block.FrameBlock.{FrameBlock}
use Rattle.frame_model.specs.declared.place.Place.TheVariants.{Tree}
use Rattle.frame_model.specs.declared.view.View.{View}
use Rattle.frame_model.specs.Seats.{hand_in, left_by, joined_by}
use Rattle.frame_model.specs.Steps.{Kind, effect, after_load, after_loss}
use Rattle.frame_model.specs.Steps.Kind.{charge, refund, claim, claim_singles, release, take_huge, give_huge, tree_pay, tree_refund, reserve, swap_local, unreserve, local_pay, local_refund, collect, fill_word, drop_flag}
use Rattle.frame_model.specs.View.{holder}
use Rattle.frame_core.specs.Moves.{hand_out_block}
use Rattle.plain_moves.specs.declared.act.Act.TheVariants.{TreePay}
use Rattle.script_moves.specs.declared.script.cue.Cue.{Cue}
use Rattle.script_moves.specs.declared.script.cue.What.{What}
use Rattle.script_moves.specs.declared.script.cue.What.TheVariants.{Lose, Stranger, Stop}
use Rattle.script_moves.specs.declared.script.stage.Stage.{Stage}
use Rattle.plain_moves.specs.Plain.{plain_tick}
use Rattle.plain_moves.specs.PlainState.{key_by, view_by, IsStill}
use Rattle.script_moves.specs.Plays.{PlaysOn, LoadsIt}
use Rattle.script_moves.specs.Script.{StepsOnce, StepsTo, StopsAt}
use Rattle.script_moves.specs.ScriptState.{IsUntold}
use Rattle.script_moves.specs.Worked.{worked_script, StandsFirst}
use Rattle.script_moves.proofs.Cues.{all_stay, one_cue}
use Rattle.script_moves.proofs.Scripts.{load_steps}

-- it counts one move, and leaves the memory and the shares as they are
pub record IsOneMove (v w : View) : Type 0 where
  pub moves : w.moves ≡ plain_tick v.moves
  pub about : w.about ≡ v.about
  pub share : w.share ≡ v.share

one_move : (kind : Kind) (found : ℕ) (v : View) → IsOneMove v (effect plain_tick kind found v)
one_move (charge child seen n) found v = record { moves = refl; about = refl; share = refl }
one_move (refund child n) found v = record { moves = refl; about = refl; share = refl }
one_move (claim word seen from order) found v = record { moves = refl; about = refl; share = refl }
one_move (claim_singles word seen mask) found v = record { moves = refl; about = refl; share = refl }
one_move (release word from order rest) found v = record { moves = refl; about = refl; share = refl }
one_move (take_huge child seen) found v = record { moves = refl; about = refl; share = refl }
one_move (give_huge child rest) found v = record { moves = refl; about = refl; share = refl }
one_move (tree_pay tree seen n) found v = record { moves = refl; about = refl; share = refl }
one_move (tree_refund tree n) found v = record { moves = refl; about = refl; share = refl }
one_move (reserve tree seen) found v = record { moves = refl; about = refl; share = refl }
one_move (swap_local core put) found v = record { moves = refl; about = refl; share = refl }
one_move (unreserve tree n) found v = record { moves = refl; about = refl; share = refl }
one_move (local_pay core seen n) found v = record { moves = refl; about = refl; share = refl }
one_move (local_refund core seen n) found v = record { moves = refl; about = refl; share = refl }
one_move (collect tree seen) found v = record { moves = refl; about = refl; share = refl }
one_move (fill_word word) found v = record { moves = refl; about = refl; share = refl }
one_move (drop_flag child rest) found v = record { moves = refl; about = refl; share = refl }

moved_on : (v u w : View) → w ≡ u → IsOneMove v u → IsOneMove v w
moved_on v u w e is = record {
  moves = ap (λ (x : View). x.moves) e ∙ is.moves;
  about = ap (λ (x : View). x.about) e ∙ is.about;
  share = ap (λ (x : View). x.share) e ∙ is.share;
}

once_moved : (v w : View) → StepsOnce v w → IsOneMove v w
once_moved v w step = ⊎_elim
    (λ (is : (kind : Kind) × ((found : ℕ) × (w ≡ effect plain_tick kind found v))).
    moved_on v (effect plain_tick is.0 is.1.0 v) w is.1.1 (one_move is.0 is.1.0 v))
    (λ rest. ⊎_elim
    (λ (is : w ≡ after_load plain_tick v). moved_on v (after_load plain_tick v) w is (record { moves = refl; about = refl; share = refl }))
    (λ last. ⊎_elim
    (λ (is : w ≡ after_loss plain_tick v). moved_on v (after_loss plain_tick v) w is (record { moves = refl; about = refl; share = refl }))
    (λ (of : (b : FrameBlock) × ((w ≡ left_by plain_tick (hand_out_block b) v)
    ⊎ (w ≡ joined_by plain_tick hand_in v (holder v.about b)))). ⊎_elim
    (λ (is : w ≡ left_by plain_tick (hand_out_block of.0) v).
    moved_on v (left_by plain_tick (hand_out_block of.0) v) w is (record { moves = refl; about = refl; share = refl }))
    (λ (is : w ≡ joined_by plain_tick hand_in v (holder v.about of.0)).
    moved_on v (joined_by plain_tick hand_in v (holder v.about of.0)) w is (record { moves = refl; about = refl; share = refl }))
    of.1)
    last)
    rest)
    step

-- as many moves are counted as steps were made
pub steps_counted : (n : ℕ) (v w : View) → StepsTo n v w → w.moves < 18446744073709551615 → v.moves + n ≡ w.moves
steps_counted zero v w same exact = omega (arith, ap (λ (x : View). x.moves) same)
steps_counted (suc n) v w steps exact =
    let u = steps.0 in
    let ticks = (once_moved u w steps.1.1).moves in
    let before = steps_counted n v u steps.1.0 (omega (arith, ticks, exact)) in
    omega (arith, ticks, exact, before)

-- the view is of the same memory, with the same shares
pub steps_keep : (n : ℕ) (v w : View) → StepsTo n v w → (w.about ≡ v.about) × (w.share ≡ v.share)
steps_keep zero v w same = (ap (λ (x : View). x.about) same, ap (λ (x : View). x.share) same)
steps_keep (suc n) v w steps =
    let is = once_moved steps.0 w steps.1.1 in
    let before = steps_keep n v steps.0 steps.1.0 in
    (is.about ∙ before.0, is.share ∙ before.1)

-- Of the worked script, behind its first move.

-- only its first cue stops
stops_first : (place : ℕ) (cue : Cue) → slice_get worked_script place ≡ Some cue → cue.what ≡ Stop
    → (place ≡ 0) × (cue.at ≡ 0)
stops_first place cue is stops = ⊎_elim
    (λ (e : place ≡ 0). (e, ap (λ (c : Cue). c.at) (cue_at 0 (record { at = 0; what = Stop }) e refl)))
    (λ ne. ⊎_elim (λ (e : place ≡ 1). not_this (Stranger 0 (TreePay 0 5))
    (ap (λ (c : Cue). c.what) (cue_at 1 (record { at = 0; what = Stranger 0 (TreePay 0 5) }) e refl)) (λ is. absurd (cc)))
    (λ ne1. ⊎_elim (λ (e : place ≡ 2). not_this (Stranger 8 (TreePay 0 5))
    (ap (λ (c : Cue). c.what) (cue_at 2 (record { at = 0; what = Stranger 8 (TreePay 0 5) }) e refl)) (λ is. absurd (cc)))
    (λ ne2. ⊎_elim (λ (e : place ≡ 3). not_this Lose
    (ap (λ (c : Cue). c.what) (cue_at 3 (record { at = 1; what = Lose }) e refl)) (λ is. absurd (cc)))
    (λ ne3. absurd (omega (arith, ne, ne1, ne2, ne3, slice_get_within worked_script place cue is)))
    (cases_eq place 3))
    (cases_eq place 2))
    (cases_eq place 1))
    (cases_eq place 0)
  where
    cue_at : (i : ℕ) (other : Cue) → place ≡ i → slice_get worked_script i ≡ Some other → cue ≡ other
    cue_at i other e there =
        one_cue worked_script i other cue there (subst (λ (j : ℕ). slice_get worked_script j ≡ Some cue) e is)

    not_this : (w : What) → cue.what ≡ w → (w ≢ Stop) → (place ≡ 0) × (cue.at ≡ 0)
    not_this w e ne = absurd (ne (sym e ∙ stops))

module _ (a b : Stage) (found : ℕ) (ws : List ℕ) (stands : StandsFirst a) (plays : PlaysOn false (LoadsIt (Tree 0) found) a b)
    (s : StopsAt (key_by b.plain) b.begun (view_by b.plain) 0 b.cues.items ws) where
  stays : IsStill a.plain plays.ready.plain × IsUntold a plays.ready
  stays = all_stay a.cues.items false (length a.cues.items) a plays.ready plays.met

  script : b.cues.items ≡ worked_script
  script = ap (λ l. l.items) (plays.silent.0 ∙ stays.1.cues) ∙ stands.script

  pub first_cue : (s.place ≡ 0) × (s.cue.at ≡ 0)
  first_cue = stops_first s.place s.cue (ap (λ (l : List Cue). slice_get l s.place) (sym script) ∙ s.is_cue) s.stops

  pub first_view : b.plain.moves < 18446744073709551615 → (s.caller.moves ≡ a.plain.moves) × (s.steps ≡ 1)
  first_view exact =
      let begun : b.begun ≡ a.begun = plays.silent.1 ∙ stays.1.begun in
      let ready : plays.ready.plain.moves ≡ a.plain.moves = ap (λ (v : View). v.moves) stays.0.view in
      let ticks : b.plain.moves ≡ plain_tick plays.ready.plain.moves = (load_steps (Tree 0) found plays.ready.plain b.plain plays.own).1.0 in
      let counted = steps_counted s.steps s.caller (view_by b.plain) s.since exact in
      let earlier : s.cue.at < b.plain.moves - b.begun = ⊎_elim (λ lt. lt) (λ none. absurd (omega (arith, none.1))) (s.reached exact) in
      let at : a.plain.moves - a.begun ≡ 0 = stands.at in
      let here : s.caller.moves ≡ a.plain.moves = omega (arith, s.moves, first_cue.1, begun, ready, ticks, earlier, at, exact) in
      (here, omega (arith, here, counted, ready, ticks, exact))
