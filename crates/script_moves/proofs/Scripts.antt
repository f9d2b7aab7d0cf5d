-- Each half of a move by a script, joined to what the trait tells of the move.
use Rattle.std.proofs.Common.{◌≡◌, ◌≢◌, ◌⊎◌, inl, inr, ⊎_elim, ℕ, ◌-◌, ◌≤◌, List, Bool, true, false, ◌||◌, Option}
use Rattle.std.proofs.Common.{Some, length, refl, ap, sym, subst, ◌∙◌, arith}
use Rattle.std.specs.Prelude.{slice_get, slice_index, vec_len}
use Rattle.std.specs.List.{All}
use Rattle.std.proofs.Math.Logic.{∥∥₁_map}
use Rattle.frame_words.specs.Words.{rest_in}
use Rattle.frame_model.specs.declared.block.FrameBlock.{FrameBlock}
use Rattle.frame_model.specs.declared.key.Key.{Key}
use Rattle.frame_model.specs.declared.place.Place.{Place}
use Rattle.frame_model.specs.declared.view.View.{View}
use Rattle.frame_model.specs.Steps.{Kind, swap_local, place, effect, after_load, after_loss}
use Rattle.frame_model.specs.Words.{IsRest, word_count}
use Rattle.frame_core.specs.Moves.{hand_out_block, place_of, HasLayout, ReadsBut, after, Changes}
use Rattle.frame_core.specs.Mover.{IsApart, Keeps, Loads, Tries, Makes, Swaps, HandsOut, HandsIn}
use Rattle.frame_model.specs.Seats.{hand_in, left_by, joined_by}
use Rattle.frame_model.specs.View.{holder}
use Rattle.plain_moves.specs.declared.plain.PlainMoves.{PlainMoves}
use Rattle.plain_moves.specs.declared.plain.party.Company.{Company}
use Rattle.script_moves.specs.declared.script.stage.Stage.{Stage}
use Rattle.script_moves.specs.declared.script.cue.Cue.{Cue}
use Rattle.script_moves.specs.declared.script.cue.What.TheVariants.{Lose, Stop}
use Rattle.plain_moves.specs.Plain.{plain_tick, IsIdleParty, IsOutIn}
use Rattle.plain_moves.specs.PlainState.{key_by, parties_by, words_by, view_by, mover_by, Loses}
use Rattle.plain_moves.specs.Acts.{MakesIt}
use Rattle.script_moves.specs.Script.{IsPast, NoneAt, LosesAt, ShowsStop, StepsOnce}
use Rattle.script_moves.specs.ScriptState.{at_by, read_by, scripted, stage_mover, IsOver, IsReady, IsLost, FindsWord, MeetsFirst, ShowsTo}
use Rattle.script_moves.specs.Plays.{PlaysOn, IsSilent, TriesIt, LoadsIt, SwapsIt, HandsItOut, HandsItIn}
use Rattle.script_moves.specs.ScriptLaws.{over_is_quiet, stage_fits}
use Rattle.script_moves.proofs.Cues.{is_not_at, cues_show, stepped}
use Rattle.plain_moves.proofs.PlainSteps.{apart_known, got}

or_false : (b : Bool) → b ≡ (b || false)
or_false true = refl
or_false false = refl

or_true : (b : Bool) → true ≡ (b || true)
or_true true = refl
or_true false = refl

-- Once a script is over it stays so.

past_later : (at now : ℕ) (cues : List Cue) → at ≤ now → All (IsPast at) cues → All (IsPast now) cues
past_later at now cues more past = λ k cue h. omega (arith, past k cue h, more)

still_over : (m : Stage) (now : PlainMoves) (cues : List Cue) (begun : ℕ) → now.them ≡ m.plain.them → cues ≡ m.cues.items
    → at_by m ≤ now.moves - begun → IsOver (at_by m) m.cues.items m.plain → IsOver (now.moves - begun) cues now
still_over m now cues begun them same at over = record {
  past = subst (λ (l : List Cue). All (IsPast (now.moves - begun)) l) (sym same)
      (past_later (at_by m) (now.moves - begun) m.cues.items at over.past);
  idle = subst (λ (t : Company). All IsIdleParty t.parties.items) (sym them) over.idle;
}

-- An exchange was lost.
module _ (m n : Stage) (kind : Kind) (p seen : ℕ) (is : IsLost p seen m n) (here : p ≡ place (key_by m.plain) kind) where
  lost_at : at_by m ≤ at_by n
  lost_at = omega (arith, ap (λ (v : View). v.moves) is.view, is.begun, m.plain.counted)

  told : LosesAt (at_by m) m.cues.items ⊎ ((found : ℕ) × ((found ≢ seen) × (read_by n p ≡ Some found)))
  told = ⊎_elim (λ at_will. inl at_will) (λ other. inr (is.found, (other, is.here))) is.lost

  pub lost_by : Tries plain_tick kind seen false (stage_mover m) (stage_mover n)
  lost_by = record {
    keeps = record {
      same_tie = λ i. ((is.cues i).items, is.begun i);
      same_key = is.key;
      stays_alone = λ over. still_over m n.plain n.cues.items n.begun ((is.quiet (over_is_quiet m over)).1.them)
          (ap (λ v. v.items) is.cues) lost_at over;
      stay_out = λ b out. subst (λ o. IsOutIn o.items b) (sym is.outs) out;
    };
    missed = is.missed ∙ or_true m.missed;
    view = is.view;
    lost = λ e. subst (λ (q : ℕ). LosesAt (at_by m) m.cues.items ⊎ ((found : ℕ) × ((found ≢ seen) × (read_by n q ≡ Some found)))) here told;
    at_will = λ by. refl;
    reads = subst (λ (q : ℕ). ReadsBut q (read_by m) (read_by n)) here is.reads;
    words = λ q. let w = is.quiet q in
        (subst (λ (q : ℕ). slice_index (words_by m.plain) q ≢ seen) here w.0, ap (λ ws. Some ws.items) w.1.words);
    apart = subst (λ (key : Key). IsApart key (view_by n.plain)) is.key
        (apart_known (key_by n.plain) (words_by n.plain) n.plain.outs.items (view_by n.plain) n.plain.agrees);
  }

-- The cues were made and the exchange is lost: a cue says so, or another word stands there.
module _ (m r w n : Stage) (place seen word : ℕ) (ready : IsReady m r) (lose : Loses r.plain w.plain)
    (cues : w.cues ≡ r.cues) (begun : w.begun ≡ r.begun) (missed : w.missed ≡ true) (read : w.read ≡ r.read)
    (finds : FindsWord place w n) (value : slice_index (words_by w.plain) place ≡ word) (here : read_by n place ≡ Some word)
    (why : LosesAt (at_by m) m.cues.items ⊎ (slice_index (words_by r.plain) place ≢ seen)) where
  stood : word ≡ slice_index (words_by r.plain) place
  stood = sym value ∙ ap (λ ws. slice_index ws.items place) lose.words

  no_cue : NoneAt (at_by m) m.cues.items → LosesAt (at_by m) m.cues.items → ⊥
  no_cue none by =
      let stops : by.0.what ≡ Stop = is_not_at (at_by m) m.cues.items by.1.0.0 by.0 none by.1.0.1 by.1.1 in
      let loses : by.0.what ≡ Lose = by.1.2 in
      absurd (cc)

  lost_there : IsLost place seen m n
  lost_there = record {
    key = ap key_by finds.plain ∙ lose.own.key ∙ ready.still.key;
    view = ap view_by finds.plain ∙ lose.view ∙ ap (after_loss plain_tick) ready.still.view;
    outs = ap (λ (p : PlainMoves). p.outs) finds.plain ∙ lose.outs ∙ ready.still.outs;
    cues = finds.cues ∙ cues ∙ ready.untold.cues;
    begun = finds.begun ∙ begun ∙ ready.untold.begun;
    missed = finds.missed ∙ missed;
    reads = λ i ne. finds.reads i ne ∙ ap (λ l. slice_get l.items i) (read ∙ ready.untold.read);
    found = word;
    here = here;
    lost = ⊎_elim (λ by. inl by) (λ other. inr (λ e. other (sym stood ∙ e))) why;
    quiet = λ none. let q = ready.quiet none in (
      ⊎_elim (λ by. absurd (no_cue none by)) (λ other. λ e. other (ap (λ ws. slice_index ws.items place) q.words ∙ e)) why,
      record {
        words = ap (λ (p : PlainMoves). p.words) finds.plain ∙ lose.words ∙ q.words;
        them = ap (λ (p : PlainMoves). p.them) finds.plain ∙ lose.own.them ∙ q.them;
      },
    );
  }

module _ (m r w n : Stage) (spot : Place) (seen word : ℕ) (ready : IsReady m r) (lose : Loses r.plain w.plain)
    (finds : FindsWord (place_of (key_by w.plain) spot) w n)
    (value : slice_index (words_by w.plain) (place_of (key_by w.plain) spot) ≡ word)
    (here : read_by n (place_of (key_by w.plain) spot) ≡ Some word)
    (why : LosesAt (at_by m) m.cues.items ⊎ (slice_index (words_by r.plain) (place_of (key_by r.plain) spot) ≢ seen)) where
  same_spot : key_by w.plain ≡ key_by m.plain
  same_spot = lose.own.key ∙ ready.still.key

  pub lost_found : w.cues ≡ r.cues → w.begun ≡ r.begun → w.missed ≡ true → w.read ≡ r.read
      → IsLost (place_of (key_by m.plain) spot) seen m n
  lost_found cues begun missed read =
      lost_there m r w n (place_of (key_by m.plain) spot) seen word ready lose cues begun missed read
      (subst (λ (k : Key). FindsWord (place_of k spot) w n) same_spot finds)
      (subst (λ (k : Key). slice_index (words_by w.plain) (place_of k spot) ≡ word) same_spot value)
      (subst (λ (k : Key). read_by n (place_of k spot) ≡ Some word) same_spot here)
      (subst (λ (k : Key). LosesAt (at_by m) m.cues.items ⊎ (slice_index (words_by r.plain) (place_of k spot) ≢ seen))
      ready.still.key why)

-- The plain step of a move was made between its two halves.
module _ (m r : Stage) (p now : PlainMoves) (cs : List Cue) (begun : ℕ) (ready : IsReady m r) (tie : p.them ≡ r.plain.them)
    (key : key_by p ≡ key_by r.plain) (moves : p.moves ≡ plain_tick r.plain.moves) (plain : now ≡ p)
    (cues : cs ≡ r.cues.items) (same_begun : begun ≡ r.begun) where
  same_key : key_by now ≡ key_by m.plain
  same_key = ap key_by plain ∙ key ∙ ready.still.key

  later : at_by m ≤ now.moves - begun
  later = omega (
    arith,
    ap (λ (v : View). v.moves) ready.still.view,
    ap (λ (q : PlainMoves). q.moves) plain,
    moves,
    same_begun,
    ready.untold.begun,
    m.plain.counted,
  )

  pub over_on : IsOver (at_by m) m.cues.items m.plain → IsOver (now.moves - begun) cs now
  over_on over = still_over m now cs begun (ap (λ (q : PlainMoves). q.them) plain ∙ tie ∙ (ready.quiet (over_is_quiet m over)).them)
      (cues ∙ ap (λ v. v.items) ready.untold.cues) later over

  pub out_on : (b : FrameBlock) → (IsOutIn r.plain.outs.items b → IsOutIn p.outs.items b) → IsOutIn m.plain.outs.items b
      → IsOutIn now.outs.items b
  out_on b out o = subst (λ (q : PlainMoves). IsOutIn q.outs.items b) (sym plain)
      (out (subst (λ l. IsOutIn l.items b) (sym ready.still.outs) o))

  pub keeps_by : (read : List ℕ) (missed : Bool) → ((b : FrameBlock) → IsOutIn r.plain.outs.items b → IsOutIn p.outs.items b)
      → Keeps (stage_mover m) (scripted now cs read begun missed)
  keeps_by read missed out = record {
    same_tie = λ i. ((cues ∙ ap (λ v. v.items) ready.untold.cues) i, (same_begun ∙ ready.untold.begun) i);
    same_key = same_key;
    stays_alone = over_on;
    stay_out = λ b o. out_on b (out b) o;
  }

-- the words before and after the plain step, as the caller has them
module _ (m r : Stage) (p now : PlainMoves) (ready : IsReady m r) (plain : now ≡ p) (kind : Kind) where
  pub changed : Changes (key_by r.plain) kind (Some (words_by r.plain)) (Some (words_by p))
      → NoneAt (at_by m) m.cues.items → Changes (key_by m.plain) kind (Some (words_by m.plain)) (Some (words_by now))
  changed is none =
      subst (λ (q : PlainMoves). Changes (key_by m.plain) kind (Some (words_by m.plain)) (Some (words_by q))) (sym plain)
      (subst (λ ws. Changes (key_by m.plain) kind (Some ws.items) (Some (words_by p))) (ready.quiet none).words
      (subst (λ (k : Key). Changes k kind (Some (words_by r.plain)) (Some (words_by p))) ready.still.key is))

-- but for its plain moves, the state is this one
pub record IsWith (p : PlainMoves) (r w : Stage) : Type 0 where
  pub plain : w.plain ≡ p
  pub cues : w.cues ≡ r.cues
  pub begun : w.begun ≡ r.begun
  pub missed : w.missed ≡ r.missed
  pub read : w.read ≡ r.read

module _ (m r w n : Stage) (p : PlainMoves) (kind : Kind) (q : ℕ) (ready : IsReady m r) (with : IsWith p r w)
    (found : FindsWord q w n)
    (here : q ≡ place (key_by p) kind) (ticks : (v : View) → (after plain_tick kind v).moves ≡ plain_tick v.moves) where
  now : n.plain ≡ p
  now = found.plain ∙ with.plain

  pub reads_by : key_by p ≡ key_by r.plain → ReadsBut (place (key_by m.plain) kind) (read_by m) (read_by n)
  reads_by key = subst (λ (i : ℕ). ReadsBut i (read_by m) (read_by n)) (here ∙ ap (λ k. place k kind) (key ∙ ready.still.key))
      (λ i ne. found.reads i ne ∙ ap (λ l. slice_get l.items i) (with.read ∙ ready.untold.read))

  -- a change was made
  pub made_by : Makes plain_tick kind (mover_by r.plain) (mover_by p) → Makes plain_tick kind (stage_mover m) (stage_mover n)
  made_by is = record {
    keeps = keeps_by m r p n.plain n.cues.items n.begun ready is.keeps.same_tie is.keeps.same_key
        (ap (λ (v : View). v.moves) is.view ∙ ticks (view_by r.plain)) now (ap (λ v. v.items) (found.cues ∙ with.cues))
        (found.begun ∙ with.begun)
        _ _ is.keeps.stay_out;
    missed = found.missed ∙ with.missed ∙ ready.untold.missed;
    view = ap view_by now ∙ is.view ∙ ap (after plain_tick kind) ready.still.view;
    reads = reads_by is.keeps.same_key;
    words = changed m r p n.plain ready now kind (is.words tt);
    recalled = changed m r p n.plain ready now kind (is.words tt);
    fits = λ none ws e. stage_fits m ws e;
    knows = (_, refl);
    apart = subst (λ (w : PlainMoves). IsApart (key_by m.plain) (view_by w)) (sym now)
        (subst (λ (k : Key). IsApart k (view_by p)) ready.still.key is.apart);
  }

  -- an exchange was made, which no cue loses
  won_true : (seen : ℕ) → (LosesAt (at_by m) m.cues.items → true ≡ false)
      → Tries plain_tick kind seen true (mover_by r.plain) (mover_by p)
      → Tries plain_tick kind seen true (stage_mover m) (stage_mover n)
  won_true seen none is = record {
    keeps = keeps_by m r p n.plain n.cues.items n.begun ready is.keeps.same_tie is.keeps.same_key
        (ap (λ (v : View). v.moves) is.view ∙ ticks (view_by r.plain)) now (ap (λ v. v.items) (found.cues ∙ with.cues))
        (found.begun ∙ with.begun)
        _ _ is.keeps.stay_out;
    missed = found.missed ∙ with.missed ∙ ready.untold.missed ∙ or_false m.missed;
    view = ap view_by now ∙ is.view ∙ ap (after plain_tick kind) ready.still.view;
    lost = λ e. absurd (cc);
    at_will = none;
    reads = reads_by is.keeps.same_key;
    words = λ none. (
      subst (λ ws. slice_index ws.items (place (key_by m.plain) kind) ≡ seen) (ready.quiet none).words
          (subst (λ (k : Key). slice_index (words_by r.plain) (place k kind) ≡ seen) ready.still.key (is.words tt).0),
      changed m r p n.plain ready now kind (is.words tt).1 none,
    );
    apart = subst (λ (w : PlainMoves). IsApart (key_by m.plain) (view_by w)) (sym now)
        (subst (λ (k : Key). IsApart k (view_by p)) ready.still.key is.apart);
  }

  -- and where its word is as it was seen, it is
  pub won_by : {loses : Bool} (seen : ℕ) (made : Bool) → slice_get (words_by r.plain) (place (key_by m.plain) kind) ≡ Some seen
      → loses ≡ false → (LosesAt (at_by m) m.cues.items → loses ≡ true)
      → Tries plain_tick kind seen made (mover_by r.plain) (mover_by p)
      → Tries plain_tick kind seen made (stage_mover m) (stage_mover n)
  won_by seen true stands wins obeys is = won_true seen (λ by. sym (obeys by) ∙ wins) is
  won_by seen false stands wins obeys is = absurd ((is.words tt).0 (got (words_by r.plain) (place (key_by r.plain) kind) seen
      (subst (λ (k : Key). slice_get (words_by r.plain) (place k kind) ≡ Some seen) (sym ready.still.key) stands)))

-- A local word was put in the place of another.
module _ (m r w n : Stage) (p : PlainMoves) (core : ℕ) (put answer : Option (ℕ × ℕ)) (q : ℕ) (ready : IsReady m r)
    (with : IsWith p r w)
    (found : FindsWord q w n) (here : q ≡ place (key_by p) (swap_local core put)) where
  pub swapped_by : Swaps plain_tick core put answer (mover_by r.plain) (mover_by p)
      → Swaps plain_tick core put answer (stage_mover m) (stage_mover n)
  swapped_by is = let now : n.plain ≡ p = found.plain ∙ with.plain in record {
    keeps = keeps_by m r p n.plain n.cues.items n.begun ready is.keeps.same_tie is.keeps.same_key
        (ap (λ (v : View). v.moves) is.view.2) now (ap (λ v. v.items) (found.cues ∙ with.cues))
        (found.begun ∙ with.begun) _ _ is.keeps.stay_out;
    missed = found.missed ∙ with.missed ∙ ready.untold.missed;
    view = (
      is.view.0,
      is.view.1,
      ap view_by now ∙ is.view.2 ∙ ap (effect plain_tick (swap_local core put) is.view.0) ready.still.view,
    );
    is_rest = subst (λ (k : Key). IsRest k answer) ready.still.key is.is_rest;
    reads = reads_by m r w n p (swap_local core put) q ready with found here (λ v. refl) is.keeps.same_key;
    words = λ none. (
      subst (λ ws. rest_in (slice_index ws.items (place (key_by m.plain) (swap_local core put))) ≡ answer) (ready.quiet none).words
          (subst (λ (k : Key). rest_in (slice_index (words_by r.plain) (place k (swap_local core put))) ≡ answer) ready.still.key
          (is.words tt).0),
      changed m r p n.plain ready now (swap_local core put) (is.words tt).1 none,
    );
    apart = subst (λ (u : PlainMoves). IsApart (key_by m.plain) (view_by u)) (sym now)
        (subst (λ (k : Key). IsApart k (view_by p)) ready.still.key is.apart);
  }

-- A word was loaded.
module _ (m r w n : Stage) (p : PlainMoves) (word : Place) (answer result q : ℕ) (ready : IsReady m r) (with : IsWith p r w)
    (found : FindsWord q w n) (here_p : q ≡ place_of (key_by p) word) (reads_as : read_by n q ≡ Some result)
    (value : slice_index (words_by p) q ≡ result) where
  pub loaded_by : Loads plain_tick word answer (mover_by r.plain) (mover_by p)
      → Loads plain_tick word result (stage_mover m) (stage_mover n)
  loaded_by is =
      let now : n.plain ≡ p = found.plain ∙ with.plain in
      let here : q ≡ place_of (key_by m.plain) word = here_p ∙ ap (λ k. place_of k word) (is.keeps.same_key ∙ ready.still.key) in
      let whole = (is.words tt).1 in
      let same : words_by p ≡ words_by r.plain = cc in
      let stood : slice_index (words_by r.plain) (place_of (key_by m.plain) word) ≡ answer =
      ap (λ (k : Key). slice_index (words_by r.plain) (place_of k word)) (sym ready.still.key) ∙ (is.words tt).0 in
      let told : answer ≡ result =
      sym stood ∙ ap (slice_index (words_by r.plain)) (sym here) ∙ ap (λ ws. slice_index ws q) (sym same) ∙ value in
      record {
        keeps = keeps_by m r p n.plain n.cues.items n.begun ready is.keeps.same_tie is.keeps.same_key
            (ap (λ (v : View). v.moves) is.view) now (ap (λ v. v.items) (found.cues ∙ with.cues))
            (found.begun ∙ with.begun) _ _ is.keeps.stay_out;
        missed = found.missed ∙ with.missed ∙ ready.untold.missed;
        view = ap view_by now ∙ is.view ∙ ap (after_load plain_tick) ready.still.view;
        layout = subst (λ (k : Key). HasLayout k word result) ready.still.key (subst (HasLayout (key_by r.plain) word) told is.layout);
        here = subst (λ (i : ℕ). read_by n i ≡ Some result) here reads_as;
        reads = subst (λ (i : ℕ). ReadsBut i (read_by m) (read_by n)) here
            (λ i ne. found.reads i ne ∙ ap (λ l. slice_get l.items i) (with.read ∙ ready.untold.read));
        words = λ none. (
          ap (λ ws. slice_index ws.items (place_of (key_by m.plain) word)) (sym (ready.quiet none).words) ∙ stood ∙ told,
          ap (λ (u : PlainMoves). Some (words_by u)) now ∙ whole ∙ ap (λ ws. Some ws.items) (ready.quiet none).words,
        );
        apart = subst (λ (u : PlainMoves). IsApart (key_by m.plain) (view_by u)) (sym now)
            (subst (λ (k : Key). IsApart k (view_by p)) ready.still.key is.apart);
      }

-- A block left or came, with no word.
module _ (m r : Stage) (p : PlainMoves) (ready : IsReady m r) (b : FrameBlock) where
  reads_on : read_by r ≡ read_by m
  reads_on = λ k i. slice_get (ready.untold.read k).items i

  words_on : ◌≡◌ {A = Option (List ℕ)} (Some (words_by p)) (Some (words_by r.plain)) → NoneAt (at_by m) m.cues.items
      → ◌≡◌ {A = Option (List ℕ)} (Some (words_by p)) (Some (words_by m.plain))
  words_on same none = same ∙ ap (λ ws. Some ws.items) (ready.quiet none).words

  pub out_by : (held : FrameBlock) → HandsOut plain_tick (λ d. d) b held (mover_by r.plain) (mover_by p)
      → HandsOut plain_tick (λ d. d) b held (stage_mover m) (scripted p r.cues.items r.read.items r.begun r.missed)
  out_by held is = record {
    keeps = keeps_by m r p p r.cues.items r.begun ready is.keeps.same_tie is.keeps.same_key (ap (λ (v : View). v.moves) is.view)
        refl refl refl _ _ is.keeps.stay_out;
    missed = ready.untold.missed;
    view = is.view ∙ ap (left_by plain_tick (hand_out_block b)) ready.still.view;
    is_block = is.is_block;
    is_out = is.is_out;
    reads = reads_on;
    words = λ none. words_on (is.words tt) none;
    recalled = λ none. words_on (is.words tt) none;
  }

  pub in_by : HandsIn plain_tick (λ d. d) b (mover_by r.plain) (mover_by p)
      → HandsIn plain_tick (λ d. d) b (stage_mover m) (scripted p r.cues.items r.read.items r.begun r.missed)
  in_by is =
      let moves = ap (λ (v : View). v.moves) is.view in
      record {
        keeps = record {
          same_tie = λ i. ((ready.untold.cues i).items, ready.untold.begun i);
          same_key = is.keeps.same_key ∙ ready.still.key;
          stays_alone = over_on m r p p r.cues.items r.begun ready is.keeps.same_tie is.keeps.same_key moves refl refl refl;
          others_out = λ d ne o. out_on m r p p r.cues.items r.begun ready is.keeps.same_tie is.keeps.same_key moves refl refl refl d
              (is.keeps.others_out d ne) o;
        };
        missed = ready.untold.missed;
        view = is.view ∙ (λ k. joined_by plain_tick hand_in (ready.still.view k) (holder (Some (ready.still.key k)) b));
        reads = reads_on;
        recalled = λ none. words_on (is.recalled tt) none;
      }

-- The caller's own step.

-- where the word is as it was seen, the exchange is made
pub own_try : (m r : Stage) (p : PlainMoves) (kind : Kind) (seen : ℕ) (made : Bool) → IsReady m r
    → slice_get (words_by r.plain) (place (key_by m.plain) kind) ≡ Some seen
    → Tries plain_tick kind seen made (mover_by r.plain) (mover_by p) → TriesIt kind seen made r.plain p
own_try m r p kind seen true ready stands is = is
own_try m r p kind seen false ready stands is =
    absurd ((is.words tt).0 (got (words_by r.plain) (place (key_by r.plain) kind) seen
    (subst (λ (k : Key). slice_get (words_by r.plain) (place k kind) ≡ Some seen) (sym ready.still.key) stands)))

-- the word that was loaded is the one that is read
pub own_load : (a b : PlainMoves) (word : Place) (answer result q : ℕ) → q ≡ place_of (key_by b) word → slice_index (words_by b) q ≡ result
    → Loads plain_tick word answer (mover_by a) (mover_by b) → LoadsIt word result a b
own_load a b word answer result q here value is =
    let whole = (is.words tt).1 in
    let same : words_by b ≡ words_by a = cc in
    let there : q ≡ place_of (key_by a) word = here ∙ ap (λ k. place_of k word) is.keeps.same_key in
    let told : answer ≡ result =
    sym (is.words tt).0 ∙ ap (slice_index (words_by a)) (sym there) ∙ ap (λ ws. slice_index ws q) (sym same) ∙ value in
    subst (λ (x : ℕ). LoadsIt word x a b) told is

-- the cues, and then the caller's own step
pub played : (is_exchange : Bool) (Own : PlainMoves → PlainMoves → Type 0) (m r n : Stage) (p : PlainMoves)
    → MeetsFirst m.cues.items is_exchange (length m.cues.items) m r → Own r.plain p → n.plain ≡ p → IsSilent r n
    → PlaysOn is_exchange Own m n
played is_exchange Own m r n p met own now silent = record {
  ready = r;
  met = met;
  own = subst (Own r.plain) (sym now) own;
  silent = silent;
}

-- What the script shows behind a move.

-- a step of the caller's own keeps its memory, is counted, and is a step of its view
abbrev pub IsStepOf : PlainMoves → PlainMoves → Type 0
IsStepOf a b =
    (key_by b ≡ key_by a) × (((view_by b).moves ≡ plain_tick a.moves) × StepsOnce (view_by a) (view_by b))

pub make_steps : (kind : Kind) → ((v : View) → (after plain_tick kind v).moves ≡ plain_tick v.moves) → (a b : PlainMoves)
    → MakesIt kind a b → IsStepOf a b
make_steps kind ticks a b is =
    (is.keeps.same_key, (ap (λ (v : View). v.moves) is.view ∙ ticks (view_by a), inl (kind, (0, is.view))))

pub loss_steps : (a b : PlainMoves) → Loses a b → IsStepOf a b
loss_steps a b is = (is.own.key, (ap (λ (v : View). v.moves) is.view, inr (inr (inl is.view))))

pub try_steps : (kind : Kind) (seen : ℕ) → ((v : View) → (after plain_tick kind v).moves ≡ plain_tick v.moves) → (made : Bool)
    → (a b : PlainMoves) → TriesIt kind seen made a b → IsStepOf a b
try_steps kind seen ticks true a b is =
    (is.keeps.same_key, (ap (λ (v : View). v.moves) is.view ∙ ticks (view_by a), inl (kind, (0, is.view))))
try_steps kind seen ticks false a b is = loss_steps a b is

pub load_steps : (word : Place) (found : ℕ) (a b : PlainMoves) → LoadsIt word found a b → IsStepOf a b
load_steps word found a b is = (is.keeps.same_key, (ap (λ (v : View). v.moves) is.view, inr (inl is.view)))

pub swap_steps : (core : ℕ) (put answer : Option (ℕ × ℕ)) (a b : PlainMoves) → SwapsIt core put answer a b → IsStepOf a b
swap_steps core put answer a b is =
    (is.keeps.same_key, (ap (λ (v : View). v.moves) is.view.2, inl (swap_local core put, (is.view.0, is.view.2))))

pub out_steps : (d held : FrameBlock) (a b : PlainMoves) → HandsItOut d held a b → IsStepOf a b
out_steps d held a b is =
    (is.keeps.same_key, (ap (λ (v : View). v.moves) is.view, inr (inr (inr (d, inl is.view)))))

pub in_steps : (held : FrameBlock) (a b : PlainMoves) → HandsItIn held a b → IsStepOf a b
in_steps held a b is =
    (is.keeps.same_key, (ap (λ (v : View). v.moves) is.view, inr (inr (inr (held, inr is.view)))))

-- behind the caller's own step it shows the last stop of all moves so far
pub shown_on : (is_exchange : Bool) (Own : PlainMoves → PlainMoves → Type 0) (m n : Stage) → ShowsTo 0 m → PlaysOn is_exchange Own m n
    → ((a b : PlainMoves) → Own a b → IsStepOf a b) → ShowsTo 0 n
shown_on is_exchange Own m n shows plays steps =
    let r = plays.ready in
    let is = steps r.plain n.plain plays.own in
    ∥∥₁_map (cues_show m r is_exchange plays.met shows)
    (λ (s : ShowsStop (key_by r.plain) r.begun (view_by r.plain) (length r.cues.items) r.cues.items r.has_stopped r.stop.words).
    let next = stepped (key_by r.plain) r.begun (view_by r.plain) (view_by n.plain) r.cues.items r.has_stopped r.stop.words
    (omega (arith, r.plain.counted)) is.1.0 is.1.1 s in
    let P : Key → ℕ → List Cue → Bool → List ℕ → Type 0 = λ k b cs has ws. ShowsStop k b (view_by n.plain) 0 cs has ws in
    subst (λ (k : Key). P k n.begun n.cues.items n.has_stopped n.stop.words) (sym is.0)
    (subst (λ (b : ℕ). P (key_by r.plain) b n.cues.items n.has_stopped n.stop.words) (sym plays.silent.1)
    (subst (λ cs. P (key_by r.plain) r.begun cs.items n.has_stopped n.stop.words) (sym plays.silent.0)
    (subst (λ (has : Bool). P (key_by r.plain) r.begun r.cues.items has n.stop.words) (sym plays.silent.3)
    (subst (λ i. P (key_by r.plain) r.begun r.cues.items r.has_stopped i.words) (sym plays.silent.4) next)))))

-- with other plain moves of the same memory and company the stage is one
pub stage_on : (r : Stage) (p : PlainMoves) → key_by p ≡ key_by r.plain → p.them ≡ r.plain.them
    → (vec_len r.read ≡ length (words_by p)) × ((length r.stop.words ≡ length (words_by p))
    × ((length (parties_by p) ≡ 8) × Unit {0}))
unfolding word_count
stage_on r p key them =
    let same : length (words_by p) ≡ length (words_by r.plain) =
    omega (arith, p.length, r.plain.length, ap (λ (k : Key). word_count k) key) in
    (r.reads ∙ sym same, (r.stop_length ∙ sym same, (ap (λ (t : Company). length t.parties.items) them ∙ r.strangers, tt)))

-- the stage with these plain moves
abbrev pub with_plain : (r : Stage) (p : PlainMoves) → key_by p ≡ key_by r.plain → p.them ≡ r.plain.them → Stage
with_plain r p key them = let are = stage_on r p key them in record {
  plain = p;
  cues = r.cues;
  read = r.read;
  begun = r.begun;
  missed = r.missed;
  skipped = r.skipped;
  stop = r.stop;
  has_stopped = r.has_stopped;
  reads = are.0;
  stop_length = are.1.0;
  strangers = are.1.1.0;
}
