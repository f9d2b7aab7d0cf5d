-- What comes of the worked script.
use Rattle.std.proofs.Common.{◌≡◌, ⊎_elim, ℕ, ◌<◌, List, length, Bool, true, false, Option, Some, None, refl, ap, sym, subst, ◌∙◌, arith}
use Rattle.std.proofs.lemmas.List.{get_or-set_same}
use Rattle.std.specs.Prelude.{slice_get, slice_index, slice_set, if◌then◌else◌}
use Rattle.frame_model.specs.declared.place.Place.TheVariants.{Tree}
use Rattle.frame_model.specs.Words.{tree_place, word_count}
use Rattle.frame_model.specs.View.{count_in, NoneBut}
use Rattle.frame_core.specs.Image.{Contents}
use Rattle.plain_moves.specs.declared.act.Act.{Act}
use Rattle.plain_moves.specs.declared.act.Act.TheVariants.{TreePay}
use Rattle.plain_moves.specs.declared.plain.PlainMoves.{PlainMoves}
use Rattle.script_moves.specs.declared.script.stage.Stage.{Stage}
use Rattle.script_moves.specs.declared.script.cue.Cue.{Cue}
use Rattle.script_moves.specs.declared.script.cue.What.TheVariants.{Lose, Stranger, Stop}
use Rattle.plain_moves.specs.Acts.{TheyAct}
use Rattle.plain_moves.specs.Plain.{plain_key}
use Rattle.plain_moves.specs.PlainState.{key_by, words_by, Loses}
use Rattle.script_moves.specs.Plays.{PlaysOn, LoadsIt}
use Rattle.script_moves.specs.ScriptState.{at_by, stop_in, Meets, MeetsFirst, MeetsNext, StrangerMay}
use Rattle.script_moves.specs.Worked.{worked_script, first_tree_word, five_less, five_paid, StandsFirst, StandsSecond}
use Rattle.script_moves.proofs.Cues.{one_cue, same_at}

-- the cue at this place of the script was met
met_at : (i : ℕ) (cue : Cue) (is_exchange : Bool) (a b : Stage) → slice_get worked_script i ≡ Some cue
    → MeetsNext worked_script is_exchange i a b → Meets cue is_exchange a b
met_at i cue is_exchange a b is next =
    subst (λ (c : Cue). Meets c is_exchange a b) (one_cue worked_script i cue next.0 is next.1.0) next.1.1

abbrev five : Act
five = TreePay 0 5

-- what the cues of move 0 leave
record First (a r : Stage) : Type 0 where
  skipped : r.skipped ≡ 1
  has_stopped : r.has_stopped ≡ true
  stop : r.stop.words ≡ words_by a.plain
  paid : Stage
  acts : TheyAct 0 five a.plain paid.plain
  words : words_by r.plain ≡ words_by paid.plain
  key : key_by r.plain ≡ key_by paid.plain

first_cues : (a r : Stage) → StandsFirst a → StrangerMay 0 five a.plain
    → MeetsFirst a.cues.items false (length a.cues.items) a r → First a r
first_cues a r stands may all =
    let met : MeetsFirst worked_script false 4 a r =
    subst (λ (l : List Cue). MeetsFirst l false (length l) a r) stands.script all in
    let m3 = met.1.0 in
    let m2 = m3.1.0 in
    let m1 = m2.1.0 in
    let b3 = met.0 in
    let b2 = m3.0 in
    let b1 = m2.0 in
    let s0 = subst (λ (m : Stage). Meets (record { at = 0; what = Stop }) false m b1) m1.1.0
    (met_at 0 (record { at = 0; what = Stop }) false m1.0 b1 refl m1.1.1) in
    let s1 = met_at 1 (record { at = 0; what = Stranger 0 five }) false b1 b2 refl m2.1.1 in
    let s2 = met_at 2 (record { at = 0; what = Stranger 8 five }) false b2 b3 refl m3.1.1 in
    let s3 = met_at 3 (record { at = 1; what = Lose }) false b3 r refl met.1.1 in
    let h0 = s0.here (sym stands.at) in
    let copies = h0.stops refl in
    let at1 = same_at a b1 h0.still h0.untold ∙ stands.at in
    let h1 = s1.here (sym at1) in
    let made = ⊎_elim (λ yes. yes)
    (λ no. absurd (no.1.0 (subst (λ (p : PlainMoves). StrangerMay 0 five p) (sym copies.plain) may))) h1.counts in
    let at2 = same_at b1 b2 h1.still h1.untold ∙ at1 in
    let h2 = s2.here (sym at2) in
    let not = ⊎_elim (λ yes. absurd (omega (arith, yes.1.0.0))) (λ no. no) h2.counts in
    let at3 = same_at b2 b3 h2.still h2.untold ∙ at2 in
    let last : r ≡ b3 = s3.passed (λ e. absurd (omega (arith, e, at3))) in
    let goes1 = h1.goes_on (λ e. absurd (cc)) in
    let goes2 = h2.goes_on (λ e. absurd (cc)) in
    subst (λ (m : Stage). First a m) (sym last) (record {
      skipped = omega (arith, not.0, made.0, h0.counts, stands.skipped);
      has_stopped = goes2.has_stopped ∙ goes1.has_stopped ∙ copies.has_stopped;
      stop = ap (λ i. i.words) goes2.stop ∙ ap (λ i. i.words) goes1.stop ∙ copies.words;
      paid = b2;
      acts = subst (λ (p : PlainMoves). TheyAct 0 five p b2.plain) copies.plain made.1.1;
      words = ap (λ v. v.items) not.1.1.words;
      key = not.1.1.key;
    })

-- what the stranger's payment leaves
they_pay : (a b : PlainMoves) → TheyAct 0 five a b → (words_by b ≡ five_paid a) × (key_by b ≡ key_by a)
they_pay a b t =
    let key : key_by t.came ≡ key_by a = λ i. plain_key (t.turns.key.0 i) (t.turns.key.1 i) in
    let words : words_by t.came ≡ words_by a = ap (λ v. v.items) t.turns.words in
    let back : words_by b ≡ words_by t.went = ap (λ v. v.items) t.turns_back.words in
    let key_back : key_by b ≡ key_by t.went = λ i. plain_key (t.turns_back.key.0 i) (t.turns_back.key.1 i) in
    let whole = (t.acts.words tt).1 in
    let left : words_by t.went ≡ five_paid t.came = cc in (
      back ∙ left ∙ (λ i. slice_set (words i) (tree_place (key i) 0)
          (five_less (slice_index (words i) (tree_place (key i) 0)))),
      key_back ∙ t.acts.keeps.same_key ∙ key,
    )

none_paid : NoneBut 0 None
unfolding count_in
none_paid other ne = refl

-- stranger 0 may pay five frames
may_pay : (m : Stage) → StandsFirst m → StrangerMay 0 five m.plain
may_pay m stands = (
  omega arith,
  (
    stands.stranger,
    (
      stands.is_first,
      record {
        inside = omega (arith, m.plain.geometry.some_children);
        enough = stands.enough;
        paid = subst (λ p. NoneBut 0 p) (sym stands.idle) none_paid;
      },
    ),
  ),
)

-- Move 0, a load.
module _ (a b : Stage) (found : ℕ) (stands : StandsFirst a) (plays : PlaysOn false (LoadsIt (Tree 0) found) a b) where
  cues : First a plays.ready
  cues = first_cues a plays.ready stands (may_pay a stands) plays.met

  pays : (words_by plays.ready.plain ≡ five_paid a.plain) × (key_by plays.ready.plain ≡ key_by a.plain)
  pays = let p = they_pay a.plain cues.paid.plain cues.acts in (cues.words ∙ p.0, cues.key ∙ p.1)

  pub first_skipped : b.skipped ≡ 1
  first_skipped = plays.silent.2 ∙ cues.skipped

  pub first_words : words_by b.plain ≡ five_paid a.plain
  first_words =
      let whole = (plays.own.words tt).1 in
      let same : words_by b.plain ≡ words_by plays.ready.plain = cc in
      same ∙ pays.0

  within : tree_place (key_by a.plain) 0 < length (words_by a.plain)
  unfolding tree_place word_count
  within = omega (arith, a.plain.length, a.plain.geometry.some_children)

  pub first_found : found ≡ five_less (first_tree_word a.plain)
  first_found =
      sym (plays.own.words tt).0
      ∙ (λ i. slice_index (pays.0 i) (tree_place (pays.1 i) 0))
      ∙ get_or-set_same (words_by a.plain) (tree_place (key_by a.plain) 0) (five_less (first_tree_word a.plain)) 0 within

  pub first_stop : (image : Contents) × ((stop_in b ≡ Some image) × (image.words ≡ words_by a.plain))
  first_stop =
      let has : b.has_stopped ≡ true = plays.silent.3 ∙ cues.has_stopped in
      (b.stop, (rw has refl, ap (λ i. i.words) plays.silent.4 ∙ cues.stop))

-- Move 1, an exchange that is lost.
record Second (a r : Stage) : Type 0 where
  skipped : r.skipped ≡ a.skipped
  has_stopped : r.has_stopped ≡ a.has_stopped
  stop : r.stop ≡ a.stop
  plain : r.plain ≡ a.plain

past_cue : (cue : Cue) (a b : Stage) → Meets cue true a b → at_by a ≡ 1 → cue.at ≡ 0 → b ≡ a
past_cue cue a b met at past = met.passed (λ e. absurd (omega (arith, e, at, past)))

second_cues : (a r : Stage) → StandsSecond a → MeetsFirst a.cues.items true (length a.cues.items) a r → Second a r
second_cues a r stands all =
    let met : MeetsFirst worked_script true 4 a r =
    subst (λ (l : List Cue). MeetsFirst l true (length l) a r) stands.script all in
    let m3 = met.1.0 in
    let m2 = m3.1.0 in
    let m1 = m2.1.0 in
    let e0 : m1.0 ≡ a = m1.1.0 in
    let s0 = met_at 0 (record { at = 0; what = Stop }) true m1.0 m2.0 refl m1.1.1 in
    let e1 : m2.0 ≡ a = past_cue _ m1.0 m2.0 s0 (ap at_by e0 ∙ stands.at) refl ∙ e0 in
    let s1 = met_at 1 (record { at = 0; what = Stranger 0 five }) true m2.0 m3.0 refl m2.1.1 in
    let e2 : m3.0 ≡ a = past_cue _ m2.0 m3.0 s1 (ap at_by e1 ∙ stands.at) refl ∙ e1 in
    let s2 = met_at 2 (record { at = 0; what = Stranger 8 five }) true m3.0 met.0 refl m3.1.1 in
    let e3 : met.0 ≡ a = past_cue _ m3.0 met.0 s2 (ap at_by e2 ∙ stands.at) refl ∙ e2 in
    let s3 = subst (λ (m : Stage). Meets (record { at = 1; what = Lose }) true m r) e3
    (met_at 3 (record { at = 1; what = Lose }) true met.0 r refl met.1.1) in
    let h = s3.here (sym stands.at) in
    let goes = h.goes_on (λ e. absurd (cc)) in
    record { skipped = h.counts; has_stopped = goes.has_stopped; stop = goes.stop; plain = h.loses refl }

module _ (a b : Stage) (stands : StandsSecond a) (plays : PlaysOn true Loses a b) where
  left : Second a plays.ready
  left = second_cues a plays.ready stands plays.met

  pub second_skipped : b.skipped ≡ a.skipped
  second_skipped = plays.silent.2 ∙ left.skipped

  pub second_words : words_by b.plain ≡ words_by a.plain
  second_words = ap (λ v. v.items) plays.own.words ∙ ap words_by left.plain

  pub second_stop : stop_in b ≡ stop_in a
  second_stop = λ i. stop_of ((plays.silent.3 ∙ left.has_stopped) i) ((plays.silent.4 ∙ left.stop) i)
    where
      stop_of : Bool → Contents → Option Contents
      stop_of has stop = if has then Some stop else None
