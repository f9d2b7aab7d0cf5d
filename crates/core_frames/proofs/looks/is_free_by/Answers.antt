use Rattle.std.proofs.Common.{◌≡◌, ◌+◌, ◌-◌, ◌*◌, ◌/◌, ◌^◌, ◌<◌, ◌≤◌, ap, subst, ◌∙◌, arith}
use Rattle.std.proofs.lemmas.Nat.{pow_pos}
use Rattle.std.specs.Prelude.{MatchBool}
use Rattle.frame_words.specs.Words.{flag_in}
use Rattle.frame_model.specs.declared.key.Key.{Key}
use Rattle.frame_model.specs.Block.{block}
use Rattle.low_frames.proofs.TakeLemmas.{keeps_both}
use Rattle.core_frames.specs.Looks.{AreReadClear}
use Rattle.core_frames.specs.Places.{LiesWithin, HasSuchBlock}
use Rattle.core_frames.proofs.LookLemmas.{loaded_one, loaded_both, loaded_first, loaded_then, loaded_within, look_whole, look_part, words_in_group}
use Rattle.core_frames.proofs.LookLemmas.{whole_looked, flag_looked, run_looked, words_looked, whole_read, flag_read, bits_read, read_as_block}
use Rattle.core_frames.proofs.looks.is_free_by.Goals as goal

pub returns-then-order-eq-HUGE_ORDER : goal.returns-then-order-eq-HUGE_ORDER
returns-then-order-eq-HUGE_ORDER g c =
    let M = g.M.Moves in
    let m = M.at c.args.m.now in
    let u = M.at c.load.new.self in
    let load = c.load.ensures in
    let has : HasSuchBlock m.key (block c.args.frame c.args.order) =
    subst (λ f. LiesWithin f (block c.args.frame c.args.order)) (c.frames.ensures.value ∙ c.geometry.ensures.2) c.if-not-lies_within.ensures in
    record {
      keeps = load.keeps;
      missed = load.missed;
      view = loaded_within M.tick 1 _ m.view u.view (look_whole c.args.order c.if-order-eq-HUGE_ORDER.true)
          (loaded_one M.tick m.view u.view load.view);
      loaded = λ _. loaded_first M.tick m.view u.view load.view;
      no_place = λ no. absurd (no has);
      has = λ e. has;
      seen = whole_read m.key u.read c.args.frame c.args.order c.child_of-child.result c.load.result c.lane-entry.result
          c.child_of-child.ensures c.lane-entry.ensures.value load.here c.if-order-eq-HUGE_ORDER.true;
      alone = λ h.
          whole_looked m.is_alone m.key m.view m.words (g.met.M.Moves.fits c.args.m.now) h c.requires (g.met.M.Moves.sizes c.args.m.now)
          c.args.frame c.args.order c.child_of-child.result c.load.result c.lane-entry.result has c.child_of-child.ensures
          c.lane-entry.ensures.value u.words (load.words (g.met.M.Moves.stays_alone c.args.m.now h)) c.if-order-eq-HUGE_ORDER.true;
    }

pub returns-then-entry_huge : goal.returns-then-entry_huge
returns-then-entry_huge g c =
    let M = g.M.Moves in
    let m = M.at c.args.m.now in
    let u = M.at c.load.new.self in
    let load = c.load.ensures in
    let has : HasSuchBlock m.key (block c.args.frame c.args.order) =
    subst (λ f. LiesWithin f (block c.args.frame c.args.order)) (c.frames.ensures.value ∙ c.geometry.ensures.2) c.if-not-lies_within.ensures in
    let flag : 0 < flag_in c.lane-entry.result = omega (arith, c.if-entry_huge.ensures.value c.lane-entry.ensures.below) in
    record {
      keeps = load.keeps;
      missed = load.missed;
      view = loaded_within M.tick 1 _ m.view u.view (look_part c.args.order 0 c.if-order-eq-HUGE_ORDER.false (omega arith))
          (loaded_one M.tick m.view u.view load.view);
      loaded = λ _. loaded_first M.tick m.view u.view load.view;
      no_place = λ no. absurd (no has);
      has = λ e. has;
      seen = λ _. flag_read m.key u.read c.args.frame c.args.order c.child_of-child.result c.load.result c.lane-entry.result
          c.child_of-child.ensures c.lane-entry.ensures.value load.here flag;
      alone = λ h.
          flag_looked m.is_alone m.key m.view m.words (g.met.M.Moves.fits c.args.m.now) h c.requires (g.met.M.Moves.sizes c.args.m.now)
          c.args.frame c.args.order c.child_of-child.result c.load.result c.lane-entry.result has c.child_of-child.ensures
          c.lane-entry.ensures.value u.words (load.words (g.met.M.Moves.stays_alone c.args.m.now h)) flag;
    }

pub returns-then-order-gt-WORD_ORDER : goal.returns-then-order-gt-WORD_ORDER
returns-then-order-gt-WORD_ORDER g c =
    let M = g.M.Moves in
    let m = M.at c.args.m.now in
    let u = M.at c.load.new.self in
    let n = M.at c.are_clear.new.m in
    let load = c.load.ensures in
    let saw = c.are_clear.ensures in
    let order = c.args.order in
    let size = c.frames_of.result in
    let has : HasSuchBlock m.key (block c.args.frame order) =
    subst (λ f. LiesWithin f (block c.args.frame c.args.order)) (c.frames.ensures.value ∙ c.geometry.ensures.2) c.if-not-lies_within.ensures in
    let wide : 7 ≤ order = omega (arith, c.if-order-gt-WORD_ORDER.true) in
    let few : order ≤ 8 = omega (arith, has.order, c.if-order-eq-HUGE_ORDER.false) in
    let inside : c.child_of-child.result < u.key.children =
    omega (
      arith,
      has.inside,
      c.child_of-child.ensures,
      (g.met.M.Moves.sizes c.args.m.now).inside,
      pow_pos order,
      ap (λ (k : Key). k.children) load.keeps.same_key,
    ) in
    let none : flag_in c.lane-entry.result ≡ 0 = omega (arith, c.if-entry_huge.ensures.value c.lane-entry.ensures.below) in
    record {
      keeps = keeps_both load.keeps saw.keeps;
      missed = saw.missed ∙ load.missed;
      view = loaded_within M.tick (1 + size / 64) _ m.view n.view
          (look_part order (size / 64) c.if-order-eq-HUGE_ORDER.false (words_in_group order size wide few c.frames_of.ensures.value))
          (loaded_both M.tick 1 (size / 64) m.view u.view n.view (loaded_one M.tick m.view u.view load.view) saw.view);
      loaded = λ _. loaded_then M.tick (size / 64) m.view u.view n.view load.view saw.view;
      no_place = λ no. absurd (no has);
      has = λ e. has;
      seen = bits_read m.key n.read c.args.frame order c.child_of-child.result c.load.result c.lane-entry.result
          c.child_of-child.ensures c.lane-entry.ensures.value (saw.entries c.child_of-child.result inside ∙ load.here) c.are_clear.result
          c.if-order-eq-HUGE_ORDER.false has.order none
          (read_as_block m.key n.read c.args.frame order size c.are_clear.result wide few c.frames_of.ensures.value has.aligned
          (subst (λ (k : Key). MatchBool c.are_clear.result
          (AreReadClear k n.read (64 * (c.args.frame / 64)) (64 * (size / 64)))
          (¬ AreReadClear k n.read (64 * (c.args.frame / 64)) (64 * (size / 64)))) load.keeps.same_key saw.seen));
      alone = λ h.
          words_looked m.is_alone m.key m.view m.words (g.met.M.Moves.fits c.args.m.now) h c.requires (g.met.M.Moves.sizes c.args.m.now)
          c.args.frame order c.child_of-child.result c.load.result c.lane-entry.result has c.child_of-child.ensures
          c.lane-entry.ensures.value u.words (load.words (g.met.M.Moves.stays_alone c.args.m.now h)) u.key c.are_clear.result size n.words
          load.keeps.same_key wide few c.frames_of.ensures.value none (saw.alone (load.keeps.stays_alone h));
    }

pub returns-else-order-gt-WORD_ORDER : goal.returns-else-order-gt-WORD_ORDER
returns-else-order-gt-WORD_ORDER g c =
    let M = g.M.Moves in
    let m = M.at c.args.m.now in
    let u = M.at c.load.new.self in
    let n = M.at c.is_clear.new.m in
    let load = c.load.ensures in
    let saw = c.is_clear.ensures in
    let order = c.args.order in
    let has : HasSuchBlock m.key (block c.args.frame order) =
    subst (λ f. LiesWithin f (block c.args.frame c.args.order)) (c.frames.ensures.value ∙ c.geometry.ensures.2) c.if-not-lies_within.ensures in
    let few : order ≤ 6 = omega (arith, c.if-order-gt-WORD_ORDER.false) in
    let inside : c.child_of-child.result < u.key.children =
    omega (
      arith,
      has.inside,
      c.child_of-child.ensures,
      (g.met.M.Moves.sizes c.args.m.now).inside,
      pow_pos order,
      ap (λ (k : Key). k.children) load.keeps.same_key,
    ) in
    let none : flag_in c.lane-entry.result ≡ 0 = omega (arith, c.if-entry_huge.ensures.value c.lane-entry.ensures.below) in
    record {
      keeps = keeps_both load.keeps saw.keeps;
      missed = saw.missed ∙ load.missed;
      view = loaded_within M.tick (1 + 1) _ m.view n.view (look_part order 1 c.if-order-eq-HUGE_ORDER.false (pow_pos (order - 6)))
          (loaded_both M.tick 1 1 m.view u.view n.view (loaded_one M.tick m.view u.view load.view) saw.view);
      loaded = λ _. loaded_then M.tick 1 m.view u.view n.view load.view saw.view;
      no_place = λ no. absurd (no has);
      has = λ e. has;
      seen = bits_read m.key n.read c.args.frame order c.child_of-child.result c.load.result c.lane-entry.result
          c.child_of-child.ensures c.lane-entry.ensures.value (saw.entries c.child_of-child.result inside ∙ load.here) c.is_clear.result
          c.if-order-eq-HUGE_ORDER.false has.order none
          (subst (λ (k : Key). MatchBool c.is_clear.result
          (AreReadClear k n.read c.args.frame (2 ^ order)) (¬ AreReadClear k n.read c.args.frame (2 ^ order))) load.keeps.same_key saw.seen);
      alone = λ h.
          run_looked m.is_alone m.key m.view m.words (g.met.M.Moves.fits c.args.m.now) h c.requires (g.met.M.Moves.sizes c.args.m.now)
          c.args.frame order c.child_of-child.result c.load.result c.lane-entry.result has c.child_of-child.ensures
          c.lane-entry.ensures.value u.words (load.words (g.met.M.Moves.stays_alone c.args.m.now h)) u.key c.is_clear.result n.words
          load.keeps.same_key few none (saw.alone (load.keeps.stays_alone h));
    }
