use Rattle.std.proofs.Common.{◌<◌, ◌+◌, set, subst, refl, sym, arith, rules}
use Rattle.frame_model.specs.Block.{block}
use Rattle.frame_model.specs.Without.{without}
use Rattle.std.proofs.lemmas.Nat.{pow_pos}
use Rattle.std.proofs.Common.{length}
use Rattle.frame_model.specs.declared.view.View.{View}
use Rattle.frame_model.specs.Seats.{left_by, hand_out}
use Rattle.plain_moves.specs.Plain.{plain_tick}
use Rattle.plain_moves.proofs.PlainOwn.{few_own, low_own}
use Rattle.plain_moves.specs.Plain.{Agrees}
use Rattle.plain_moves.specs.PlainState.{key_by, view_by}
use Rattle.plain_moves.proofs.PlainOuts.{handed_out, byte_free, one_out, still_out, viewed_out}
use Rattle.plain_moves.proofs.plain.moves.PlainMovesMoves.hand_out.Goals as goal

pub leave-requires-clause-list : goal.leave-requires-clause-list
leave-requires-clause-list c =
    let m = c.args.self.now in
    let key = key_by m in
    let ws = m.words.items in
    let v = view_by m in
    let b = block c.args.frame c.args.order in
    let inside : c.args.frame < length m.outs.items =
    omega (arith, m.frames, m.outs.ok, c.requires.is_block.inside, pow_pos c.args.order) in
    let free = byte_free key ws m.outs.items v b (without b) m.agrees c.requires inside in
    let gone = handed_out key ws m.outs.items v b (without b) m.agrees refl c.requires inside in
    low_own key ws m.outs.items v m.geometry.few_children m.agrees

pub leave-requires-clause-room : goal.leave-requires-clause-room
leave-requires-clause-room c =
    let m = c.args.self.now in
    let key = key_by m in
    let ws = m.words.items in
    let v = view_by m in
    let b = block c.args.frame c.args.order in
    let inside : c.args.frame < length m.outs.items =
    omega (arith, m.frames, m.outs.ok, c.requires.is_block.inside, pow_pos c.args.order) in
    let free = byte_free key ws m.outs.items v b (without b) m.agrees c.requires inside in
    let gone = handed_out key ws m.outs.items v b (without b) m.agrees refl c.requires inside in
    omega (
      arith,
      few_own key ws m.outs.items v m.agrees c.requires.share,
      few_own key ws _ (left_by plain_tick (hand_out b (without b)) v) gone c.requires.share,
      m.room,
    )

pub invariant_of-self-clause-agrees : goal.invariant_of-self-clause-agrees
invariant_of-self-clause-agrees c =
    let m = c.args.self.now in
    let key = key_by m in
    let ws = m.words.items in
    let v = view_by m in
    let b = block c.args.frame c.args.order in
    let inside : c.args.frame < length m.outs.items =
    omega (arith, m.frames, m.outs.ok, c.requires.is_block.inside, pow_pos c.args.order) in
    let free = byte_free key ws m.outs.items v b (without b) m.agrees c.requires inside in
    let gone = handed_out key ws m.outs.items v b (without b) m.agrees refl c.requires inside in
    subst (λ (w : View). ∥ Agrees key m.them ws (set m.outs.items c.args.frame (c.args.order + 1)) w ∥₁)
    (viewed_out key _ _ _ _ _ _ _ _ _ _
    (one_out m.outs.items c.args.frame (c.args.order + 1) inside free (omega arith)) (sym c.leave.ensures.items)
    (sym c.saturating_add-self.ensures)) gone

pub returns : goal.returns
returns c =
    let m = c.args.self.now in
    let key = key_by m in
    let ws = m.words.items in
    let v = view_by m in
    let b = block c.args.frame c.args.order in
    let inside : c.args.frame < length m.outs.items =
    omega (arith, m.frames, m.outs.ok, c.requires.is_block.inside, pow_pos c.args.order) in
    let free = byte_free key ws m.outs.items v b (without b) m.agrees c.requires inside in
    let gone = handed_out key ws m.outs.items v b (without b) m.agrees refl c.requires inside in
    record {
      keeps = record {
        same_tie = refl;
        same_key = refl;
        stays_alone = λ a. a;
        stay_out = λ d out. still_out m.outs.items b free d out;
      };
      missed = refl;
      view = sym (viewed_out key _ _ _ _ _ _ _ _ _ _
          (one_out m.outs.items c.args.frame (c.args.order + 1) inside free (omega arith)) (sym c.leave.ensures.items)
          (sym c.saturating_add-self.ensures));
      is_block = search rules;
      is_out = search rules;
      reads = refl;
      words = λ u. refl;
      recalled = λ u. refl;
    }
