use Rattle.std.proofs.Common.{◌≡◌, Some, subst, refl}
use Rattle.std.specs.Prelude.{slice_get, slice_index}
use Rattle.frame_core.specs.Moves.{place_of, HasLayout}
use Rattle.plain_moves.specs.PlainState.{key_by, view_by}
use Rattle.plain_moves.proofs.PlainSteps.{keeps_plain, apart_known, loaded, layout_known}
use Rattle.plain_moves.proofs.plain.moves.PlainMovesMoves.load.Goals as goal

pub invariant_of-self-clause-agrees : goal.invariant_of-self-clause-agrees
invariant_of-self-clause-agrees c =
    let m = c.args.self.now in
    let key = key_by m in
    let ws = m.words.items in
    let v = view_by m in
    loaded key ws m.outs.items v c.saturating_add-self.result m.agrees refl

pub returns : goal.returns
returns c =
    let m = c.args.self.now in
    let key = key_by m in
    let ws = m.words.items in
    let v = view_by m in
    let value : slice_index ws (place_of key c.args.place) ≡ c.plain_word.result = search (c.plain_word.ensures.value m.sealed) in
    let found : slice_get ws (place_of key c.args.place) ≡ Some c.plain_word.result = search (c.plain_word.ensures.found m.sealed) in
    record {
      keeps = keeps_plain key ws ws m.outs.items v _;
      missed = refl;
      view = λ i. record v { moves = c.saturating_add-self.ensures i };
      layout = subst (HasLayout key c.args.place) value
          (layout_known key ws m.outs.items v m.agrees c.args.place c.requires.inside);
      here = found;
      reads = λ i n. refl;
      words = λ u. (value, refl);
      apart = apart_known key ws m.outs.items _ (loaded key ws m.outs.items v c.saturating_add-self.result m.agrees refl);
    }
