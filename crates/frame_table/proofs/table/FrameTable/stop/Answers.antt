use Rattle.std.proofs.Common.{◌≡◌, List, map, ap, refl, sym, subst, ◌∙◌, rules}
use Rattle.std.specs.List.{All}
use mathlib.Core.Option.{some}
use lib.ListN.{get_elem?}
use Rattle.atomic_table.proofs.Lists.{at_map}
use Rattle.frame_table.specs.declared.rule.Watch.{Watch}
use Rattle.frame_model.specs.declared.view.View.{View}
use Rattle.frame_model.specs.Fit.{Fit}
use Rattle.frame_core.specs.Image.{Contents, IsImage}
use Rattle.frame_model.specs.Key.{key_of}
use Rattle.frame_model.specs.Laws.{holding_of}
use Rattle.frame_core.specs.Moves.{HasSizes}
use Rattle.frame_model.proofs.Steps.SeatViews.{blocks_are}
use Rattle.frame_table.specs.Closing.{IsHeldIn}
use Rattle.frame_table.specs.Rule.{eye_view, eye_in}
use Rattle.frame_table.proofs.Gathering.{views_same}
use Rattle.frame_table.specs.Seats.{key_at}
use Rattle.frame_table.specs.Stopping.{HoldsFramesOf, HoldsBootFrames}
use Rattle.frame_table.proofs.Imaged.{image_at}
use Rattle.frame_table.proofs.Kept.{held_with, apart_kept}
use Rattle.frame_table.proofs.Left.{left_once_rebuilt}
use Rattle.frame_table.proofs.Stopped.{stopped_holds, stopped_boot}
use Rattle.frame_table.proofs.table.FrameTable.stop.Goals as goal

pub of_words-requires : goal.of_words-requires
of_words-requires c =
    let t = c.args.self in
    let final = c.close_with.ensures.values.2 in
    subst (IsImage (key_of t.geometry)) (final.2 ∙ sym c.read_words-words.ensures)
    (image_at (key_at t) t.geometry (key_at t).cores final.0.words (map eye_view final.0.views) t.sizes final.1.0.fits)

pub returns : goal.returns
returns c =
    let t = c.args.self in
    let key = key_at t in
    let last = c.args.seat.seat in
    let e : Watch = last.me.0 in
    let final = c.close_with.ensures.values.2 in
    let s = final.0 in
    let vs : List View = map eye_view s.views in
    let fit : Fit key key.cores s.words vs = final.1.0.fits in
    let at : get_elem? vs last.id ≡ some e.view = at_map eye_view s.views last.id e final.1.1 in
    let words = final.2 ∙ sym c.read_words-words.ensures
    ∙ sym (ap (λ (i : Contents). i.words) c.of_words.ensures) in
    record {
      sizes = subst (HasSizes key) (sym (ap (λ (i : Contents). i.geometry) c.of_words.ensures)) t.sizes;
      is_image = search rules;
      state = record { words = s.words; eyes = map eye_in s.views };
      words = words;
      fits = subst (Fit key key.cores s.words) (sym (views_same s.views)) fit;
      id = last.id;
      eye = eye_in e;
      at = at_map eye_in s.views last.id e final.1.1;
      seat = refl;
      kept_held = subst (λ us. All (IsHeldIn key us) e.view.kept) words
          (held_with key s.words vs last.id e.view fit at e.view.kept (λ x. refl) (λ x. refl)
          (blocks_are key e.view c.requires.seat.at.is_view).1);
      kept_apart = apart_kept key key.cores s.words vs last.id e.view fit at;
      kept_left = left_once_rebuilt key s.words vs last.id e.view fit at c.requires.seat.not_ground c.of_words.result
          (subst (HasSizes key) (sym (ap (λ (i : Contents). i.geometry) c.of_words.ensures)) t.sizes) words e.view.kept
          (λ x. refl) (λ x. refl) (blocks_are key e.view c.requires.seat.at.is_view).1;
      held = subst (λ ws. HoldsFramesOf key c.of_words.result.words (holding_of key ws)) (sym (views_same s.views))
          (subst (λ us. HoldsFramesOf key us (holding_of key vs)) words (stopped_holds key key.cores s.words vs fit));
      boot = λ sealed. subst (HoldsBootFrames key) words (stopped_boot key key.cores s.words vs fit sealed);
    }
