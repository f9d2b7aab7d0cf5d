use Rattle.std.proofs.Common.{ℕ, ◌≤◌, List, length, map, ap, sym, subst, ◌∙◌, arith, rules}
use Rattle.std.specs.Slots.{slots_items}
use Rattle.std.proofs.lemmas.List.{length-map}
use Rattle.std.proofs.lemmas.List.Elements.{All-map}
use Rattle.frame_core.specs.Image.{Contents}
use Rattle.frame_model.specs.Laws.{AddsUp, HoldsJust}
use Rattle.frame_core.specs.Moves.{HasSizes}
use Rattle.frame_table.specs.Seats.{key_at, IsIdleSeat}
use Rattle.std.specs.List.{All}
use Rattle.atomic_table.proofs.Lists.{at_map}
use Rattle.frame_model.specs.declared.view.Eye.{Eye}
use Rattle.frame_model.specs.Events.{views_of}
use Rattle.frame_table.specs.declared.seats.CoreSeat.{CoreSeat}
use Rattle.frame_table.specs.declared.table.FrameTable.{FrameTable}
use Rattle.frame_table.specs.Closing.{share_through, kept_through, IsClosed}
use Rattle.frame_table.proofs.Gathering.{closed_as, some_each}
use Rattle.frame_table.proofs.Imaged.{closed_image}
use Rattle.frame_table.proofs.Left.{left_once_rebuilt}
use Rattle.frame_table.proofs.Kept.{kept_blocks, kept_held, kept_apart, just_kept}
use Rattle.frame_table.proofs.closings.close_table.Goals as goal

-- each seat has a share
all_shares : {S : Type 0} (seat_of : S → CoreSeat) (t : FrameTable) (xs : List S) → All (λ x. IsIdleSeat t (seat_of x)) xs
    → length (map seat_of xs) ≤ share_through (map seat_of xs)
all_shares seat_of t xs all =
    some_each (map seat_of xs) (λ k d h. (All-map (IsIdleSeat t) seat_of xs all k d h).sits.some)

pub of_words-requires : goal.of_words-requires
of_words-requires g c =
    let S = g.S.Seated in
    let t = c.args.table in
    let all = c.gather-all.result in
    let seats = map S.seat_of c.args.seats.items in
    let count = length-map c.args.seats.items S.seat_of in
    let enough : (key_at t).cores ≤ length seats = omega (arith, t.sizes.1, c.if-len-table.false, c.len.ensures, count) in
    closed_image (key_at t) t.geometry seats c.read_words-words.result.items t.sizes
    (subst (IsClosed (key_at t) seats) (sym c.read_words-words.ensures)
    (closed_as t.grid.shared.key all.id all.me.0 (slots_items c.close_with.result.words) (slots_items c.close_with.result.slots)
    seats c.close_with.ensures.values.2 c.gather-all.ensures.gathered (omega (arith, enough, all_shares g.S.Seated.seat_of t c.args.seats.items c.requires))))

pub returns-clause-ok : goal.returns-clause-ok
returns-clause-ok g c =
    let S = g.S.Seated in
    let t = c.args.table in
    let key = key_at t in
    let all = c.gather-all.result in
    let seats = map S.seat_of c.args.seats.items in
    let ws : List ℕ = c.of_words.result.words in
    let count = length-map c.args.seats.items S.seat_of in
    let enough : key.cores ≤ length seats = omega (arith, t.sizes.1, c.if-len-table.false, c.len.ensures, count) in
    let words = ap (λ (i : Contents). i.words) c.of_words.ensures ∙ c.read_words-words.ensures in
    let z : IsClosed key seats ws = subst (IsClosed key seats) (sym words)
    (closed_as t.grid.shared.key all.id all.me.0 (slots_items c.close_with.result.words) (slots_items c.close_with.result.slots)
    seats c.close_with.ensures.values.2 c.gather-all.ensures.gathered (omega (arith, enough, all_shares g.S.Seated.seat_of t c.args.seats.items c.requires))) in
    let law = c.every_closing_adds_up.ensures in
    let idle = z.gathered.idle in
    let blocks = kept_blocks t seats (All-map (IsIdleSeat t) S.seat_of c.args.seats.items c.requires) in
    let sizes = subst (HasSizes key) (sym (ap (λ (i : Contents). i.geometry) c.of_words.ensures)) t.sizes in
    record {
      sizes = sizes;
      is_image = search rules;
      enough = enough;
      closed = z;
      tells = record {
        adds_up = subst (AddsUp key) z.words (law.counters key key.cores z.state z.id z.eye z.fits z.at idle z.share);
        kept_held = kept_held key seats ws z blocks;
        kept_apart = kept_apart key seats ws z blocks;
        just_kept = λ sealed none. just_kept key seats ws z
            (subst (λ us. HoldsJust key us z.eye.view.kept) z.words
            (law.held key key.cores z.state z.id z.eye z.fits z.at idle z.share sealed (z.gathered.lent ∙ none)));
      };
      kept_left = left_once_rebuilt key z.state.words (views_of z.state) z.id z.eye.view z.fits
          (at_map (λ (e : Eye). e.view) z.state.eyes z.id z.eye z.at) z.gathered.not_ground c.of_words.result sizes z.words
          (kept_through seats) z.gathered.smalls z.gathered.wholes blocks;
    }
