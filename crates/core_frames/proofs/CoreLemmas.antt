-- Cores, by what holds of their seats.
use Rattle.std.proofs.Common.{◌≡◌, ◌<◌, List, length, get_or, map, ap, sym, subst, arith, ◌∙◌}
use Rattle.std.specs.List.{All}
use Rattle.std.proofs.lemmas.List.{get_or-map, length-map}
use Rattle.frame_model.specs.declared.key.Key.{Key}
use Rattle.frame_model.specs.declared.view.View.{View}
use Rattle.frame_model.specs.View.{IsIdle}
use Rattle.frame_table.specs.Seats.{view_of}
use Rattle.frame_table.specs.Openings.{IsNew, IsOpenedAt}
use Rattle.frame_table.specs.declared.seats.CoreSeat.{CoreSeat}
use Rattle.frame_table.specs.declared.table.FrameTable.{FrameTable}
use Rattle.core_frames.specs.declared.shared.allocator.Allocator.{Allocator}
use Rattle.core_frames.specs.declared.shared.allocator.Core.{Core}
use Rattle.core_frames.specs.Cores.{memory_of, seat_of, IsNewCore, AreNumbered, IsOpened}

idle_new : (t : FrameTable) (s : CoreSeat) → IsNew t s → IsIdle (view_of s)
idle_new t s n = record {
  share = n.sits.some;
  paid = ap (λ (v : View). v.paid) n.view;
  charged = ap (λ (v : View). v.charged) n.view;
  reserving = ap (λ (v : View). v.reserving) n.view;
  own = ap (λ (v : View). v.own) n.view;
}

new_core : (a : Allocator) (c : Core) → IsNew a.table c.seat → c.habit.core < (memory_of a).cores
    → IsNewCore a c
new_core a c n inside = record {
  is_core = record {
    seat = record { sits = n.sits; idle = idle_new a.table c.seat n };
    number = inside;
  };
  lent = ap (λ (v : View). v.lent) n.view;
  kept = ap (λ (v : View). v.kept) n.view;
  sure = λ one. (ap (λ (v : View). v.share) n.view ∙ sym one, n.knows one);
}

-- what holds of all seats holds of the seat of each core
seats_all : (P : CoreSeat → Type 0) (cores : List Core) (seats : List CoreSeat)
    → map seat_of cores ≡ seats → All P seats → All (λ (c : Core). P c.seat) cores
seats_all P cores seats e all k d h =
    subst P (get_or-map seat_of cores k d (seat_of d) h)
    (subst (λ (l : List CoreSeat). P (get_or l k (seat_of d))) (sym e)
    (all k (seat_of d) (omega (arith, h, ap length e, length-map cores seat_of))))

-- an allocator over a table that was opened, with a core for each seat, in order
pub opened_with : (key : Key) (a : Allocator) (cores : List Core) (seats : List CoreSeat)
    → IsOpenedAt key a.table seats → map seat_of cores ≡ seats → AreNumbered cores → IsOpened key a cores
opened_with key a cores seats o e numbers =
    let count : length cores ≡ key.cores =
    omega (arith, length-map cores seat_of, ap length e, o.count) in
    record {
      memory = o.memory;
      is_key = o.is_key;
      count = count;
      each = λ k d h. new_core a (get_or cores k d) (seats_all (IsNew a.table) cores seats e o.each k d h)
          (omega (arith, numbers k d h, h, count, ap (λ (i : Key). i.cores) o.memory));
      numbers = numbers;
    }
