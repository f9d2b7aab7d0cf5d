-- What ties a mover to its seat and its table, and its laws.
use Rattle.std.proofs.Common.{◌≡◌, ℕ, [], arith, refl}
use Rattle.atomic_table.specs.Seated.{TableId}
use Rattle.frame_model.specs.Key.{AreSizes}
use Rattle.frame_model.specs.Steps.{next}
use Rattle.frame_core.specs.Mover.{Ticks}
use Rattle.frame_core.specs.Movers.{sizes_of, fills_none}
use Rattle.frame_table.specs.Seats.{key_at, view_of, Sits}
use Rattle.frame_table.specs.declared.seats.CoreSeat.{CoreSeat}
use Rattle.frame_table.specs.declared.table.FrameTable.{FrameTable}

-- the name of the seat that steps, and the table
abbrev pub Tied : Type 0
Tied = ℕ × TableId

-- no count stops
abbrev pub is_exact : ℕ → Type 0
is_exact n = Unit {0}

pub next_ticks : Ticks next is_exact
next_ticks = record {
  most = λ n. omega arith;
  up = λ n h. refl;
  below = λ m n le h. tt;
  early = λ n h. tt;
}

-- the sizes of a table are those of its geometry
pub table_sizes : (t : FrameTable) → AreSizes (key_at t)
table_sizes t = sizes_of (key_at t) t.geometry t.sizes

-- with no block in flight the seat of a core has filled no word
pub seat_fills : (t : FrameTable) (s : CoreSeat) → Sits t s
    → (view_of s).own ≡ [] → (view_of s).filled ≡ []
seat_fills t s sits own = fills_none (key_at t) (view_of s) sits.at.is_view own
