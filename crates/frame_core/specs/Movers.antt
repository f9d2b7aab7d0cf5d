-- What the laws of movers rest on: sizes of a geometry are lawful, and no view fills without a block.
use Rattle.std.specs.Prelude.{◌≡◌, ℕ, ◌/◌, ◌<◌, ◌≤◌, List, [], ◌∷◌}
use Rattle.std.proofs.Common.{refl, arith, eq-eqb}
use Rattle.std.proofs.Math.Logic.{∥∥₁_elim}
use Rattle.std.proofs.Math.Bridge.{le_prop}
use Rattle.frame_words.specs.Runs.{child_words}
use Rattle.frame_words.specs.declared.geometry.Geometry.{Geometry}
use Rattle.frame_model.specs.declared.block.FrameBlock.{FrameBlock}
use Rattle.frame_model.specs.declared.key.Key.{Key}
use Rattle.frame_model.specs.declared.view.View.{View}
use Rattle.frame_model.specs.Key.{AreSizes}
use Rattle.frame_model.specs.Block.{wholes}
use Rattle.frame_model.specs.View.{names, IsViewOf}
use Rattle.frame_core.specs.Moves.{HasSizes}

-- a key of the sizes of a geometry has lawful sizes
pub sizes_of : (key : Key) (g : Geometry) → HasSizes key g → AreSizes key
sizes_of key g same = record {
  some_children = omega (arith, g.some_children, same.0);
  few_children = omega (arith, g.few_children, same.0);
  some_cores = omega (arith, g.some_cores, same.1);
  few_cores = omega (arith, g.few_cores, same.1);
  last_child = omega (arith, g.last_child_begun, same.0, same.2);
  inside = omega (arith, g.frames_in_children, same.0, same.2);
}

names_itself : (n : ℕ) (ns : List ℕ) → names n (n ∷ ns) ≡ 1
unfolding names
names_itself n ns = let e = eq-eqb n n refl in rw e refl

none_named : (ns : List ℕ) → ((n : ℕ) → 0 < names n ns → 1 ≤ 0) → ns ≡ []
none_named [] h = refl
none_named (n ∷ ns) h =
    let some : 0 < names n (n ∷ ns) = omega (arith, names_itself n ns) in
    absurd (omega (arith, h n some))

no_whole : (child : ℕ) (bs : List FrameBlock) → bs ≡ [] → wholes child bs ≡ 0
unfolding wholes
no_whole child bs e = rw e refl

own_none : (key : Key) (v : View) → IsViewOf key v → v.own ≡ []
    → (n : ℕ) → 0 < names n v.filled → 1 ≤ 0
own_none key v is own n some =
    omega (arith, (is.filled n some).own, no_whole (n / child_words) v.own own)

-- a view with no block in flight has filled no word
pub fills_none : (key : Key) (v : View) → ∥ IsViewOf key v ∥₁ → v.own ≡ [] → v.filled ≡ []
fills_none key v is own = none_named v.filled (λ n some.
    ∥∥₁_elim is le_prop (λ (i : IsViewOf key v). own_none key v i own n some))
