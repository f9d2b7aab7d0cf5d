-- Zones are stopped, one after another, the last first.
use Rattle.std.proofs.Common.{◌≡◌, ℕ, ◌+◌, ◌-◌, ◌<◌, List, [], ◌∷◌, ◌++◌, length, reverse, slice_index_or, sym, ◌∙◌, ap, subst, arith, inl, inr}
use Rattle.std.specs.declared.alloc.Global.{Global}
use Rattle.std.specs.declared.vec.Vec.{Vec}
use Rattle.std.proofs.lemmas.Bool.{cases_lt}
use Rattle.std.proofs.lemmas.List.{get_or_append_left, get_or_push, get_or_default, length_push, length-reverse, get_or-reverse}
use Rattle.frame_table.specs.Stopping.{IsRoomFor, IsImageAtStop}
use Rattle.core_frames.specs.declared.shared.allocator.Allocator.{Allocator}
use Rattle.core_frames.specs.declared.shared.allocator.Core.{Core}
use Rattle.core_frames.specs.Cores.{memory_of, seat_of, IsCoreOf}
use Rattle.frame_zones.specs.Stops.{HaveRoomIn, IsZoneStopped, AreStopped}
use Rattle.frame_zones.specs.Zones.{zone_count, zone_at, core_at, AreCoresOf}
use Rattle.frame_zones.specs.declared.image.ZoneImage.{ZoneImage}
use Rattle.frame_zones.specs.declared.zones.Zones.{Zones}
use Rattle.frame_zones.specs.declared.zones.ZoneCore.{ZoneCore}

-- so many zones have room, and one more
pub room_one : (zones : List Allocator) (lists : List (Vec ℕ Global)) (i : ℕ) (a : Allocator) (list : Vec ℕ Global)
    → length lists ≡ i → i < length zones → a ≡ slice_index_or zones i a → IsRoomFor (memory_of a) list
    → ((z : ℕ) (b : Allocator) (d : Vec ℕ Global) → z < i → IsRoomFor (memory_of (slice_index_or zones z b)) (slice_index_or lists z d))
    → (z : ℕ) (b : Allocator) (d : Vec ℕ Global) → z < i + 1
    → IsRoomFor (memory_of (slice_index_or zones z b)) (slice_index_or (lists ++ list ∷ []) z d)
room_one zones lists i a list count within is room before z b d below =
    elim (cases_lt z i) as (λ _. IsRoomFor (memory_of (slice_index_or zones z b)) (slice_index_or (lists ++ list ∷ []) z d)) [
      | inl less ↦ subst (λ (v : Vec ℕ Global). IsRoomFor (memory_of (slice_index_or zones z b)) v)
          (sym (get_or_append_left lists (list ∷ []) d z (subst (λ n. z < n) (sym count) less))) (before z b d less)
      | inr past ↦
          let here : i ≡ z = omega (arith, past, below) in
          subst (λ (v : Vec ℕ Global). IsRoomFor (memory_of (slice_index_or zones z b)) v)
          (sym (get_or_push lists list d z (count ∙ here)))
          (subst (λ (e : Allocator). IsRoomFor (memory_of e) list)
          (is ∙ get_or_default zones i a b within ∙ ap (λ n. slice_index_or zones n b) here) room)
    ]

-- the first ones of a list
pub record IsFront {X : Type 0} (n : ℕ) (xs all : List X) : Type 0 where
  pub count : length xs ≡ n
  pub same : (k : ℕ) (d : X) → k < n → slice_index_or xs k d ≡ slice_index_or all k d

-- without the last of them
pub less_front : {X : Type 0} (n m : ℕ) (xs ys all : List X) (y : X) → IsFront n xs all → n ≡ m + 1
    → xs ≡ ys ++ y ∷ [] → IsFront m ys all
less_front {X} n m xs ys all y was one is =
    let count : length ys ≡ m = omega (arith, ap length is, length_push ys y, was.count, one) in
    record {
      count = count;
      same = λ k d within.
          sym (ap (λ (l : List X). slice_index_or l k d) is
          ∙ get_or_append_left ys (y ∷ []) d k (subst (λ j. k < j) (sym count) within))
          ∙ was.same k d (omega (arith, within, one));
    }

-- the last of them
pub last_of_front : {X : Type 0} (n m : ℕ) (xs ys all : List X) (y d : X) → IsFront n xs all → n ≡ m + 1
    → xs ≡ ys ++ y ∷ [] → y ≡ slice_index_or all m d
last_of_front {X} n m xs ys all y d was one is =
    let count : length ys ≡ m = omega (arith, ap length is, length_push ys y, was.count, one) in
    sym (ap (λ (l : List X). slice_index_or l m d) is ∙ get_or_push ys y d m count)
    ∙ was.same m d (omega (arith, one))

-- so many zones are left, and the images are those of the others, the last first
pub record IsStopping (zs : Zones) (c : ZoneCore) (all : List (Vec ℕ Global)) (zones : List Allocator)
    (firsts : List ℕ) (cores : List Core) (words : List (Vec ℕ Global)) (images : List ZoneImage) : Type 0 where
  pub count : length zones + length images ≡ zone_count zs
  pub zones_left : IsFront (length zones) zones zs.zones.items
  pub firsts_left : IsFront (length zones) firsts zs.firsts.items
  pub cores_left : IsFront (length zones) cores c.cores.items
  pub words_left : IsFront (length zones) words all
  pub each : (z k : ℕ) (d : ZoneImage) → z + k + 1 ≡ zone_count zs → k < length images
      → IsZoneStopped zs c z (slice_index_or images k d)

-- the last core of those that are left belongs to the last zone, and there is room for its words
pub core_of_last : (zs : Zones) (c : ZoneCore) (all : List (Vec ℕ Global)) (zones us : List Allocator)
    (firsts : List ℕ) (cores ps : List Core) (words : List (Vec ℕ Global)) (images : List ZoneImage) (a : Allocator) (p : Core)
    → AreCoresOf zs c → IsStopping zs c all zones firsts cores words images → zones ≡ us ++ a ∷ [] → cores ≡ ps ++ p ∷ []
    → IsCoreOf a p
core_of_last zs c all zones us firsts cores ps words images a p are was is p-is =
    let one : length zones ≡ length us + 1 = ap length is ∙ length_push us a in
    subst (λ (e : Allocator). IsCoreOf e p) (sym (last_of_front _ (length us) zones us zs.zones.items a a was.zones_left one is))
    (subst (λ (y : Core). IsCoreOf (zone_at zs (length us) a) y)
    (sym (last_of_front _ (length us) cores ps c.cores.items p p was.cores_left one p-is))
    (are.parts.each (length us) a p (omega (arith, one, was.count))))

pub room_of_last : (zs : Zones) (c : ZoneCore) (all : List (Vec ℕ Global)) (zones us : List Allocator)
    (firsts : List ℕ) (cores : List Core) (words ws : List (Vec ℕ Global)) (images : List ZoneImage) (a : Allocator) (w : Vec ℕ Global)
    → HaveRoomIn zs.zones.items all → IsStopping zs c all zones firsts cores words images → zones ≡ us ++ a ∷ [] → words ≡ ws ++ w ∷ []
    → IsRoomFor (memory_of a) w
room_of_last zs c all zones us firsts cores words ws images a w room was is w-is =
    let one : length zones ≡ length us + 1 = ap length is ∙ length_push us a in
    subst (λ (e : Allocator). IsRoomFor (memory_of e) w) (sym (last_of_front _ (length us) zones us zs.zones.items a a was.zones_left one is))
    (subst (λ (v : Vec ℕ Global). IsRoomFor (memory_of (zone_at zs (length us) a)) v)
    (sym (last_of_front _ (length us) words ws all w w was.words_left one w-is))
    (room.each (length us) a w (omega (arith, one, was.count))))

pub stopping_one : (zs : Zones) (c : ZoneCore) (all : List (Vec ℕ Global)) (zones us : List Allocator)
    (firsts gs : List ℕ) (cores ps : List Core) (words ws : List (Vec ℕ Global)) (images : List ZoneImage)
    (a : Allocator) (p : Core) (w : Vec ℕ Global) (i : ZoneImage)
    → IsStopping zs c all zones firsts cores words images → zones ≡ us ++ a ∷ [] → firsts ≡ gs ++ i.first ∷ []
    → cores ≡ ps ++ p ∷ [] → words ≡ ws ++ w ∷ [] → IsImageAtStop (memory_of a) (seat_of p) i.image
    → IsStopping zs c all us gs ps ws (images ++ i ∷ [])
stopping_one zs c all zones us firsts gs cores ps words ws images a p w i was is f-is p-is w-is stopped =
    let n : ℕ = length us in
    let one : length zones ≡ n + 1 = ap length is ∙ length_push us a in
    record {
      count = omega (arith, was.count, one, length_push images i);
      zones_left = less_front _ n zones us zs.zones.items a was.zones_left one is;
      firsts_left = less_front _ n firsts gs zs.firsts.items i.first was.firsts_left one f-is;
      cores_left = less_front _ n cores ps c.cores.items p was.cores_left one p-is;
      words_left = less_front _ n words ws all w was.words_left one w-is;
      each = λ z k d at within.
          elim (cases_lt k (length images)) as (λ _. IsZoneStopped zs c z (slice_index_or (images ++ i ∷ []) k d)) [
            | inl below ↦ subst (λ (j : ZoneImage). IsZoneStopped zs c z j) (sym (get_or_append_left images (i ∷ []) d k below))
                (was.each z k d at below)
            | inr past ↦
                let here : length images ≡ k = omega (arith, past, within, length_push images i) in
                let same : n ≡ z = omega (arith, at, here, was.count, one) in
                subst (λ (j : ZoneImage). IsZoneStopped zs c z j) (sym (get_or_push images i d k here))
                (subst (λ y. IsZoneStopped zs c y i) same
                (record {
                  first_frame = last_of_front _ n firsts gs zs.firsts.items i.first 0 was.firsts_left one f-is;
                  stopped = λ b x.
                      subst (λ (e : Allocator). IsImageAtStop (memory_of e) (seat_of (core_at c n x)) i.image)
                      (last_of_front _ n zones us zs.zones.items a b was.zones_left one is)
                      (subst (λ (y : Core). IsImageAtStop (memory_of a) (seat_of y) i.image)
                      (last_of_front _ n cores ps c.cores.items p x was.cores_left one p-is) stopped);
                }))
          ];
    }

-- in the order of the zones
pub stopping_all : (zs : Zones) (c : ZoneCore) (all : List (Vec ℕ Global)) (zones : List Allocator) (firsts : List ℕ)
    (cores : List Core) (words : List (Vec ℕ Global)) (images : List ZoneImage)
    → IsStopping zs c all zones firsts cores words images → length zones ≡ 0 → AreStopped zs c (reverse images)
stopping_all zs c all zones firsts cores words images was none =
    let count : length images ≡ zone_count zs = omega (arith, was.count, none) in
    record {
      count = length-reverse images ∙ count;
      each = λ z d within.
          let here : z < length images = subst (λ m. z < m) (sym count) within in
          subst (λ (j : ZoneImage). IsZoneStopped zs c z j) (sym (get_or-reverse images z d here))
          (was.each z (length images - 1 - z) d (omega (arith, here, count)) (omega (arith, here)));
    }
