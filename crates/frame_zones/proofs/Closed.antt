-- Zones are closed, one after another, the last first.
use Rattle.std.proofs.Common.{◌≡◌, ℕ, ◌+◌, ◌-◌, ◌<◌, ◌≤◌, List, [], ◌∷◌, ◌++◌, length, map, reverse, slice_index_or, refl, sym, ◌∙◌, ap, subst, arith, inl, inr, suc}
use Rattle.std.specs.List.{All}
use Rattle.std.proofs.lemmas.Bool.{cases_lt}
use Rattle.std.proofs.lemmas.List.{get_or_append_left, get_or_push, length_push, length-reverse, get_or-reverse}
use Rattle.frame_table.specs.Closing.{IsClosingOf}
use Rattle.frame_table.specs.declared.seats.CoreSeat.{CoreSeat}
use Rattle.core_frames.specs.declared.shared.allocator.Allocator.{Allocator}
use Rattle.core_frames.specs.declared.shared.allocator.Core.{Core}
use Rattle.core_frames.specs.Cores.{memory_of, seat_of, IsCoreOf}
use Rattle.frame_zones.specs.Closing.{seats_in, IsZoneClosed, AreClosedFrom, HasSameParts, AreLeft, AreAllLeft, HasClosedLast}
use Rattle.frame_zones.specs.Openings.{IsLonger, AreDealt}
use Rattle.frame_zones.specs.Parting.{PartsOff}
use Rattle.frame_zones.specs.Zones.{zone_count, zone_at, core_at, HasCoresIn}
use Rattle.frame_zones.specs.declared.image.ZoneImage.{ZoneImage}
use Rattle.frame_zones.specs.declared.zones.Zones.{Zones}
use Rattle.frame_zones.specs.declared.zones.ZoneCore.{ZoneCore}
use Rattle.frame_zones.proofs.Parted.{some_of}

-- cores with the same parts in a zone step through the same there
same_seats : (z : ℕ) (x : Core) (cores left : List ZoneCore) → length left ≡ length cores
    → ((k : ℕ) (c : ZoneCore) → k < length cores → core_at (slice_index_or left k c) z x ≡ core_at (slice_index_or cores k c) z x)
    → seats_in z x left ≡ seats_in z x cores
same_seats z x [] [] count each = refl
same_seats z x [] (d ∷ left) count each = absurd (omega (arith, count))
same_seats z x (c ∷ cores) [] count each = absurd (omega (arith, count))
same_seats z x (c ∷ cores) (d ∷ left) count each =
    let here : core_at d z x ≡ core_at c z x = each 0 c (omega arith) in
    ap (λ (s : CoreSeat). s ∷ seats_in z x left) (ap (λ (y : Core). seat_of y) here)
    ∙ ap (λ (l : List CoreSeat). seat_of (core_at c z x) ∷ l)
    (same_seats z x cores left (omega (arith, count)) (λ k e within. each (suc k) e (omega (arith, within))))

-- the parts that the cores have in a zone are what they step through there
seats_of_parts : (z : ℕ) (x : Core) (parts : List Core) (cores : List ZoneCore) → length parts ≡ length cores
    → ((k : ℕ) (c : ZoneCore) (y : Core) → k < length cores → slice_index_or parts k y ≡ core_at (slice_index_or cores k c) z x)
    → map seat_of parts ≡ seats_in z x cores
seats_of_parts z x [] [] count each = refl
seats_of_parts z x (y ∷ parts) [] count each = absurd (omega (arith, count))
seats_of_parts z x [] (c ∷ cores) count each = absurd (omega (arith, count))
seats_of_parts z x (y ∷ parts) (c ∷ cores) count each =
    let here : y ≡ core_at c z x = each 0 c y (omega arith) in
    ap (λ (s : CoreSeat). s ∷ map seat_of parts) (ap (λ (e : Core). seat_of e) here)
    ∙ ap (λ (l : List CoreSeat). seat_of (core_at c z x) ∷ l)
    (seats_of_parts z x parts cores (omega (arith, count)) (λ k e w within. each (suc k) e w (omega (arith, within))))

pub all_stay : (zs : Zones) (cores : List ZoneCore) → All (HasCoresIn zs.zones.items) cores → AreAllLeft zs cores zs cores
all_stay zs cores are = record {
  all = refl;
  are_left = record {
    zones = λ z a within. refl;
    firsts = λ z within. refl;
    as_many = refl;
    count = refl;
    each = λ k c within. record { home = refl; same_stays = refl; parts = λ z x z-within. refl };
    are_cores = are;
  };
}

-- what was put back is as before
pub all_back : (zs rest : Zones) (cores left back : List ZoneCore) (parts : List Core)
    → rest.zones.items ≡ zs.zones.items → rest.firsts.items ≡ zs.firsts.items → rest.cores ≡ zs.cores
    → AreDealt left parts cores → AreDealt left parts back → length parts ≡ length left
    → All (HasCoresIn zs.zones.items) cores → AreAllLeft zs cores rest back
all_back zs rest cores left back parts zones firsts many dealt again count are = record {
  all = ap length zones;
  are_left = record {
    zones = λ z a within. ap (λ (l : List Allocator). slice_index_or l z a) zones;
    firsts = λ z within. ap (λ (l : List ℕ). slice_index_or l z 0) firsts;
    as_many = many;
    count = again.count ∙ sym dealt.count;
    each = λ k c within.
        let here : k < length left = subst (λ n. k < n) dealt.count within in
        let x : Core = some_of parts (omega (arith, here, count)) in
        let one : IsLonger (slice_index_or left k c) (slice_index_or parts k x) (slice_index_or cores k c) = dealt.each k c x here in
        let two : IsLonger (slice_index_or left k c) (slice_index_or parts k x) (slice_index_or back k c) = again.each k c x here in
        record {
          home = two.home ∙ sym one.home;
          same_stays = two.same_stays ∙ sym one.same_stays;
          parts = λ z y z-within. ap (λ (l : List Core). slice_index_or l z y) (two.items ∙ sym one.items);
        };
    are_cores = λ k c within.
        let here : k < length left = subst (λ n. k < n) again.count within in
        let x : Core = some_of parts (omega (arith, here, count)) in
        let one : IsLonger (slice_index_or left k c) (slice_index_or parts k x) (slice_index_or cores k c) = dealt.each k c x here in
        let two : IsLonger (slice_index_or left k c) (slice_index_or parts k x) (slice_index_or back k c) = again.each k c x here in
        let was : HasCoresIn zs.zones.items (slice_index_or cores k c) = are k c (subst (λ n. k < n) (sym dealt.count) here) in
        record {
          count = ap length (two.items ∙ sym one.items) ∙ was.count ∙ sym (ap length zones);
          each = λ z a y z-within.
              subst (λ (l : List Allocator). IsCoreOf (slice_index_or l z a) (core_at (slice_index_or back k c) z y)) (sym zones)
              (subst (λ (l : List Core). IsCoreOf (zone_at zs z a) (slice_index_or l z y)) (one.items ∙ sym two.items)
              (was.each z a y (subst (λ n. z < n) (ap length zones) z-within)));
        };
  };
}

-- the last zone is off, closed with its cores
pub closed_last : (zs rest : Zones) (a : Allocator) (cores left : List ZoneCore) (parts : List Core) (i : ZoneImage)
    → PartsOff zs.zones.items a rest.zones.items cores parts left → zs.firsts.items ≡ rest.firsts.items ++ i.first ∷ []
    → rest.cores ≡ zs.cores → IsClosingOf (memory_of a) (map seat_of parts) i.image
    → HasClosedLast zs cores rest left i
closed_last zs rest a cores left parts i off firsts-is many closed =
    let n : ℕ = zone_count rest in
    let dealt : AreDealt left parts cores = off.dealt in
    record {
      one = sym (ap length off.zones ∙ length_push rest.zones.items a);
      are_left = record {
        zones = λ z b within. sym (ap (λ (l : List Allocator). slice_index_or l z b) off.zones
            ∙ get_or_append_left rest.zones.items (a ∷ []) b z within);
        firsts = λ z within. sym (ap (λ (l : List ℕ). slice_index_or l z 0) firsts-is
            ∙ get_or_append_left rest.firsts.items (i.first ∷ []) 0 z (subst (λ m. z < m) (sym rest.laid_out.count) within));
        as_many = many;
        count = sym dealt.count;
        each = λ k c within.
            let here : k < length left = subst (λ m. k < m) dealt.count within in
            let x : Core = some_of parts (omega (arith, here, off.count)) in
            let longer : IsLonger (slice_index_or left k c) (slice_index_or parts k x) (slice_index_or cores k c) = dealt.each k c x here in
            let has : HasCoresIn rest.zones.items (slice_index_or left k c) = off.left_in k c here in
            record {
              home = sym longer.home;
              same_stays = sym longer.same_stays;
              parts = λ z y z-within. sym (ap (λ (l : List Core). slice_index_or l z y) longer.items
                  ∙ get_or_append_left (slice_index_or left k c).cores.items (slice_index_or parts k x ∷ []) y z
                  (subst (λ m. z < m) (sym has.count) z-within));
            };
        are_cores = off.left_in;
      };
      closed = record {
        first_frame = sym (ap (λ (l : List ℕ). slice_index_or l n 0) firsts-is
            ∙ get_or_push rest.firsts.items i.first 0 n rest.laid_out.count);
        closed = λ b x.
            subst (λ (e : Allocator). IsClosingOf (memory_of e) (seats_in n x cores) i.image)
            (sym (ap (λ (l : List Allocator). slice_index_or l n b) off.zones ∙ get_or_push rest.zones.items a b n refl))
            (subst (λ (s : List CoreSeat). IsClosingOf (memory_of a) s i.image)
            (seats_of_parts n x parts cores (off.count ∙ sym dealt.count)
            (λ k c y within.
            let here : k < length left = subst (λ m. k < m) dealt.count within in
            let longer : IsLonger (slice_index_or left k c) (slice_index_or parts k y) (slice_index_or cores k c) = dealt.each k c y here in
            sym (ap (λ (l : List Core). slice_index_or l n x) longer.items
            ∙ get_or_push (slice_index_or left k c).cores.items (slice_index_or parts k y) x n (off.left_in k c here).count)))
            closed);
      };
    }

-- so many zones are left, and the images are those of the others, the last first
pub record IsClosing (zs : Zones) (cores : List ZoneCore) (left : ℕ) (images : List ZoneImage) : Type 0 where
  pub count : left + length images ≡ zone_count zs
  pub each : (z k : ℕ) (d : ZoneImage) → z + k + 1 ≡ zone_count zs → k < length images
      → IsZoneClosed zs cores z (slice_index_or images k d)

-- what was left of the zones, and then of these
pub left_then : (zs now next : Zones) (cores mid left : List ZoneCore) → AreLeft zs cores now mid
    → AreLeft now mid next left → zone_count next ≤ zone_count now → AreLeft zs cores next left
left_then zs now next cores mid left one two fewer = record {
  zones = λ z a within. two.zones z a within ∙ one.zones z a (omega (arith, within, fewer));
  firsts = λ z within. two.firsts z within ∙ one.firsts z (omega (arith, within, fewer));
  as_many = two.as_many ∙ one.as_many;
  count = two.count ∙ one.count;
  each = λ k c within.
      let first : HasSameParts (zone_count now) (slice_index_or cores k c) (slice_index_or mid k c) = one.each k c within in
      let second : HasSameParts (zone_count next) (slice_index_or mid k c) (slice_index_or left k c) =
      two.each k c (subst (λ n. k < n) (sym one.count) within) in
      record {
        home = second.home ∙ first.home;
        same_stays = second.same_stays ∙ first.same_stays;
        parts = λ z x z-within. second.parts z x z-within ∙ first.parts z x (omega (arith, z-within, fewer));
      };
  are_cores = two.are_cores;
}

-- a zone that was closed among those that were left
closed_before : (zs now : Zones) (cores mid : List ZoneCore) (z : ℕ) (i : ZoneImage) → AreLeft zs cores now mid
    → z < zone_count now → IsZoneClosed now mid z i → IsZoneClosed zs cores z i
closed_before zs now cores mid z i left within was = record {
  first_frame = was.first_frame ∙ left.firsts z within;
  closed = λ a x.
      subst (λ (b : Allocator). IsClosingOf (memory_of b) (seats_in z x cores) i.image) (left.zones z a within)
      (subst (λ (s : List CoreSeat). IsClosingOf (memory_of (zone_at now z a)) s i.image)
      (same_seats z x cores mid left.count (λ k c k-within. (left.each k c k-within).parts z x within))
      (was.closed a x));
}

pub closing_one : (zs now next : Zones) (cores mid left : List ZoneCore) (images : List ZoneImage) (i : ZoneImage)
    → IsClosing zs cores (zone_count now) images → AreLeft zs cores now mid → HasClosedLast now mid next left i
    → IsClosing zs cores (zone_count next) (images ++ i ∷ [])
closing_one zs now next cores mid left images i was before last = record {
  count = omega (arith, was.count, last.one, length_push images i);
  each = λ z k d at within.
      elim (cases_lt k (length images)) as (λ _. IsZoneClosed zs cores z (slice_index_or (images ++ i ∷ []) k d)) [
        | inl below ↦ subst (λ (j : ZoneImage). IsZoneClosed zs cores z j) (sym (get_or_append_left images (i ∷ []) d k below))
            (was.each z k d at below)
        | inr past ↦
            let here : length images ≡ k = omega (arith, past, within, length_push images i) in
            let same : zone_count next ≡ z = omega (arith, at, here, was.count, last.one) in
            subst (λ (j : ZoneImage). IsZoneClosed zs cores z j) (sym (get_or_push images i d k here))
            (subst (λ y. IsZoneClosed zs cores y i) same
            (closed_before zs now cores mid (zone_count next) i before (omega (arith, last.one)) last.closed))
      ];
}

-- in the order of the zones
pub in_order : (zs : Zones) (cores : List ZoneCore) (n : ℕ) (images : List ZoneImage) → IsClosing zs cores n images
    → AreClosedFrom n zs cores (reverse images)
in_order zs cores n images was = record {
  count = ap (λ m. n + m) (length-reverse images) ∙ was.count;
  each = λ k d within.
      let here : k < length images = subst (λ m. k < m) (length-reverse images) within in
      subst (λ (j : ZoneImage). IsZoneClosed zs cores (n + k) j) (sym (get_or-reverse images k d here))
      (was.each (n + k) (length images - 1 - k) d (omega (arith, here, was.count)) (omega (arith, here)));
}
