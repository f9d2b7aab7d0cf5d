-- No stop leaves a wrong image.
use Rattle.std.proofs.Common.{◌≡◌, ◌↔◌, ⊎_elim, inl, inr, ℕ, ◌+◌, ◌*◌, ◌/◌, ◌%◌, ◌<◌, ◌≤◌, List, ap, sym, ◌∙◌, arith}
use Rattle.std.proofs.lemmas.Bool.{cases_eq}
use Rattle.std.specs.Prelude.{slice_index}
use Rattle.std.specs.Int.{bit_at}
use Rattle.frame_words.specs.Words.{entry_word, free_in}
use Rattle.frame_words.proofs.WordLemmas.{free_in-entry_word}
use Rattle.frame_model.specs.declared.block.FrameBlock.{FrameBlock}
use Rattle.frame_model.specs.declared.key.Key.{Key}
use Rattle.frame_model.specs.Events.{views_of}
use Rattle.frame_model.specs.Holding.{holders}
use Rattle.frame_model.specs.Key.{frame_count}
use Rattle.frame_model.specs.Laws.{holding_of}
use Rattle.frame_model.specs.Report.{held_at, held_within}
use Rattle.frame_model.specs.Words.{free_of, huge_of, bit_of, bit_word_of, held_of, AreInRange}
use Rattle.frame_model.proofs.ReportLemmas.{held_within-child}
use Rattle.frame_model.proofs.Sums.{range_same}
use Rattle.frame_model.proofs.Steps.Shared.{bit-le}
use Rattle.frame_slots.specs.Numbers.{entry_in, image_bit, IsHugeIn, IsHeldBy}
use Rattle.core_frames.specs.Cores.{memory_of}
use Rattle.core_frames.specs.declared.shared.allocator.Allocator.{Allocator}
use Rattle.core_frames.specs.declared.shared.allocator.Core.{Core}
use Rattle.frame_zones.specs.Zones.{zone_at}
use Rattle.frame_zones.specs.declared.zones.Zones.{Zones}
use Rattle.frame_zones.proofs.Parted.{some_of}
use Rattle.zone_slots.specs.Calls.{zones_of}
use Rattle.zone_slots.specs.ImageParts.{numbers_from}
use Rattle.llfree_c.specs.CoreImages.{LeavesStop}
use Rattle.llfree_c.specs.Images.{SaysAll}
use Rattle.llfree_c.specs.WrongImages.{BootFrameIsClearInImage, CountersAreOff, ImageIsOfNoState, IsImageOfBlocks, ZoneStandsAtAnothersPlace}
use Rattle.llfree_c.specs.WrongImages.{held_in_child}

module _ (key : Key) (words numbers : List ℕ) (r : AreInRange key words) (says : SaysAll key words numbers) where
  flag_said : (c : ℕ) → c < key.children → IsHugeIn numbers c ↔ (huge_of words c ≡ 1)
  unfolding entry_word
  flag_said c h = (
    λ up. omega (arith, up, (says c h).entry, r.free c h, r.huge c h),
    λ one. omega (arith, one, (says c h).entry),
  )

  bit_said : (x : ℕ) → x < frame_count key → image_bit numbers x ≡ bit_of key words x
  unfolding bit_of
  bit_said x h =
      let place : 8 * (x / 512) + x % 512 / 64 ≡ x / 64 = omega arith in
      ap (λ n. bit_at n (x % 64))
      ((says (x / 512) (omega arith)).bits (x % 512 / 64) (omega arith) ∙ ap (bit_word_of key words) place)

  -- the numbers hold the frames that the words do
  held_said : (x : ℕ) → x < frame_count key → IsHeldBy numbers x ↔ (held_at key words x ≡ 1)
  unfolding held_at
  held_said x h =
      let c : x / 512 < key.children = omega arith in
      let few = r.huge (x / 512) c in (
        ⊎_elim
            (λ up. omega (arith, (flag_said (x / 512) c).0 up, bit-le key words x))
            (λ one. omega (arith, one, bit_said x h, few)),
        λ held. ⊎_elim
            (λ (down : huge_of words (x / 512) ≡ 0). inr (bit_said x h ∙ omega (arith, held, down)))
            (λ up. inl ((flag_said (x / 512) c).1 (omega (arith, up, few))))
            (cases_eq (huge_of words (x / 512)) 0),
      )

  held_once : (x : ℕ) → x < frame_count key → held_at key words x ≤ 1
  unfolding held_at
  held_once x h = omega (arith, bit-le key words x, r.huge (x / 512) (omega arith))

  -- and count as free what the words do
  free_said : (c : ℕ) → c < key.children → free_in (entry_in numbers c) ≡ free_of words c
  free_said c h = ap free_in (says c h).entry
      ∙ free_in-entry_word (free_of words c) (huge_of words c) (omega (arith, r.free c h))

child_held : (key : Key) (words : List ℕ) (r : AreInRange key words) (blocks : List FrameBlock)
    → ((x : ℕ) → x < frame_count key → held_at key words x ≡ holders x blocks)
    → (c : ℕ) → c < key.children → held_in_child blocks c ≡ held_of key words c
unfolding held_within
child_held key words r blocks held c h =
    range_same (held_at key words) (λ x. holders x blocks) (512 * c) 512
    (λ d l q. sym (held d (omega (arith, h, l, q))))
    ∙ held_within-child key words r c h

of_blocks : (key : Key) (numbers : List ℕ) (stop : LeavesStop key numbers)
    → IsImageOfBlocks key numbers (holding_of key (views_of stop.state))
of_blocks key numbers stop =
    let words = stop.words in
    let blocks : List FrameBlock = holding_of key (views_of stop.state) in
    let r : AreInRange key words = stop.rebuilt.in_range in
    record {
      held = λ x h. let said = held_said key words numbers r stop.says x h in (
        λ held. omega (arith, said.0 held, stop.held x h),
        λ some. said.1 (omega (arith, some, stop.held x h, held_once key words numbers r stop.says x h)),
      );
      free = λ c h.
          ap (λ n. n + held_in_child blocks c) (free_said key words numbers r stop.says c h)
          ∙ (ap (λ n. free_of words c + n) (child_held key words r blocks stop.held c h) ∙ stop.exact.entries c h);
    }

pub image_is_of_no_state : ImageIsOfNoState
image_is_of_no_state key numbers none stop = none stop.state stop.fits (of_blocks key numbers stop)

pub boot_frame_is_clear_in_image : BootFrameIsClearInImage
boot_frame_is_clear_in_image key numbers x sealed h named clear stop =
    clear ((held_said key stop.words numbers stop.rebuilt.in_range stop.says x h).1 (stop.boot sealed x h named))

pub counters_are_off : CountersAreOff
counters_are_off key numbers off stop = off stop.words stop.says stop.exact

-- numbers that read alike are left alike
leaves_still : (key : Key) (numbers others : List ℕ)
    → ((i : ℕ) → i < 9 * key.children → slice_index numbers i ≡ slice_index others i) → LeavesStop key numbers
    → LeavesStop key others
leaves_still key numbers others same stop = record {
  state = stop.state;
  fits = stop.fits;
  words = stop.words;
  rebuilt = stop.rebuilt;
  says = λ c less. let s = stop.says c less in record {
    entry = sym (same (9 * c) (omega (arith, less))) ∙ s.entry;
    bits = λ w h. sym (same (9 * c + 1 + w) (omega (arith, less, h))) ∙ s.bits w h;
  };
  exact = stop.exact;
  held = stop.held;
  boot = stop.boot;
}

pub zone_stands_at_anothers_place : ZoneStandsAtAnothersPlace
zone_stands_at_anothers_place s numbers others zone another within same none stops =
    let zs : Zones = zones_of s in
    let a : Allocator = some_of zs.zones.items (omega (arith, within)) in
    let x : Core = some_of stops.core.cores.items (omega (arith, within, stops.rest.are_cores.parts.count)) in
    none a (leaves_still (memory_of (zone_at zs zone a)) (numbers_from zs numbers zone) (numbers_from zs others another)
    (same a) (stops.zones zone within a x).stop)
