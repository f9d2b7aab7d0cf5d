use Rattle.std.proofs.Common.{◌≡◌, ℕ, List, refl, sym, subst, ◌∙◌, ap, arith}
use Rattle.std.specs.Prelude.{true}
use Rattle.std.proofs.lemmas.List.{get_or_default}
use Rattle.core_frames.specs.declared.shared.allocator.Allocator.{Allocator}
use Rattle.core_frames.specs.Cores.{memory_of}
use Rattle.frame_slots.specs.SlotLists.{HasRoomFor, HasSlotsBeside, IsListOf}
use Rattle.frame_zones.proofs.Placing.{core_read}
use Rattle.zone_slots.specs.Openings.{IsListIn}
use Rattle.zone_slots.proofs.Opened.{cores_still, list_here, all_ok}
use Rattle.zone_slots.proofs.openings.list_in.Goals as goal

pub open-requires : goal.open-requires
open-requires c = record {
  core = core_read c.args.zones.now c.args.core.now c.args.zone _ _ c.requires.core c.requires.zone c.index.ensures
      c.index_mut.ensures.value;
}

pub returns-clause-core : goal.returns-clause-core
returns-clause-core c =
    cores_still c.args.zones.now c.args.core.now _ c.args.zone _ _ _ c.requires.core c.requires.zone c.index.ensures
    c.index_mut.ensures.value refl refl c.open.ensures.core

pub returns-clause-list : goal.returns-clause-list
returns-clause-list c =
    let zs = c.args.zones.now in
    let frames : c.index-2.result.now ≡ (memory_of c.index.result.now).frames =
    c.index-2.ensures
    ∙ get_or_default zs.frames.items c.args.zone c.index-2.result.now 0 (omega (arith, c.requires.zone, zs.sized.count))
    ∙ zs.sized.each c.args.zone c.index.result.now c.requires.zone
    ∙ ap (λ (a : Allocator). (memory_of a).frames) (sym c.index.ensures) in
    let ranges : c.deref.result.now ≡ (memory_of c.index.result.now).ranges =
    c.deref.ensures.value
    ∙ sym (c.requires.held_back.each c.args.zone c.index-spans-zone.result c.index.result.now c.requires.zone)
    ∙ ap (λ (a : Allocator). (memory_of a).ranges) (sym c.index.ensures) in
    all_ok c.open.result (HasRoomFor c.index-2.result.now) (IsListOf c.index.result.now)
    (HasSlotsBeside c.index-2.result.now c.deref.result.now) (IsListIn true zs c.args.zone)
    (λ s room list each. list_here true zs c.args.zone c.index.result.now s c.requires.zone c.index.ensures list (
      subst (λ n. HasRoomFor n s) frames room,
      subst (λ n. HasSlotsBeside n (memory_of c.index.result.now).ranges s) frames
          (subst (λ (l : List (ℕ × ℕ)). HasSlotsBeside c.index-2.result.now l s) ranges each),
    ))
    c.open.ensures.room c.open.ensures.slots c.open.ensures.each
