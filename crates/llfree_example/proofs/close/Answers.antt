use Rattle.std.proofs.Common.{◌≡◌, ◌∙◌, pos, List, [], ◌∷◌, ◌++◌, true, ap, subst, map}
use Rattle.frame_model.specs.Laws.{HoldsJust}
use Rattle.frame_model.specs.Report.{held_frames}
use Rattle.frame_core.specs.Moves.{HasSizes}
use Rattle.frame_table.specs.Closing.{kept_through, lent_through}
use Rattle.core_frames.specs.Cores.{memory_of, seat_of}
use Rattle.core_frames.specs.declared.shared.allocator.Core.{Core}
use Rattle.llfree_example.specs.Memory.{eight_children}
use Rattle.llfree_example.proofs.NothingHeld.{is_eight, kept_by_two, lent_by_two, nothing_held}
use Rattle.llfree_example.proofs.close.Goals as goal

pub returns-in-Ok : goal.returns-in-Ok
returns-in-Ok c =
    let image = c.in-Ok.image in
    let closing = c.in-Ok.ensures.ok in
    let items : c.push_reserved-2.new.self.items ≡ c.args.first ∷ c.args.second ∷ [] =
    c.push_reserved-2.ensures.items
    ∙ ap (λ (l : List Core). l ++ c.args.second ∷ [])
    (c.push_reserved.ensures.items ∙ ap (λ (l : List Core). l ++ c.args.first ∷ []) c.in_ok-cores.ensures.items) in
    let seats : map seat_of c.push_reserved-2.new.self.items ≡ map seat_of (c.args.first ∷ c.args.second ∷ []) =
    ap (map seat_of) items in
    let kept : kept_through (map seat_of c.push_reserved-2.new.self.items) ≡ [] =
    ap kept_through seats ∙ kept_by_two c.args.first c.args.second c.requires.kept.0 c.requires.kept.1 in
    let lent : lent_through (map seat_of c.push_reserved-2.new.self.items) ≡ pos 0 =
    ap lent_through seats ∙ lent_by_two c.args.first c.args.second c.requires.lent in
    let sealed : (memory_of c.args.allocator).sealed ≡ true = ap (λ k. k.sealed) c.requires.memory in
    let just : HoldsJust eight_children image.words [] =
    subst (λ k. HoldsJust k image.words []) c.requires.memory
    (subst (λ l. HoldsJust (memory_of c.args.allocator) image.words l) kept (closing.tells.just_kept sealed lent)) in
    let sizes : HasSizes eight_children image.geometry =
    subst (λ k. HasSizes k image.geometry) c.requires.memory closing.sizes in
    c.held_frames.ensures.value ∙ ap (λ k. held_frames k image.words) (is_eight image.geometry sizes)
    ∙ nothing_held image.words just
