-- Takes of just one block: what their parts find and leave where nobody else steps.
use Rattle.std.proofs.Common.{◌≡◌, ⊎_elim, ℕ, ◌+◌, ◌^◌, ◌<◌, ◌≤◌, List, get_or, Option, None, Some, refl, ap, sym, subst, ◌∙◌, arith}
use Rattle.std.specs.Prelude.{slice_index, Bool, true, false, MatchBool, nat_eq, if◌then◌else◌}
use Rattle.std.proofs.lemmas.Bool.{cases_eq}
use Rattle.frame_words.specs.Words.{free_in, rest_in}
use Rattle.frame_model.specs.declared.block.FrameBlock.{FrameBlock}
use Rattle.frame_model.specs.declared.key.Key.{Key}
use Rattle.frame_model.specs.declared.view.View.{View}
use Rattle.frame_model.specs.Key.{tree_of, AreSizes}
use Rattle.frame_model.specs.Block.{IsBlock}
use Rattle.frame_model.specs.Words.{tree_place, local_place, tree_free_of, rest_of, is_on}
use Rattle.frame_model.specs.View.{IsIdle}
use Rattle.frame_model.proofs.Amounts.{is_on_none}
use Rattle.frame_model.proofs.Steps.Shared.{tree_free_is, rest_of_is}
use Rattle.frame_core.specs.Mover.{Mover, Keeps}
use Rattle.low_frames.specs.Alone.{Turns, FindsOf, NoneIsFree, IsFreeIn}
use Rattle.low_frames.specs.Outcomes.{TakesOut}
use Rattle.low_frames.proofs.AloneLemmas.{if_known, IsSeen}
use Rattle.low_frames.proofs.RoomLemmas.{FitsAlone}
use Rattle.core_frames.specs.Alone.{SameFrames, KeepsFrames, IsDrainedOf}
use Rattle.core_frames.specs.Searches.{Brings}
use Rattle.core_frames.specs.Places.{HasSuchBlock, NothingRestsOn, IsDrainedFor, IsTreeDrained, CountsFewer, HasTooFewOn, FindsHeld}
use Rattle.core_frames.proofs.KeptFrames.{same_frames, same_held, frames_then, turns_then, turns_as, found_as, covered_inside}
use Rattle.core_frames.proofs.Exhausted.{short_of}
use Rattle.core_frames.proofs.SearchSteps.{out_after}

-- a block that the memory has is one of its blocks
pub is_block_of : (key : Key) (b : FrameBlock) → AreSizes key → HasSuchBlock key b → IsBlock key b
is_block_of key b sizes has = record {
  order = has.order;
  aligned = has.aligned;
  inside = omega (arith, has.inside, sizes.inside);
}

-- a tree word that counts too few
pub fewer_first : (mid was : Key) (tree seen free n : ℕ) (old now : Option (List ℕ)) → mid ≡ was → free ≡ free_in seen → free < n
    → IsSeen (tree_place mid tree) seen old now → FindsOf (CountsFewer was tree n) old now
fewer_first mid was tree seen free n old now j is few load =
    if_known old (λ ws. (slice_index ws (tree_place mid tree) ≡ seen) × (now ≡ Some ws))
    (λ ws. (now ≡ Some ws) × CountsFewer was tree n ws) load
    (λ ws e h.
    let there : get_or ws (tree_place was tree) 0 ≡ seen = ap (λ (i : Key). get_or ws (tree_place i tree) 0) (sym j) ∙ h.0 in
    let count : tree_free_of was ws tree ≡ free = tree_free_is was ws tree ∙ ap free_in there ∙ sym is in
    (h.1, omega (arith, few, count)))

-- The drain of a tree.

by_test : (b : Bool) → MatchBool b (◌≡◌ {A = ℕ} (if b then 1 else 0) 1) (◌≡◌ {A = ℕ} (if b then 1 else 0) 0)
by_test true = refl
by_test false = refl

-- a reservation is of the tree that it names
pub is_on_some : (tree own n : ℕ) → MatchBool (nat_eq own tree) (is_on tree (Some (own, n)) ≡ 1) (is_on tree (Some (own, n)) ≡ 0)
unfolding is_on
is_on_some tree own n = by_test (nat_eq own tree)

-- the local word of the core tells no reservation of the tree
pub rests_elsewhere : (was : Key) (tree core seen : ℕ) (old new : Option (List ℕ)) → is_on tree (rest_in seen) ≡ 0
    → IsSeen (local_place was core) seen old new → Turns (IsDrainedFor was tree core) old new
rests_elsewhere was tree core seen None new is load = tt
rests_elsewhere was tree core seen (Some ws) new is load = (
  ws,
  (
    load.1,
    record {
      frames = same_frames was ws;
      nothing_rests = ap (is_on tree) (rest_of_is was ws core ∙ ap rest_in load.0) ∙ is;
      others = λ k h ne. refl;
    },
  ),
)

-- a core that has no reservation has none of the tree
pub drained_for : (key : Key) (tree core : ℕ) (old new : Option (List ℕ)) → Turns (IsDrainedOf key core) old new
    → Turns (IsDrainedFor key tree core) old new
drained_for key tree core old new a =
    turns_as (IsDrainedOf key core) (IsDrainedFor key tree core) old new
    (λ ws us d. record {
      frames = d.frames;
      nothing_rests = ap (is_on tree) d.nothing_rests ∙ is_on_none tree;
      others = d.others;
    })
    a

-- each frame is held or free as before, and the cores below one have no reservation of the tree
pub record IsDrainedUpTo (key : Key) (tree core : ℕ) (old new : List ℕ) : Type 0 where
  pub frames : SameFrames key old new
  pub below : (k : ℕ) → k < core → k < key.cores → is_on tree (rest_of key new k) ≡ 0

pub drained_on : (key now : Key) (tree core : ℕ) (old mid new : Option (List ℕ)) → now ≡ key → Turns (IsDrainedUpTo key tree core) old mid
    → Turns (IsDrainedFor now tree core) mid new → Turns (IsDrainedUpTo key tree (core + 1)) old new
drained_on key now tree core old mid new k below here =
    turns_then (IsDrainedUpTo key tree core) (IsDrainedFor key tree core) (IsDrainedUpTo key tree (core + 1)) old mid new
    (λ ws us vs a b. record {
      frames = frames_then key ws us vs a.frames b.frames;
      below = λ i h l.
          ⊎_elim
          (λ (e : i ≡ core). ap (λ j. is_on tree (rest_of key vs j)) e ∙ b.nothing_rests)
          (λ ne. ap (is_on tree) (b.others i l ne) ∙ a.below i (omega arith) l)
          (cases_eq i core);
    })
    below (subst (λ i. Turns (IsDrainedFor i tree core) mid new) k here)

pub drained_up : (key : Key) (tree cores : ℕ) (old new : Option (List ℕ)) → key.cores ≤ cores → Turns (IsDrainedUpTo key tree cores) old new
    → Turns (IsTreeDrained key tree) old new
drained_up key tree cores old new h a =
    turns_as (IsDrainedUpTo key tree cores) (IsTreeDrained key tree) old new
    (λ ws us d. record { frames = d.frames; nothing_rests = λ k l. d.below k (omega arith) l }) a

-- each frame is held or free as before
pub tree_drained_brings : {T H : Type 0} {exact : ℕ → Type 0} {most tree : ℕ} {V : View → View → Type 0} {a b : Mover T H}
    → Brings exact most V (IsTreeDrained a.key tree) a b → Brings exact most V (SameFrames a.key) a b
tree_drained_brings {tree = tree} {a = a} {b = b} f = record {
  keeps = f.keeps;
  counts = f.counts;
  sure = f.sure;
  view = f.view;
  alone = λ alone. turns_as (IsTreeDrained a.key tree) (SameFrames a.key) a.words b.words (λ ws us d. d.frames) (f.alone alone);
}

-- The payment.

-- nothing rests on the tree any more, and its word counts too few
pub too_few : (key mid now : Key) (tree n : ℕ) (old one two new : Option (List ℕ)) → mid ≡ key → now ≡ key → KeepsFrames key old one
    → Turns (IsTreeDrained mid tree) one two → FindsOf (CountsFewer now tree n) two new → Turns (HasTooFewOn key tree n) old new
too_few key mid now tree n old one two new k j keeps drained few =
    turns_then (SameFrames key) (HasTooFewOn key tree n) (HasTooFewOn key tree n) old one new
    (λ ws us vs s t. record {
      frames = frames_then key ws us vs s t.frames;
      nothing_rests = t.nothing_rests;
      few = t.few;
    })
    keeps
    (turns_then (IsTreeDrained key tree) (λ us vs. (vs ≡ us) × CountsFewer key tree n us) (HasTooFewOn key tree n) one two new
    (λ ws us vs d f. record {
      frames = subst (SameFrames key ws) (sym f.0) d.frames;
      nothing_rests = subst (NothingRestsOn key tree) (sym f.0) d.nothing_rests;
      few = subst (CountsFewer key tree n) (sym f.0) f.1;
    })
    (subst (λ i. Turns (IsTreeDrained i tree) one two) k drained)
    (found_as (CountsFewer key tree n) (λ us vs. (vs ≡ us) × CountsFewer key tree n us) two new (λ us h. (refl, h))
    (subst (λ i. FindsOf (CountsFewer i tree n) two new) j few)))

-- then the block is not free
pub held_for_few : (A : Type 0) (key : Key) (v : View) (b : FrameBlock) (tree n : ℕ) (old new : Option (List ℕ))
    → ((ws : List ℕ) → new ≡ Some ws → FitsAlone A key ws v) → A → IsIdle v → IsBlock key b → tree ≡ tree_of b.frame → n ≡ 2 ^ b.order
    → Turns (HasTooFewOn key tree n) old new → Turns (FindsHeld key b) old new
held_for_few A key v b tree n None new fits alone idle is there size a = tt
held_for_few A key v b tree n (Some ws) new fits alone idle is there size a =
    let us : List ℕ = a.0 in
    let few = a.1.1 in (
      us,
      (
        a.1.0,
        record {
          frames = few.frames;
          held = short_of A key us v (fits us a.1.0) alone idle b.order b (record { is_block = is; has_order = refl })
              (subst (λ t. NothingRestsOn key t us) there few.nothing_rests)
              (subst (λ t. tree_free_of key us t < 2 ^ b.order) there (omega (arith, few.few, size)));
        },
      ),
    )

-- The block.

held_still : (key : Key) (b : FrameBlock) (us vs : List ℕ) → IsBlock key b → ¬ IsFreeIn key us b → SameFrames key us vs
    → ¬ IsFreeIn key vs b
held_still key b us vs is held same free =
    held (λ x e. sym (same_held key us vs x same (covered_inside key b x is e)) ∙ free x e)

-- it was looked at and not free, between steps that left the frames as they were
pub held_there : (key mid now : Key) (b : FrameBlock) (old one two new : Option (List ℕ)) → mid ≡ key → now ≡ key → IsBlock key b
    → KeepsFrames key old one → FindsOf (NoneIsFree mid (λ c. c ≡ b)) one two → KeepsFrames now two new → Turns (FindsHeld key b) old new
held_there key mid now b old one two new k j is keeps none after =
    turns_then (SameFrames key) (FindsHeld key b) (FindsHeld key b) old one new
    (λ ws us vs s t. record { frames = frames_then key ws us vs s t.frames; held = t.held })
    keeps
    (turns_then (FindsHeld key b) (SameFrames key) (FindsHeld key b) one two new
    (λ ws us vs d s. record {
      frames = frames_then key ws us vs d.frames s;
      held = held_still key b us vs is d.held s;
    })
    (found_as (NoneIsFree key (λ c. c ≡ b)) (FindsHeld key b) one two
    (λ us h. record { frames = same_frames key us; held = h b refl })
    (subst (λ i. FindsOf (NoneIsFree i (λ c. c ≡ b)) one two) k none))
    (subst (λ i. KeepsFrames i two new) j after))

-- the block was taken between steps that left the frames as they were
pub out_at : {T H : Type 0} {block_of : H → FrameBlock} {U : View → View → Type 0} {held : H} {a b c : Mover T H}
    (V : View → View → Type 0) (d : FrameBlock) → Keeps a b → b.view.kept ≡ a.view.kept → (a.is_alone → KeepsFrames a.key a.words b.words)
    → IsBlock b.key d → V a.view c.view → TakesOut block_of (λ e. e ≡ d) U held b c → TakesOut block_of (λ e. e ≡ d) V held a c
out_at {block_of = block_of} {held = held} V d keeps kept same is v out =
    let here = out_after V d.order keeps kept same
    (record { is_block = subst (IsBlock _) (sym out.is_one) is; has_order = ap (λ (e : FrameBlock). e.order) out.is_one }) v out in
    record {
      view = here.view;
      is_out = here.is_out;
      is_one = out.is_one;
      apart = here.apart;
      no_boot_frame = here.no_boot_frame;
      inside = here.inside;
      alone = here.alone;
    }
