-- Steps on tree words and local words leave each frame held or free as it was.
use Rattle.std.proofs.Common.{◌≡◌, ◌≢◌, ◌⊎◌, inl, inr, ℕ, ◌/◌, ◌<◌, max, List, get_or, set, Option, None, Some, refl, ap, sym, subst, ◌∙◌}
use Rattle.std.proofs.Common.{arith}
use Rattle.std.specs.Prelude.{IfSome, IfNone, Bool, true, false, slice_index}
use Rattle.std.proofs.lemmas.List.{get_or-set_other}
use Rattle.frame_model.specs.declared.block.FrameBlock.{FrameBlock}
use Rattle.frame_model.specs.declared.key.Key.{Key}
use Rattle.frame_model.specs.Key.{frame_count, tree_count, child_of}
use Rattle.frame_model.specs.Block.{IsBlock, covers}
use Rattle.frame_model.specs.Words.{entry_place, tree_place, local_place, bits_place, entry_of, huge_of, bit_word_of, bit_of}
use Rattle.frame_model.specs.Report.{held_at}
use Rattle.frame_model.specs.Steps.{Kind, place, words_after}
use Rattle.frame_core.specs.Moves.{Changes, Exchanges}
use Rattle.frame_model.proofs.Words.{entry-lt-tree, entry-lt-local, tree-lt-bits, local-lt-bits, child-has-lane}
use Rattle.low_frames.specs.Alone.{Turns, FindsOf, HoldsMore, WordsTake, WordsGive}
use Rattle.low_frames.proofs.AloneLemmas.{at_known}
use Rattle.low_frames.proofs.RoomLemmas.{covered_from}
use Rattle.core_frames.specs.Alone.{SameFrames, KeepsFrames}

-- Words that may be known.

pub if_none : {X : Type 0} (o : Option X) (P Q : Type 0) → IfNone o P → (P → Q) → IfNone o Q
if_none None P Q h f = f h
if_none (Some x) P Q h f = tt

pub if_some : {X : Type 0} (o : Option X) (P Q : X → Type 0) → IfSome o P → ((x : X) → P x → Q x) → IfSome o Q
if_some None P Q h f = tt
if_some (Some x) P Q h f = f x h

pub turns_then : (R S T : List ℕ → List ℕ → Type 0) (old mid new : Option (List ℕ))
    → ((ws us vs : List ℕ) → R ws us → S us vs → T ws vs) → Turns R old mid → Turns S mid new → Turns T old new
turns_then R S T None mid new f a b = tt
turns_then R S T (Some ws) mid new f a b =
    let h = at_known mid (λ us. (vs : List ℕ) × ((new ≡ Some vs) × S us vs)) a.0 a.1.0 b in (h.0, (h.1.0, f ws a.0 h.0 a.1.1 h.1.1))

pub turns_as : (R S : List ℕ → List ℕ → Type 0) (old new : Option (List ℕ)) → ((ws us : List ℕ) → R ws us → S ws us) → Turns R old new
    → Turns S old new
turns_as R S None new f a = tt
turns_as R S (Some ws) new f a = (a.0, (a.1.0, f ws a.0 a.1.1))

pub found_as : (P : List ℕ → Type 0) (S : List ℕ → List ℕ → Type 0) (old new : Option (List ℕ)) → ((ws : List ℕ) → P ws → S ws ws)
    → FindsOf P old new → Turns S old new
found_as P S None new f a = tt
found_as P S (Some ws) new f a = (ws, (a.0, f ws a.1))

-- Words of the upper level.

-- the place is that of a tree word or of a local word
abbrev pub IsUpper : Key → ℕ → Type 0
IsUpper key p =
    ((tree : ℕ) × ((tree < tree_count key) × (p ≡ tree_place key tree)))
    ⊎ ((core : ℕ) × ((core < key.cores) × (p ≡ local_place key core)))

pub upper_tree : (key : Key) (tree : ℕ) → tree < tree_count key → IsUpper key (tree_place key tree)
upper_tree key tree h = inl (tree, (h, refl))

pub upper_local : (key : Key) (core : ℕ) → core < key.cores → IsUpper key (local_place key core)
upper_local key core h = inr (core, (h, refl))

not_bits : (key : Key) (p w : ℕ) → IsUpper key p → bits_place key w ≢ p
not_bits key p w (inl t) e = omega (arith, tree-lt-bits key t.0 w t.1.0, t.1.1)
not_bits key p w (inr k) e = omega (arith, local-lt-bits key k.0 w k.1.0, k.1.1)

not_entry : (key : Key) (p c : ℕ) → c < key.children → IsUpper key p → entry_place c ≢ p
not_entry key p c h (inl t) e = omega (arith, entry-lt-tree key c t.0 (child-has-lane key c h), t.1.1)
not_entry key p c h (inr k) e = omega (arith, entry-lt-local key c k.0 (child-has-lane key c h), k.1.1)

held_is : (key : Key) (ws : List ℕ) (x : ℕ) → held_at key ws x ≡ max (bit_of key ws x) (huge_of ws (child_of x))
unfolding held_at
held_is key ws x = refl

same_bit : (key : Key) (ws us : List ℕ) (x : ℕ) → get_or us (bits_place key (x / 64)) 0 ≡ get_or ws (bits_place key (x / 64)) 0
    → bit_of key us x ≡ bit_of key ws x
unfolding bit_of bit_word_of
same_bit key ws us x e = rw e refl

same_huge : (ws us : List ℕ) (c : ℕ) → get_or us (entry_place c) 0 ≡ get_or ws (entry_place c) 0 → huge_of us c ≡ huge_of ws c
unfolding huge_of entry_of
same_huge ws us c e = rw e refl

pub kept_set : (key : Key) (ws : List ℕ) (p n : ℕ) → IsUpper key p → SameFrames key ws (set ws p n)
kept_set key ws p n up = record {
  bits = λ x h. same_bit key ws (set ws p n) x (get_or-set_other ws p (bits_place key (x / 64)) n 0 (not_bits key p (x / 64) up));
  flags = λ c h. same_huge ws (set ws p n) c (get_or-set_other ws p (entry_place c) n 0 (not_entry key p c h up));
}

pub kept_after : (key : Key) (kind : Kind) (ws : List ℕ) → IsUpper key (place key kind) → SameFrames key ws (words_after key kind ws)
kept_after key kind ws up = kept_set key ws (place key kind) _ up

pub same_frames : (key : Key) (ws : List ℕ) → SameFrames key ws ws
same_frames key ws = record { bits = λ x h. refl; flags = λ c h. refl }

pub frames_then : (key : Key) (ws us vs : List ℕ) → SameFrames key ws us → SameFrames key us vs → SameFrames key ws vs
frames_then key ws us vs a b = record {
  bits = λ x h. b.bits x h ∙ a.bits x h;
  flags = λ c h. b.flags c h ∙ a.flags c h;
}

-- a frame is held or free as before
pub same_held : (key : Key) (ws us : List ℕ) (x : ℕ) → SameFrames key ws us → x < frame_count key → held_at key us x ≡ held_at key ws x
same_held key ws us x same h =
    omega (arith, held_is key ws x, held_is key us x, same.bits x h, same.flags (child_of x) (omega arith))

-- Steps.

pub keeps_none : (key : Key) (old : Option (List ℕ)) → KeepsFrames key old old
keeps_none key None = tt
keeps_none key (Some ws) = (ws, (refl, same_frames key ws))

pub keeps_then : (key : Key) (old mid new : Option (List ℕ)) → KeepsFrames key old mid → KeepsFrames key mid new → KeepsFrames key old new
keeps_then key old mid new a b =
    turns_then (SameFrames key) (SameFrames key) (SameFrames key) old mid new (frames_then key) a b

pub keeps_found : (key : Key) (P : List ℕ → Type 0) (old new : Option (List ℕ)) → FindsOf P old new → KeepsFrames key old new
keeps_found key P old new a = found_as P (SameFrames key) old new (λ ws h. same_frames key ws) a

-- a load
pub keeps_load : (key : Key) (p seen : ℕ) (old new : Option (List ℕ)) → IfSome old (λ ws. (slice_index ws p ≡ seen) × (new ≡ Some ws))
    → KeepsFrames key old new
keeps_load key p seen None new a = tt
keeps_load key p seen (Some ws) new a = (ws, (a.1, same_frames key ws))

-- a step that is always made
pub keeps_change : (key now : Key) (kind : Kind) (old new : Option (List ℕ)) → now ≡ key → IsUpper key (place key kind)
    → Changes now kind old new → KeepsFrames key old new
keeps_change key now kind None new k up a = tt
keeps_change key now kind (Some ws) new k up a =
    (words_after key kind ws, (a ∙ ap (λ i. Some (words_after i kind ws)) k, kept_after key kind ws up))

exchange_by : (key : Key) (kind : Kind) (seen : ℕ) (made : Bool) (ws : List ℕ) (new : Option (List ℕ)) → IsUpper key (place key kind)
    → Exchanges key kind seen made (Some ws) new → KeepsFrames key (Some ws) new
exchange_by key kind seen true ws new up a = (words_after key kind ws, (a.1, kept_after key kind ws up))
exchange_by key kind seen false ws new up a = (ws, (a.1, same_frames key ws))

-- an exchange, made or lost
pub keeps_exchange : (key now : Key) (kind : Kind) (seen : ℕ) (made : Bool) (old new : Option (List ℕ)) → now ≡ key
    → IsUpper key (place key kind) → Exchanges now kind seen made old new → KeepsFrames key old new
keeps_exchange key now kind seen made None new k up a = tt
keeps_exchange key now kind seen made (Some ws) new k up a =
    exchange_by key kind seen made ws new up (subst (λ i. Exchanges i kind seen made (Some ws) new) k a)

-- Blocks that were taken or given between steps of the upper level.

pub covered_inside : (key : Key) (b : FrameBlock) (x : ℕ) → IsBlock key b → covers b x ≡ 1 → x < frame_count key
covered_inside key b x is e = omega (arith, is.inside, covered_from b x e)

more_after : (key : Key) (ws us vs : List ℕ) (b : FrameBlock) → IsBlock key b → SameFrames key ws us → HoldsMore key us vs b
    → HoldsMore key ws vs b
more_after key ws us vs b is same h = record {
  was_free = λ x e. sym (same_held key ws us x same (covered_inside key b x is e)) ∙ h.was_free x e;
  bits = λ x q. omega (arith, h.bits x q, same.bits x q);
  flags = λ c q. omega (arith, h.flags c q, same.flags c q);
}

more_before : (key : Key) (ws us vs : List ℕ) (b : FrameBlock) → IsBlock key b → HoldsMore key ws us b → SameFrames key us vs
    → HoldsMore key ws vs b
more_before key ws us vs b is h same = record {
  was_free = h.was_free;
  bits = λ x q. same.bits x q ∙ h.bits x q;
  flags = λ c q. same.flags c q ∙ h.flags c q;
}

pub keeps_then_taken : (key : Key) (old mid new : Option (List ℕ)) (b : FrameBlock) → IsBlock key b → KeepsFrames key old mid
    → WordsTake key mid new b → WordsTake key old new b
keeps_then_taken key old mid new b is a h =
    turns_then (SameFrames key) (λ ws us. HoldsMore key ws us b) (λ ws us. HoldsMore key ws us b) old mid new
    (λ ws us vs. more_after key ws us vs b is) a h

pub taken_then_keeps : (key : Key) (old mid new : Option (List ℕ)) (b : FrameBlock) → IsBlock key b → WordsTake key old mid b
    → KeepsFrames key mid new → WordsTake key old new b
taken_then_keeps key old mid new b is h a =
    turns_then (λ ws us. HoldsMore key ws us b) (SameFrames key) (λ ws us. HoldsMore key ws us b) old mid new
    (λ ws us vs. more_before key ws us vs b is) h a

less_before : (key : Key) (ws us vs : List ℕ) (b : FrameBlock) → IsBlock key b → HoldsMore key us ws b → SameFrames key us vs
    → HoldsMore key vs ws b
less_before key ws us vs b is h same = record {
  was_free = λ x e. same_held key us vs x same (covered_inside key b x is e) ∙ h.was_free x e;
  bits = λ x q. omega (arith, h.bits x q, same.bits x q);
  flags = λ c q. omega (arith, h.flags c q, same.flags c q);
}

pub given_then_keeps : (key : Key) (old mid new : Option (List ℕ)) (b : FrameBlock) → IsBlock key b → WordsGive key old mid b
    → KeepsFrames key mid new → WordsGive key old new b
given_then_keeps key old mid new b is h a =
    turns_then (λ ws us. HoldsMore key us ws b) (SameFrames key) (λ ws us. HoldsMore key us ws b) old mid new
    (λ ws us vs. less_before key ws us vs b is) h a
