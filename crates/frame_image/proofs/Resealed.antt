-- Rebuilt words are so whatever ranges the memory holds back, and whether it is sealed or not.
use Rattle.std.proofs.Common.{false, List, [], ℕ, subst}
use Rattle.frame_words.specs.declared.geometry.Geometry.{Geometry}
use Rattle.frame_model.specs.declared.key.Key.{Key}
use Rattle.frame_model.specs.Key.{key_of}
use Rattle.frame_model.specs.Rebuilt.{IsRebuilt}
use Rattle.frame_model.proofs.HeldBack.{rebuilt_held_back}
use Rattle.plain_moves.specs.Plain.{plain_key}
use Rattle.frame_image.specs.Rebuilding.{RebuildsAny}

pub exact_resealed : (geometry : Geometry) (words : List ℕ) → IsRebuilt (key_of geometry) words words
    → IsRebuilt (plain_key geometry false) words words
exact_resealed geometry words r = rebuilt_held_back (key_of geometry) [] false words words r

pub rebuilds_any : (geometry : Geometry) (old new : List ℕ) → IsRebuilt (key_of geometry) old new
    → RebuildsAny geometry old new
rebuilds_any geometry old new r key sizes =
    let sized : ℕ → ℕ → ℕ → Key = λ a b c. record key { children = a; cores = b; frames = c } in
    let at : IsRebuilt (sized geometry.children geometry.cores geometry.frames) old new =
    rebuilt_held_back (key_of geometry) key.ranges key.sealed old new r in
    let children : IsRebuilt (sized key.children geometry.cores geometry.frames) old new =
    subst (λ a. IsRebuilt (sized a geometry.cores geometry.frames) old new) sizes.0 at in
    let cores : IsRebuilt (sized key.children key.cores geometry.frames) old new =
    subst (λ b. IsRebuilt (sized key.children b geometry.frames) old new) sizes.1 children in
    subst (λ c. IsRebuilt (sized key.children key.cores c) old new) sizes.2 cores
