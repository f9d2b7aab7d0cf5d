-- Which word stands at a place does not depend on the seal.
use Rattle.std.proofs.Common.{◌≡◌, Bool, refl}
use Rattle.frame_words.specs.declared.geometry.Geometry.{Geometry}
use Rattle.frame_model.specs.declared.place.Place.{Place}
use Rattle.frame_model.specs.declared.place.Place.TheVariants.{Entry, Bits, Tree, Local}
use Rattle.frame_model.specs.Words.{tree_place, local_place, bits_place, word_count}
use Rattle.frame_core.specs.Moves.{place_of}
use Rattle.plain_moves.specs.Plain.{plain_key}

pub place_resealed : (geometry : Geometry) (a b : Bool) (place : Place)
    → place_of (plain_key geometry a) place ≡ place_of (plain_key geometry b) place
unfolding tree_place local_place bits_place
place_resealed geometry a b (Entry child) = refl
place_resealed geometry a b (Bits word) = refl
place_resealed geometry a b (Tree tree) = refl
place_resealed geometry a b (Local core) = refl

pub count_resealed : (geometry : Geometry) (a b : Bool)
    → word_count (plain_key geometry a) ≡ word_count (plain_key geometry b)
unfolding word_count
count_resealed geometry a b = refl
