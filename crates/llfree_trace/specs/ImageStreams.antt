-- The texts that rebuilding and reporting an image show, and why a text is none.
use Rattle.std.specs.Prelude.{ℕ, ◌≡◌, List, Ok}
use Rattle.frame_model.specs.declared.key.Key.{Key}
use Rattle.frame_model.specs.Rebuilt.{IsRebuilt}
use Rattle.frame_text.specs.ImageText.{Explains, image_of, picture_of}
use Rattle.frame_image.specs.Tally.{table_of, tally_of}
use Rattle.frame_words.specs.declared.fault.Fault.{Fault}

-- the bytes spell the rebuilt image of what the text says as an image
pub record IsRebuiltText (text out : List ℕ) : Type 0 where
  pub key : Key
  pub old : List ℕ
  pub new : List ℕ
  pub says : image_of text ≡ Ok (record { key = key; words = old })
  pub rebuilt : IsRebuilt key old new
  pub spells : out ≡ picture_of (record { key = key; words = new })

-- the bytes spell the report of what the text says as an image
pub record IsReportText (text out : List ℕ) : Type 0 where
  pub key : Key
  pub words : List ℕ
  pub says : image_of text ≡ Ok (record { key = key; words = words })
  pub spells : out ≡ table_of (tally_of key words)

-- why an image was not read: the text says none
abbrev pub ExplainsImage : List ℕ → Fault → Type 0
ExplainsImage text f = Explains f (image_of text)
