-- What a clause sees of a reader or a writer that remembers whether it failed.
use Rattle.std.specs.Prelude.{◌≡◌, ℕ, Bool, false, List, Option, take}
use Rattle.std.specs.Io.KnownBytes.{Appends, IsAtEnd}
use Rattle.frame_text.specs.declared.watched.Watched.{Watched}

-- the reader or writer underneath
abbrev pub device_of : {T : Type 0} → Watched T → T
device_of w = w.device

-- whether one of its calls failed
abbrev pub has_failed : {T : Type 0} → Watched T → Bool
has_failed w = w.failed

-- the reader, of which this is left, was read up to its end, and none of its calls failed
abbrev pub IsReadOut : {T : Type 0} → Option (List ℕ) → Watched T → Type 0
IsReadOut left w = IsAtEnd left × (has_failed w ≡ false)

-- a front of the text was written, perhaps none of it
abbrev pub WritesFront : Option (List ℕ) → Option (List ℕ) → List ℕ → Type 0
WritesFront old new text = (n : ℕ) × Appends old new (take n text)
