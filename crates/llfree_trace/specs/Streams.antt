-- From a reader to a writer: how a call ends that reads all that is left and writes what it makes of it.
use Rattle.std.specs.Prelude.{ℕ, ◌≡◌, ◌≢◌, ◌<◌, ◌⊎◌, Bool, true, false, List, length, Option, Result}
use Rattle.std.specs.Prelude.{IfErr, IfSome, IsErrOf, IsSomeAnd, OnOk}
use Rattle.std.specs.Io.KnownBytes.{Appends}
use Rattle.frame_text.specs.Devices.{WritesFront, device_of, has_failed}
use Rattle.frame_text.specs.declared.devices.TheConstants.{MOST_BYTES}
use Rattle.frame_text.specs.declared.watched.Watched.{Watched}
use Rattle.frame_words.specs.declared.fault.Fault.{Fault}
use Rattle.frame_words.specs.declared.fault.Fault.TheVariants as fault

-- the text that was read is all that a reader had left, if that is known
abbrev pub IsAllOf : Option (List ℕ) → List ℕ → Type 0
IsAllOf left text = IfSome left (λ bytes. text ≡ bytes)

-- the bytes that a reader has left are known, and more than are read
abbrev pub IsTooLong : Option (List ℕ) → Type 0
IsTooLong left = IsSomeAnd left (λ text. MOST_BYTES < length text)

-- the fault comes from outside: memory ran out, or a device failed
abbrev pub IsFromOutside : Fault → Type 0
IsFromOutside fault.NoMemory = Unit {0}
IsFromOutside fault.ReadFailed = Unit {0}
IsFromOutside fault.WriteFailed = Unit {0}
IsFromOutside _ = ⊥

-- the known bytes grow by bytes that show the text that was read
pub record Writes (shows : List ℕ → List ℕ → Type 0) (left old new : Option (List ℕ)) : Type 0 where
  pub text : List ℕ
  pub out : List ℕ
  pub is_all : IsAllOf left text
  pub shown : shows text out
  pub grows : Appends old new out

-- the known bytes grow by a front of such bytes, perhaps none
pub record WritesFrontOf (shows : List ℕ → List ℕ → Type 0) (left old new : Option (List ℕ))
    : Type 0 where
  pub text : List ℕ
  pub out : List ℕ
  pub is_all : IsAllOf left text
  pub shown : shows text out
  pub grows : WritesFront old new out

-- the text that was read explains the fault
pub record IsExplained (explains : List ℕ → Fault → Type 0) (left : Option (List ℕ)) (f : Fault)
    : Type 0 where
  pub text : List ℕ
  pub is_all : IsAllOf left text
  pub explained : explains text f

-- a failed read is told as such; what is told as such is a failed read or a text that is too long,
-- if what the reader had left is known; and no text that is too long is served
pub record TellsReading {T : Type 0} (failed : Bool) (left : Option (List ℕ)) (result : Result T Fault)
    : Type 0 where
  pub failed_read : failed ≡ true → IsErrOf result fault.ReadFailed
  pub is_told :
      IsErrOf result fault.ReadFailed
      → (failed ≡ true) ⊎ IfSome left (λ text. MOST_BYTES < length text)
  pub too_long :
      IsTooLong left → IsErrOf result fault.ReadFailed ⊎ IsErrOf result fault.NoMemory

-- a call reads all that a reader has left and writes what shows this text, and its result tells how
-- that ended
pub record Filters {R W T : Type 0} (remaining : R → Option (List ℕ)) (contents : W → Option (List ℕ))
    (shows : List ℕ → List ℕ → Type 0) (explains : List ℕ → Fault → Type 0)
    (input input' : Watched R) (output output' : Watched W) (result : Result T Fault)
    : Type 0 where
  -- on success exactly bytes that show the text were written
  pub written : OnOk result (Writes shows (remaining (device_of input))
      (contents (device_of output)) (contents (device_of output')))
  -- and neither device has failed
  pub sound : OnOk result ((has_failed input' ≡ false) × (has_failed output' ≡ false))
  -- a failed read and a text that is too long
  pub reading : TellsReading (has_failed input') (remaining (device_of input)) result
  -- any fault that does not come from outside is explained by the text
  pub why : IfErr result
      (λ f. IsFromOutside f ⊎ IsExplained explains (remaining (device_of input)) f)
  -- where a write failed, a front of such bytes was written
  pub write_failed : IsErrOf result fault.WriteFailed → (has_failed output' ≡ true)
      × WritesFrontOf shows (remaining (device_of input)) (contents (device_of output))
      (contents (device_of output'))
  -- any other fault has written nothing
  pub untouched : IfErr result (λ f. f ≢ fault.WriteFailed → output' ≡ output)
