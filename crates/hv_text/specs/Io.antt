-- What a reader gave and a writer took.
use Rattle.std.specs.Prelude.{◌<◌, ◌≤◌, ℕ, Bool, true, false, suc, zero, List, length, take, Option, Result, Ok, Err}
use Rattle.std.specs.Io.KnownBytes.{Appends, Consumes, IsAtEnd}
use Rattle.hv_text.specs.declared.io.DeviceFault.{DeviceFault}
use Rattle.hv_text.specs.declared.io.ReadFault.{ReadFault}
use Rattle.hv_text.specs.declared.io.ReadFault.TheVariants.{Device, TooLong, Memory}

-- how many failures a write counts: one where it failed, or took no byte of a text
-- that is not empty
abbrev pub failure_of : Result ℕ DeviceFault → ℕ → ℕ
failure_of (Err e) n = 1
failure_of (Ok k) zero = 0
failure_of (Ok zero) (suc n) = 1
failure_of (Ok (suc k)) (suc n) = 0

-- the bytes are all that were left, they are no more than the limit, and none is left now
pub record IsRead (old new : Option (List ℕ)) (limit : ℕ) (bytes : List ℕ) : Type 0 where
  pub all : Consumes old new bytes
  pub ended : IsAtEnd new
  pub size : length bytes ≤ limit

-- the reader moved on by the bytes that it gave: more than the limit where they were too many, and
-- else no more
abbrev pub IsReadFault : Option (List ℕ) → Option (List ℕ) → ℕ → ReadFault → Type 0
IsReadFault old new limit Device = (bytes : List ℕ) × Consumes old new bytes
    × (length bytes ≤ limit)
IsReadFault old new limit TooLong = (bytes : List ℕ) × Consumes old new bytes
    × (limit < length bytes)
IsReadFault old new limit Memory = (bytes : List ℕ) × Consumes old new bytes
    × (length bytes ≤ limit)

-- whether a read failed
abbrev pub is_device_fault : {T : Type 0} → Result T ReadFault → Bool
is_device_fault (Ok x) = false
is_device_fault (Err Device) = true
is_device_fault (Err TooLong) = false
is_device_fault (Err Memory) = false

-- a beginning of the text, perhaps all of it, was added to what a writer took
abbrev pub AppendsBeginning : Option (List ℕ) → Option (List ℕ) → List ℕ → Type 0
AppendsBeginning old new text = (n : ℕ) × Appends old new (take n text)
