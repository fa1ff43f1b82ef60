-- What a reader or a writer counts of its failures.
use Rattle.std.specs.Prelude.{◌≡◌, ℕ, ◌+◌, ◌-◌, ◌^◌, ◌<◌, ◌⊎◌, min, Result, Ok, Err}
use Rattle.std.specs.declared.io.Error.{Error}
use Rattle.std.specs.declared.io.ErrorKind.{ErrorKind}
use Rattle.std.specs.declared.io.ErrorKind.TheVariants.{WouldBlock, Interrupted}
use Rattle.std.specs.IoError.{error_kind}
use Rattle.farm_net.specs.declared.device.Counted.{Counted}

abbrev pub device_of : {S : Type 0} → Counted S → S
device_of counted = counted.device

abbrev pub fault_count : {S : Type 0} → Counted S → ℕ
fault_count counted = counted.faults

-- the count after a call that failed so: one that would have blocked or was interrupted may be made again
abbrev pub count_after : ℕ → ErrorKind → ℕ
count_after faults WouldBlock = faults
count_after faults Interrupted = faults
count_after faults _ = min (faults + 1) (2 ^ 64 - 1)

-- the count after a call
abbrev pub Counts : {T : Type 0} → ℕ → ℕ → Result T Error → Type 0
Counts old new (Ok value) = new ≡ old
Counts old new (Err error) = new ≡ count_after old (error_kind error)

-- a call has failed since the count was old, or the count stands as high as it can
abbrev pub HasFailed : ℕ → ℕ → Type 0
HasFailed old new = (old < new) ⊎ (new ≡ 2 ^ 64 - 1)
