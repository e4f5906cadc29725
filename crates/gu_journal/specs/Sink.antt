-- What a sink keeps of a batch, and why it stops.
use Rattle.std.specs.Prelude.{◌≡◌, ◌⊎◌, ◌<◌, ◌≤◌, ◌^◌, ℕ, List, ◌++◌, length, Option, Some}
use Rattle.gu_journal.specs.declared.sink.SinkError.{SinkError}
use Rattle.gu_journal.specs.declared.sink.SinkError.TheVariants.{Failed, Fenced, Full, Memory}
use Rattle.gu_journal.specs.declared.device.DeviceError.{DeviceError}
use Rattle.gu_journal.specs.declared.device.DeviceError.TheVariants as device
use Rattle.gu_journal.specs.declared.stopped.Stopped.{Stopped}
use Rattle.gu_journal.specs.Text.{IsWholeLines}

-- the sink error for a device error
abbrev pub error_of : DeviceError → SinkError
error_of device.Memory = Memory
error_of device.Failed = Failed
error_of device.Full = Full

-- what was kept is found, followed by a prefix of the batch in whole lines
pub record HasBegun (kept batch : List ℕ) (outcome : Option (List ℕ)) : Type 0 where
  pub lines : List ℕ
  pub rest : List ℕ
  pub batch_is : batch ≡ lines ++ rest
  pub whole : IsWholeLines lines
  pub outcome_is : outcome ≡ Some (kept ++ lines)

-- a place that no other writer can have refuses no call
abbrev pub no_refusals : {P : Type 0} → P → ℕ
no_refusals place = 0

-- a sink stops with `Failed` only if its place failed, with `Full` only if its place had no room or its text is too long, and with
-- `Fenced` only if its place refused a call
pub record HasReason {P : Type 0} (failures refusals shortages : P → ℕ) (kept : List ℕ) (old : P) (stopped : Stopped P SinkError) : Type 0 where
  pub failed : stopped.error ≡ Failed → failures old < failures stopped.place
  pub full : stopped.error ≡ Full → (shortages old < shortages stopped.place) ⊎ (2 ^ 63 ≤ length kept)
  pub fenced : stopped.error ≡ Fenced → refusals old < refusals stopped.place
