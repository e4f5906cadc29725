-- Why an appender stops.
use Rattle.std.specs.Prelude.{◌≡◌, ◌<◌, ◌≤◌, ℕ, List, length}
use Rattle.gu_journal.specs.declared.sink.SinkError.{SinkError}
use Rattle.gu_journal.specs.declared.sink.SinkError.TheVariants as sink
use Rattle.gu_journal.specs.declared.stopped.Stopped.{Stopped}
use Rattle.gu_etcd.specs.declared.appender.AppendError.{AppendError}
use Rattle.gu_etcd.specs.declared.appender.AppendError.TheVariants.{Failed, Fenced, Full, Memory}
use Rattle.gu_etcd.specs.declared.node.TheConstants.{LAST_NUMBER}
use Rattle.gu_etcd.specs.Counts.{Counts}

-- an appender stops with `Memory` only if an allocation failed, with `Failed` only if an exchange got no answer, with `Fenced` only if etcd
-- refused, and with `Full` only if no number is left
pub record HasReason {N : Type 0} (counts : Counts N) (kept : List (List ℕ)) (old : N) (stopped : Stopped N AppendError) : Type 0 where
  pub memory : stopped.error ≡ Memory → counts.shortages old < counts.shortages stopped.place
  pub failed : stopped.error ≡ Failed → counts.failures old < counts.failures stopped.place
  pub fenced : stopped.error ≡ Fenced → counts.refusals old < counts.refusals stopped.place
  pub full : stopped.error ≡ Full → LAST_NUMBER ≤ length kept

-- the error of a sink for an appender's
abbrev pub sink_error_of : AppendError → SinkError
sink_error_of Memory = sink.Memory
sink_error_of Failed = sink.Failed
sink_error_of Fenced = sink.Fenced
sink_error_of Full = sink.Full
